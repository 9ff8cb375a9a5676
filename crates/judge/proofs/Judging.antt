-- A book is true if its kinds, the figures of its runs, its number of groups and what is measured on its routes are right: the tests in the order of the code.
use mathlib.Core.Path.{◌≡◌, refl, sym, ap, ◌∙◌}
use mathlib.Core.Bool.{Bool, true, false, ◌&&◌}
use mathlib.Core.List.{List}
use Prim.Native.Nat.{ℕ, ◌<◌}
use Rattle.std.specs.Prelude.{Ok, Err}
use native.Mathlib.Omega.{arith}
use borrow.Author.Tests.{eq-eqb, ne_eqb, eqb-true}
use lib.Dec.{eqb}
use lib.ListN.{length, get_or}
use Rattle.network.specs.Lists.{every}
use Rattle.network.specs.Plane.{Run}
use Rattle.network.specs.Hanan.{hanan}
use Rattle.network.specs.Graph.{run_at, below}
use Rattle.network.proofs.Tests.{and_split, and_join, same_test}
use Rattle.refusal.specs.declared.Refusal.TheVariants.{OtherJob, Untrue}
use Rattle.job.specs.declared.Run.{Run as Read}
use Rattle.plan.specs.declared.Head.{Head}
use Rattle.plan.specs.Plan.{Entry, head_of}
use Rattle.book.specs.Parse.{accepted}
use Rattle.planner.specs.Call.{runs_of}
use Rattle.planner.specs.Held.{runs_in}
use Rattle.planner.proofs.Held.{length_held, length_plane}
use Rattle.judge.specs.declared.Known.{Known}
use Rattle.judge.specs.True.{drawn_in}
use Rattle.judge.specs.Judged.{is_manhattan, entry_at, is_of, is_true, judgement_of}
use Rattle.judge.specs.Steps.{Knows, is_measured}
use Rattle.judge.proofs.TrueIff.{every_at, at_every, test_true, true_test}

module _ (k : Known) (K : Knows k) (h : Head) (es : List Entry) where
  abbrev runs : List Read
  runs = runs_in k.job

  abbrev plane : List Run
  plane = runs_of (runs_in k.job)

  abbrev is : Head
  is = head_of 0 (runs_of (runs_in k.job)) (drawn_in es)

  -- the figures of run i are those that are known
  abbrev those : ℕ → Bool
  those i = eqb (entry_at es i).meets (get_or k.meets i 0) && eqb (entry_at es i).centre (get_or k.centres i 0)

  -- route i is a Manhattan path of run i
  abbrev shortest : ℕ → Bool
  shortest i = is_manhattan (hanan plane) (run_at plane i) (entry_at es i).corners

  abbrev figured : Bool
  figured = every those (below k.job.count)

  abbrev grouped : Bool
  grouped = eqb h.last k.groups

  abbrev routed : Bool
  routed = every shortest (below (length plane))

  abbrev headed : Bool
  headed = eqb h.trench is.trench && (eqb h.saved is.saved && eqb h.pits is.pits)

  forth : is_true runs h es ≡ true → h.grouped && (figured && (grouped && is_measured plane h es)) ≡ true
  unfolding is_measured
  forth t =
      let (H, E) = test_true 0 runs h es t in
      let n = length_held k.job in
      and_join h.grouped (figured && (grouped && (routed && headed))) H.kinds
      (and_join figured (grouped && (routed && headed))
      (at_every those k.job.count
      (λ i l.
      let e = E i (omega (arith, n)) in
      and_join (eqb (entry_at es i).meets (get_or k.meets i 0)) (eqb (entry_at es i).centre (get_or k.centres i 0)) (eq-eqb _ _ (e.meets_is ∙ sym (K.meets_are i l)))
      (eq-eqb _ _ (e.centre_is ∙ sym (K.centres_are i l)))))
      (and_join grouped (routed && headed) (eq-eqb _ _ (H.last_is ∙ sym K.groups_are))
      (and_join routed headed (at_every shortest (length plane) (λ i l. (E i (omega (arith, n, length_plane k.job))).route_is))
      (and_join (eqb h.trench is.trench) (eqb h.saved is.saved && eqb h.pits is.pits) (eq-eqb _ _ H.trench_is)
      (and_join (eqb h.saved is.saved) (eqb h.pits is.pits) (eq-eqb _ _ H.saved_is) (eq-eqb _ _ H.pits_are))))))

  back : h.grouped && (figured && (grouped && is_measured plane h es)) ≡ true → is_true runs h es ≡ true
  unfolding is_measured
  back t =
      let (a, t1) = and_split h.grouped (figured && (grouped && (routed && headed))) t in
      let (b, t2) = and_split figured (grouped && (routed && headed)) t1 in
      let (c, t3) = and_split grouped (routed && headed) t2 in
      let (d, t4) = and_split routed headed t3 in
      let (e, t5) = and_split (eqb h.trench is.trench) (eqb h.saved is.saved && eqb h.pits is.pits) t4 in
      let (f, g) = and_split (eqb h.saved is.saved) (eqb h.pits is.pits) t5 in
      true_test 0 runs h es
      (record {
        kinds = a;
        trench_is = eqb-true _ _ e;
        saved_is = eqb-true _ _ f;
        pits_are = eqb-true _ _ g;
        last_is = eqb-true _ _ c ∙ K.groups_are;
      })
      (λ i l.
      let n = length_held k.job in
      let m : i < k.job.count = omega (arith, n) in
      let (p, q) = and_split (eqb (entry_at es i).meets (get_or k.meets i 0)) (eqb (entry_at es i).centre (get_or k.centres i 0)) (every_at those k.job.count b i m) in
      record {
        meets_is = eqb-true _ _ p ∙ K.meets_are i m;
        centre_is = eqb-true _ _ q ∙ K.centres_are i m;
        route_is = every_at shortest (length plane) d i (omega (arith, n, length_plane k.job));
      })

  -- the tests in their order
  pub in_turn : is_true runs h es ≡ h.grouped && (figured && (grouped && is_measured plane h es))
  in_turn = same_test (is_true runs h es) (h.grouped && (figured && (grouped && is_measured plane h es))) forth back

  -- one of them fails, or all but the last hold
  pub older_fails : h.grouped ≡ false → false ≡ is_true runs h es
  older_fails e = sym (in_turn ∙ ap (λ b. b && (figured && (grouped && is_measured plane h es))) e)

  pub figures_fail : false ≡ figured → false ≡ is_true runs h es
  figures_fail e = go h.grouped ∙ ap (λ b. h.grouped && (b && (grouped && is_measured plane h es))) e ∙ sym in_turn
    where
      go : (a : Bool) → false ≡ a && false
      go true = refl
      go false = refl

  pub groups_fail : (h.last ≡ k.groups → ⊥) → false ≡ is_true runs h es
  groups_fail d = go h.grouped figured ∙ ap (λ b. h.grouped && (figured && (b && is_measured plane h es))) (sym (ne_eqb h.last k.groups d)) ∙ sym in_turn
    where
      go : (a b : Bool) → false ≡ a && (b && false)
      go true true = refl
      go true false = refl
      go false b = refl

  pub measured_decides : h.grouped ≡ true → true ≡ figured → h.last ≡ k.groups → is_measured plane h es ≡ is_true runs h es
  measured_decides a b c = sym (in_turn ∙ rw (a, ← b, eq-eqb h.last k.groups c))

-- ---- the judgement

module _ (number : ℕ) (runs : List Read) (place : ℕ) (h : Head) (es : List Entry) where
  pub of_another : false ≡ is_of number runs h es → Err (OtherJob place) ≡ judgement_of number runs place (accepted h es)
  unfolding judgement_of
  of_another e = rw (← e)

  pub not-true : true ≡ is_of number runs h es → false ≡ is_true runs h es → Err (Untrue place) ≡ judgement_of number runs place (accepted h es)
  unfolding judgement_of
  not-true e f = rw (← e, ← f)

  pub passes_both : true ≡ is_of number runs h es → true ≡ is_true runs h es → Ok h.trench ≡ judgement_of number runs place (accepted h es)
  unfolding judgement_of
  passes_both e f = rw (← e, ← f)

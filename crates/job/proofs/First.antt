-- What reading refuses is the first refusal that applies, and a job is accepted exactly if none applies. The reader passes the records front to
-- back, and each in its turn (`Turns`): along the reading every run before is right, so the first record that does not pass decides.
-- Assumes nothing.
use Prim.Native.Nat.{ℕ, zero, suc, ◌+◌, ◌≤◌}
use mathlib.Core.Path.{◌≡◌, refl, sym, ap, ◌∙◌, subst}
use mathlib.Core.Logic.{inl, ◌↔◌}
use mathlib.Core.List.{List}
use native.Mathlib.Omega.{arith}
use lib.ListN.{drop}
use lib.Seq.{drop-drop}
use Rattle.job.specs.declared.Run.{Run}
use Rattle.job.specs.declared.Record.{Record}
use Rattle.job.specs.declared.Record.TheVariants as rec
use Rattle.refusal.specs.declared.Refusal.{Refusal}
use Rattle.refusal.specs.declared.Refusal.TheVariants.{Cut, UnknownKind, Misplaced}
use Rattle.std.specs.Prelude.{Some, None, Ok, Err}
use Rattle.refusal.specs.Refusal.{refusal_place}
use Rattle.job.specs.Applies.{Kind, head, run, end, byte_of, Whole, Behind, AppliesIn, cut_inside, cut_before_end, unknown_kind, no_head, second_head, after_end, wrong_count, number_zero, number_above, not_rising, out_of_range, run_33, coincident}
use Rattle.job.specs.Order.{turn_of, Sooner, by_stage, by_place, by_turn, FirstOf}
use Rattle.job.specs.Records.{record_of}
use Rattle.job.specs.Parse.{Step, Parsed, accepted, refused, step_of, with_first, proceed, read_from, first_by, parse}
use Rattle.job.proofs.Decoded.{CutAt, inside, before_end, UnknownAt}
use Rattle.job.proofs.There.{There, there, behind_within}
use Rattle.job.proofs.Located.{one_stage, in_order, Passed}
use Rattle.job.proofs.Turns.{Told, Sorted, unknown, cut, rest, least_four, least_three, least_five, step_told}
use Rattle.job.proofs.Order.{sooner_total}

-- ---- the whole reading

-- what a reading says: nothing applies, or the first that applies
abbrev Said : List ℕ → Parsed → Type 0
Said s (accepted number runs) = (x : Refusal) → AppliesIn s x → ⊥
Said s (refused x) = FirstOf (AppliesIn s) x

-- a run in front changes nothing of that
with_first_said : (s : List ℕ) (r : Run) (q : Parsed) → Said s q → Said s (with_first r q)
with_first_said s r (accepted number runs) a = a
with_first_said s r (refused x) a = a

-- what a step makes of the later records
proceed_said : (s : List ℕ) (number n p : ℕ) (later : Run → Parsed) → ((r : Run) → Passed s (suc n) (p + 19) r.number → Said s (later r))
    → (t : Step) → Told s n p t → Said s (proceed number later t)
proceed_said s number n p later f (Ok (Some r)) a = with_first_said s r (later r) (f r a)
proceed_said s number n p later f (Ok None) a = a
proceed_said s number n p later f (Err x) a = a

-- the reading from the record behind n runs on
read_said : (records : ℕ) (s : List ℕ) (number n p last : ℕ) → records + n ≡ 33 → Passed s n p last → Said s (read_from records number p n last (drop p s))
unfolding read_from
read_said zero s number n p last e h = absurd (omega (arith, h.most))
read_said (suc records) s number n p last e h =
    proceed_said s number n p (λ r. read_from records number (p + 19) (suc n) r.number (drop 19 (drop p s)))
    (λ r a. subst (λ (b : List ℕ). Said s (read_from records number (p + 19) (suc n) r.number b)) (sym (drop-drop 19 p s))
    (read_said records s number (suc n) (p + 19) r.number (omega arith) a))
    (step_of p n last (drop p s))
    (step_told s n p last h (record_of (drop p s)) (there s p (behind_within s n p h.behind)))

-- ---- the first record

-- a record behind the head does not stand at 0
not_first : {A : Type 0} (s : List ℕ) (n p : ℕ) → Behind s n p → p ≡ 0 → A
not_first s n p b e = absurd (omega (arith, b.at))

-- what applies at 0, by its turn
at_first : (s : List ℕ) (x : Refusal) → AppliesIn s x → refusal_place x ≡ 0 → Sorted s 0 x
at_first s x (cut_inside {p} k b h l) e = let c : CutAt s p = inside k h l in cut refl (rw e at c)
at_first s x (cut_before_end b) e = cut refl (before_end (sym e))
at_first s x (unknown_kind {p} b l f) e = let u : UnknownAt s p = record { within = l; none = f } in unknown refl (rw e at u)
at_first s x (no_head l f) e = rest (omega arith)
at_first s x (second_head b h) e = rest (omega arith)
at_first s x (after_end b h l) e = rest (omega arith)
at_first s x (wrong_count b h d) e = not_first s _ _ b e
at_first s x (number_zero b h d) e = not_first s _ _ b e
at_first s x (number_above b h l) e = not_first s _ _ b e
at_first s x (not_rising b h l) e = not_first s _ _ b e
at_first s x (out_of_range i b h l f) e = not_first s _ _ b e
at_first s x (run_33 b h) e = not_first s _ _ b e
at_first s x (coincident b h f g) e = not_first s _ _ b e

module _ (s : List ℕ) where
  -- what applies at 0 is the first, if nothing else that applies there has an earlier turn
  first_first : (x : Refusal) → refusal_place x ≡ 0 → AppliesIn s x → ((y : Refusal) → Sorted s 0 y → turn_of x ≤ turn_of y) → FirstOf (AppliesIn s) x
  first_first x e a least = record { applies = a; first = go }
    where
      go : (y : Refusal) → AppliesIn s y → Sooner y x → ⊥
      go y b (by_stage l) = omega (arith, one_stage s x a, one_stage s y b)
      go y b (by_place t l) = omega arith
      go y b (by_turn t r l) = omega (arith, least y (at_first s y b (r ∙ e)))

  -- a whole record of another kind than a head
  other_first : (k : Kind) → (byte_of k ≡ byte_of head → ⊥) → Whole k s 0 → FirstOf (AppliesIn s) (Misplaced 0)
  other_first k f w =
      first_first (Misplaced 0) refl (no_head w.0.0 (λ e. f (sym w.0.1 ∙ e)))
      (least_five s 0 k w)

  -- behind the head, before any run
  passed_none : Whole head s 0 → Passed s 0 5 0
  passed_none w =
      record {
        behind = record { at = refl; headed = w; runs = λ i l. absurd (omega arith) };
        most = omega arith;
        is_last = refl;
        right = λ i l. absurd (omega arith);
      }

  -- a first record that is cut
  cut_first : CutAt s 0 → AppliesIn s (Cut 0)
  cut_first (inside k h l) = cut_inside k (inl refl) h l
  cut_first (before_end e) = rw e (cut_before_end (inl (sym e)))

  -- the reading by the first record
  first_said : (g : Record) → There s 0 g → Said s (first_by g (drop 5 s))
  unfolding first_by
  first_said rec.Unknown u = first_first (UnknownKind 0) refl (unknown_kind (inl refl) u.within u.none) (least_four s 0)
  first_said rec.Cut c = first_first (Cut 0) refl (cut_first c) (least_three s 0 c)
  first_said (rec.Head number) w = read_said 33 s number 0 5 0 refl (passed_none w)
  first_said (rec.Run r) (w, e) = other_first run (λ d. omega arith) w
  first_said (rec.End count) (w, e) = other_first end (λ d. omega arith) w

  -- reading accepts where nothing applies, and refuses with the first that applies
  parse_said : Said s (parse s)
  unfolding parse
  parse_said = first_said (record_of s) (there s 0 (omega arith))

-- a job is refused exactly with the first refusal that applies
pub first_applies : (s : List ℕ) (x : Refusal) → (parse s ≡ refused x) ↔ FirstOf (AppliesIn s) x
first_applies s x = (λ e. rw e at (parse_said s), λ f. go f (parse s) (parse_said s) refl)
  where
    go : FirstOf (AppliesIn s) x → (q : Parsed) → Said s q → parse s ≡ q → parse s ≡ refused x
    go f (accepted number runs) a e = absurd (a x f.applies)
    go f (refused y) a e = e ∙ ap refused (sooner_total y x (in_order s y a.applies) (in_order s x f.applies) (f.first y a.applies) (a.first x f.applies))

-- a job is accepted exactly if none applies
pub none_applies : (s : List ℕ) → ((number : ℕ) × (runs : List Run) × (parse s ≡ accepted number runs)) ↔ ((x : Refusal) → AppliesIn s x → ⊥)
none_applies s = (λ (number, runs, e). rw e at (parse_said s), λ f. go f (parse s) (parse_said s) refl)
  where
    go : ((x : Refusal) → AppliesIn s x → ⊥) → (q : Parsed) → Said s q → parse s ≡ q → (number : ℕ) × (runs : List Run) × (parse s ≡ accepted number runs)
    go f (accepted number runs) a e = (number, runs, e)
    go f (refused x) a e = absurd (f x a.applies)

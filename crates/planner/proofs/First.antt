-- The verdict is the first refusal that applies in document 01's order, and there is none exactly if none applies. Each stage of the verdict is one stage
-- of the order: what applies in an earlier stage was tested there, and the stage of the records is the reader's own law.
use mathlib.Core.Path.{◌≡◌, refl, sym, ap, ◌∙◌, subst}
use mathlib.Core.Logic.{◌↔◌, ◌⊎◌, inl, inr}
use mathlib.Core.List.{List}
use Prim.Native.Nat.{ℕ, ◌≤◌, ◌<◌}
use native.Mathlib.Omega.{arith}
use native.Mathlib.Decide.{dec_le}
use Rattle.job.specs.declared.Run.{Run as Read}
use Rattle.refusal.specs.declared.Refusal.{Refusal}
use Rattle.refusal.specs.declared.Refusal.TheVariants.{ShortWork, ShortBuffer, NoStar}
use Rattle.job.specs.Order.{stage_of, Sooner, by_stage, by_place, by_turn, FirstOf}
use Rattle.job.specs.Parse.{Parsed, accepted, refused, parse}
use Rattle.job.specs.Written.{Bytes}
use Rattle.job.proofs.Accepted.{accepted_iff}
use Rattle.job.proofs.Order.{InOrder, sooner_total, sooner_self}
use Rattle.job.proofs.Located.{in_order}
use Rattle.job.proofs.First.{first_applies, none_applies}
use Rattle.planner.specs.Call.{runs_of}
use Rattle.planner.specs.Forecast.{words_for, bytes_for}
use Rattle.planner.specs.Verdict.{verdict}
use Rattle.planner.specs.Demands.{JobIn, AreStars, Applies, in_bytes, short_work, short_plan, no_star}
use Rattle.planner.proofs.Stars.{judged_accepts, judged_refuses, job_star, job_read, same_job}
use Rattle.planner.proofs.Verdicts.{few_words, few_bytes, read_weighed, enough, unread, lent_enough}

-- a refusal is no acceptance
not_both : (x : Refusal) (number : ℕ) (runs : List Read) → refused x ≡ accepted number runs → ⊥
not_both x number runs e = let z : ◌≡◌ {A = ℕ} 0 1 = cc in omega arith

-- 11 comes before nothing of an earlier stage
last_stage : (y : Refusal) → Sooner NoStar y → stage_of y < stage_of NoStar → ⊥
last_stage y (by_stage h) l = omega arith
last_stage y (by_place e h) l = omega arith
last_stage y (by_turn e f h) l = omega arith

module _ (job : List ℕ) (words bytes : ℕ) (b : Bytes job) where
  -- ---- the job cannot be read: 3 to 9, and 17

  first_in : (x : Refusal) → parse job ≡ refused x → FirstOf (Applies job words bytes) x
  first_in x e = record { applies = in_bytes ((first_applies job x).0 e).applies; first = not_first }
    where
      not_read : JobIn job → ⊥
      not_read j = not_both x j.number j.runs (sym e ∙ job_read job b j)

      not_first : (y : Refusal) → Applies job words bytes y → Sooner y x → ⊥
      not_first y (in_bytes a) s = ((first_applies job x).0 e).first y a s
      not_first y (short_work j h) s = not_read j
      not_first y (short_plan j h) s = not_read j
      not_first y (no_star j n) s = not_read j

  -- ---- it is read: 1, 2, 11

  module _ (number : ℕ) (runs : List Read) (e : parse job ≡ accepted number runs) where
    -- what applies then
    data Later : Refusal → Type 0 where
      words_few : words < words_for (runs_of runs) → Later ShortWork
      bytes_few : bytes < bytes_for (runs_of runs) → Later ShortBuffer
      ungrouped : (AreStars (runs_of runs) → ⊥) → Later NoStar

    later : (y : Refusal) → Applies job words bytes y → Later y
    later y (in_bytes a) = absurd ((none_applies job).0 (number, runs, e) y a)
    later ShortWork (short_work j h) = words_few (subst (λ rs. words < words_for (runs_of rs)) (sym (same_job job b j number runs e).1) h)
    later ShortBuffer (short_plan j h) = bytes_few (subst (λ rs. bytes < bytes_for (runs_of rs)) (sym (same_job job b j number runs e).1) h)
    later NoStar (no_star j n) = ungrouped (λ s. n (subst (λ rs. AreStars (runs_of rs)) (same_job job b j number runs e).1 s))

    abbrev job_in : JobIn job
    job_in = let (w, j) = (accepted_iff job number runs b).0 e in record { number = number; runs = runs; well_formed = w; written = j }

    first_1 : words < words_for (runs_of runs) → FirstOf (Applies job words bytes) ShortWork
    first_1 h = record { applies = short_work job_in h; first = λ y a s. not_first (later y a) s }
      where
        not_first : {y : Refusal} → Later y → Sooner y ShortWork → ⊥
        not_first (words_few l) s = sooner_self ShortWork s
        not_first (bytes_few l) (by_stage o) = omega arith
        not_first (bytes_few l) (by_place o p) = omega arith
        not_first (bytes_few l) (by_turn o p q) = omega arith
        not_first (ungrouped n) s = last_stage ShortWork s (omega arith)

    first_2 : words_for (runs_of runs) ≤ words → bytes < bytes_for (runs_of runs) → FirstOf (Applies job words bytes) ShortBuffer
    first_2 h k = record { applies = short_plan job_in k; first = λ y a s. not_first (later y a) s }
      where
        not_first : {y : Refusal} → Later y → Sooner y ShortBuffer → ⊥
        not_first (words_few l) s = omega arith
        not_first (bytes_few l) s = sooner_self ShortBuffer s
        not_first (ungrouped n) s = last_stage ShortBuffer s (omega arith)

    first_11 : words_for (runs_of runs) ≤ words → bytes_for (runs_of runs) ≤ bytes → (AreStars (runs_of runs) → ⊥) → FirstOf (Applies job words bytes) NoStar
    first_11 h k n = record { applies = no_star job_in n; first = λ y a s. not_first (later y a) s }
      where
        not_first : {y : Refusal} → Later y → Sooner y NoStar → ⊥
        not_first (words_few l) s = omega arith
        not_first (bytes_few l) s = omega arith
        not_first (ungrouped n) s = sooner_self NoStar s

    -- the verdict by its stages
    read_first : (x : Refusal) → verdict job words bytes ≡ refused x → FirstOf (Applies job words bytes) x
    read_first x v = go (dec_le (words_for (runs_of runs)) words) (dec_le (bytes_for (runs_of runs)) bytes)
      where
        same : (y : Refusal) → verdict job words bytes ≡ refused y → y ≡ x
        same y q = let z : refused y ≡ refused x = sym q ∙ v in cc

        judge : words_for (runs_of runs) ≤ words → bytes_for (runs_of runs) ≤ bytes
            → (parse job ≡ refused x) ⊎ ((n : ℕ) × (rs : List Read) × (parse job ≡ accepted n rs) × (AreStars (runs_of rs) → ⊥) × (x ≡ NoStar))
            → FirstOf (Applies job words bytes) x
        judge h k (inl r) = absurd (not_both x number runs (sym r ∙ e))
        judge h k (inr (n, rs, r, o, z)) =
            let q : rs ≡ runs = let p : accepted n rs ≡ accepted number runs = sym r ∙ e in cc in
            subst (FirstOf (Applies job words bytes)) (sym z) (first_11 h k (λ s. o (subst (λ l. AreStars (runs_of l)) (sym q) s)))

        go : Dec (words_for (runs_of runs) ≤ words) → Dec (bytes_for (runs_of runs) ≤ bytes) → FirstOf (Applies job words bytes) x
        go (no h) d =
            let l : words < words_for (runs_of runs) = omega arith in
            subst (FirstOf (Applies job words bytes)) (same ShortWork (read_weighed job number runs e words bytes ∙ few_words _ _ words bytes _ l)) (first_1 l)
        go (yes h) (no k) =
            let l : bytes < bytes_for (runs_of runs) = omega arith in
            subst (FirstOf (Applies job words bytes)) (same ShortBuffer (read_weighed job number runs e words bytes ∙ few_bytes _ _ words bytes _ h l)) (first_2 h l)
        go (yes h) (yes k) = judge h k (judged_refuses (parse job) x (sym (enough job number runs e words bytes h k) ∙ v))

  refused_first : (x : Refusal) → verdict job words bytes ≡ refused x → FirstOf (Applies job words bytes) x
  refused_first x v = go (parse job) refl
    where
      go : (p : Parsed) → parse job ≡ p → FirstOf (Applies job words bytes) x
      go (accepted number runs) e = read_first number runs e x v
      go (refused y) e = let z : y ≡ x = let q : refused y ≡ refused x = sym (unread job y words bytes e) ∙ v in cc in subst (FirstOf (Applies job words bytes)) z (first_in y e)

  -- where the verdict is a job, nothing applies
  accepted_none : (number : ℕ) (runs : List Read) → verdict job words bytes ≡ accepted number runs → (x : Refusal) → Applies job words bytes x → ⊥
  accepted_none number runs v x a =
      let (h, k, d) = lent_enough job words bytes number runs v in
      let e = (judged_accepts (parse job) number runs d).0 in
      none h k (job_star job b number runs d).2 (later number runs e x a)
    where
      none : {number : ℕ} {e : parse job ≡ accepted number runs} → words_for (runs_of runs) ≤ words → bytes_for (runs_of runs) ≤ bytes → AreStars (runs_of runs) → {x : Refusal} → Later number runs e x → ⊥
      none h k s (words_few l) = omega arith
      none h k s (bytes_few l) = omega arith
      none h k s (ungrouped n) = n s

  -- what applies stands in the order
  ordered : (x : Refusal) → Applies job words bytes x → InOrder x
  ordered x (in_bytes a) = in_order job x a
  ordered x (short_work j h) = omega arith
  ordered x (short_plan j h) = omega arith
  ordered x (no_star j n) = omega arith

  -- THE FIRST THAT APPLIES IS GIVEN
  pub first_given : (x : Refusal) → (verdict job words bytes ≡ refused x) ↔ FirstOf (Applies job words bytes) x
  first_given x = (refused_first x, λ f. given f (verdict job words bytes) refl)
    where
      given : FirstOf (Applies job words bytes) x → (v : Parsed) → verdict job words bytes ≡ v → verdict job words bytes ≡ refused x
      given f (accepted number runs) e = absurd (accepted_none number runs e x f.applies)
      given f (refused y) e =
          let r = refused_first y e in
          e ∙ ap refused (sooner_total y x (ordered y r.applies) (ordered x f.applies) (f.first y r.applies) (r.first x f.applies))

  -- AND NONE OTHERWISE
  pub none_given : ((number : ℕ) × (runs : List Read) × (verdict job words bytes ≡ accepted number runs)) ↔ ((x : Refusal) → Applies job words bytes x → ⊥)
  none_given = (λ a. accepted_none a.0 a.1 a.2, λ n. given n (verdict job words bytes) refl)
    where
      given : ((x : Refusal) → Applies job words bytes x → ⊥) → (v : Parsed) → verdict job words bytes ≡ v
          → (number : ℕ) × (runs : List Read) × (verdict job words bytes ≡ accepted number runs)
      given n (accepted number runs) e = (number, runs, e)
      given n (refused y) e = absurd (n y (refused_first y e).applies)

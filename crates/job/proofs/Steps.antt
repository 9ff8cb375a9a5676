-- What a step says of its record: a run that is taken, and an end that is reached.
-- Assumes nothing.
use Prim.Native.Nat.{ℕ, ◌<◌, ◌≤◌}
use mathlib.Core.Path.{◌≡◌, refl, sym, ap, ◌∙◌}
use mathlib.Core.List.{List}
use mathlib.Core.Bool.{Bool, true, false, cond, not, ◌&&◌, and-eq-true_iff, true≢false}
use native.Mathlib.Omega.{arith}
use borrow.Author.Tests.{ltb-true, leb-true, leb-false, ltb-false, eqb-true, eq-eqb, not-false}
use lib.Dec.{ltb, leb, eqb}
use lib.ListN.{length}
use Rattle.job.specs.declared.Run.{Run}
use Rattle.job.specs.declared.Record.{Record}
use Rattle.job.specs.declared.Record.TheVariants as rec
use Rattle.refusal.specs.declared.Refusal.{Refusal}
use Rattle.std.specs.Prelude.{Some, None, Ok, Err}
use Rattle.job.specs.Parse.{Step, follows, coordinates_in, coincide, run_step, end_step, step_by}
use Rattle.job.specs.Written.{InRange, Coincide}

-- what a test comes to, where it does not come to its first side: it failed, and this is its second
pub passed : {A : Type 0} (b : Bool) (x y v : A) → cond b x y ≡ v → (x ≡ v → ⊥) → (b ≡ false) × (y ≡ v)
passed true x y v e never = absurd (never e)
passed false x y v e never = (refl, e)

-- the three kinds of step differ
refuse_next : (x : Refusal) (r : Run) → ◌≡◌ {A = Step} (Err x) (Ok (Some r)) → ⊥
refuse_next x r e = let z : ◌≡◌ {A = ℕ} 0 1 = cc in omega arith

refuse_end : (x : Refusal) → ◌≡◌ {A = Step} (Err x) (Ok None) → ⊥
refuse_end x e = let z : ◌≡◌ {A = ℕ} 0 1 = cc in omega arith

-- a run number from 1 to 9,999, above the last
pub record Follows (last number : ℕ) : Type 0 where
  pub least : 1 ≤ number
  pub most : number ≤ 9999
  pub rises : last < number

-- a number that the reader takes
pub follows_true : (last number : ℕ) → follows last number ≡ true → Follows last number
follows_true last number t =
    let f = (and-eq-true_iff (leb 1 number && leb number 9999) (ltb last number)).0 t in
    let g = (and-eq-true_iff (leb 1 number) (leb number 9999)).0 f.0 in
    record { least = leb-true _ _ g.0; most = leb-true _ _ g.1; rises = ltb-true _ _ f.1 }

-- four coordinates in their range
pub record Coordinates (r : Run) : Type 0 where
  pub x1_in : r.x1 ≤ 2000000
  pub y1_in : r.y1 ≤ 2000000
  pub x2_in : r.x2 ≤ 2000000
  pub y2_in : r.y2 ≤ 2000000

-- coordinates that the reader takes
pub coordinates_true : (r : Run) → coordinates_in r ≡ true → Coordinates r
coordinates_true r t =
    let y2 = (and-eq-true_iff (leb r.x1 2000000 && leb r.y1 2000000 && leb r.x2 2000000) (leb r.y2 2000000)).0 t in
    let x2 = (and-eq-true_iff (leb r.x1 2000000 && leb r.y1 2000000) (leb r.x2 2000000)).0 y2.0 in
    let y1 = (and-eq-true_iff (leb r.x1 2000000) (leb r.y1 2000000)).0 x2.0 in
    record { x1_in = leb-true _ _ y1.0; y1_in = leb-true _ _ y1.1; x2_in = leb-true _ _ x2.1; y2_in = leb-true _ _ y2.1 }

-- a run that passes both tests is in range
pub tested_range : (last : ℕ) (r : Run) → follows last r.number ≡ true → coordinates_in r ≡ true → InRange r
tested_range last r s t =
    let f = follows_true last r.number s in
    let g = coordinates_true r t in
    record { least = f.least; most = f.most; x1_in = g.x1_in; y1_in = g.y1_in; x2_in = g.x2_in; y2_in = g.y2_in }

-- points that the test finds one
pub coincide_true : (r : Run) → coincide r ≡ true → Coincide r
coincide_true r t =
    let e = (and-eq-true_iff (eqb r.x1 r.x2) (eqb r.y1 r.y2)).0 t in
    (eqb-true _ _ e.0, eqb-true _ _ e.1)

-- and points that it does not
pub coincide_false : (r : Run) → coincide r ≡ false → Coincide r → ⊥
coincide_false r t (x, y) = true≢false (sym ((and-eq-true_iff (eqb r.x1 r.x2) (eqb r.y1 r.y2)).1 (eq-eqb _ _ x, eq-eqb _ _ y)) ∙ t)

-- points apart do not pass the test
pub apart_tested : (r : Run) → (Coincide r → ⊥) → coincide r ≡ false
apart_tested r apart = go (coincide r) refl
  where
    go : (b : Bool) → coincide r ≡ b → coincide r ≡ false
    go true e = absurd (apart (coincide_true r e))
    go false e = e

-- a run that is taken, after n others of which the last has the number last
pub record Taken (n last : ℕ) (g : Record) (r : Run) : Type 0 where
  pub is : g ≡ rec.Run r
  pub below : n < 32
  pub rises : last < r.number
  pub range : InRange r
  pub apart : Coincide r → ⊥

-- a run record that is taken passes the tests of `run_step`
taken_run : (at n last : ℕ) (q r : Run) → run_step at n last q ≡ Ok (Some r) → Taken n last (rec.Run q) r
unfolding run_step
taken_run at n last q r e =
    let a = passed (leb 32 n) _ _ _ e (refuse_next _ r) in
    let b = passed (not (follows last q.number)) _ _ _ a.1 (refuse_next _ r) in
    let c = passed (not (coordinates_in q)) _ _ _ b.1 (refuse_next _ r) in
    let d = passed (coincide q) _ _ _ c.1 (refuse_next _ r) in
    let same : q ≡ r = cc d.1 in
    let f = not-false _ b.0 in
    rw (← same)
    (record {
      is = refl;
      below = leb-false _ _ a.0;
      rises = (follows_true last q.number f).rises;
      range = tested_range last q f (not-false _ c.0);
      apart = coincide_false q d.0;
    })

-- an end that is reached: its count is that of the runs before it, and no byte comes after it
pub record Ended (n : ℕ) (bytes : List ℕ) (g : Record) : Type 0 where
  pub is : g ≡ rec.End n
  pub last : length bytes ≤ 3

-- an end record that ends the job passes the tests of `end_step`
ended_end : (at n count : ℕ) (bytes : List ℕ) → end_step at n count bytes ≡ Ok None → Ended n bytes (rec.End count)
unfolding end_step
ended_end at n count bytes e =
    let a = passed (not (eqb count n)) _ _ _ e (refuse_end _) in
    let b = passed (ltb 3 (length bytes)) _ _ _ a.1 (refuse_end _) in
    record { is = ap rec.End (eqb-true count n (not-false _ a.0)); last = ltb-false _ _ b.0 }

-- a run is no end
next_end : (r : Run) → ◌≡◌ {A = Step} (Ok (Some r)) (Ok None) → ⊥
next_end r e = let z : ◌≡◌ {A = ℕ} 0 1 = cc in omega arith

-- a run record does not end the job, and an end record is no run
run_end : (at n last : ℕ) (q : Run) → run_step at n last q ≡ Ok None → ⊥
unfolding run_step
run_end at n last q e =
    let a = passed (leb 32 n) _ _ _ e (refuse_end _) in
    let b = passed (not (follows last q.number)) _ _ _ a.1 (refuse_end _) in
    let c = passed (not (coordinates_in q)) _ _ _ b.1 (refuse_end _) in
    next_end q (passed (coincide q) _ _ _ c.1 (refuse_end _)).1

end_next : (at n count : ℕ) (bytes : List ℕ) (r : Run) → end_step at n count bytes ≡ Ok (Some r) → ⊥
unfolding end_step
end_next at n count bytes r e =
    let a = passed (not (eqb count n)) _ _ _ e (refuse_next _ r) in
    next_end r (sym (passed (ltb 3 (length bytes)) _ _ _ a.1 (refuse_next _ r)).1)

-- one more run is a run record that passes the tests 9, 7, 8 and 17
pub taken : (at n last : ℕ) (bytes : List ℕ) (g : Record) (r : Run) → step_by at n last bytes g ≡ Ok (Some r) → Taken n last g r
unfolding step_by
taken at n last bytes rec.Unknown r e = absurd (refuse_next _ r e)
taken at n last bytes rec.Cut r e = absurd (refuse_next _ r e)
taken at n last bytes (rec.Head number) r e = absurd (refuse_next _ r e)
taken at n last bytes (rec.Run q) r e = taken_run at n last q r e
taken at n last bytes (rec.End count) r e = absurd (end_next at n count bytes r e)

-- the end is an end record that passes the tests 6 and 5
pub ended : (at n last : ℕ) (bytes : List ℕ) (g : Record) → step_by at n last bytes g ≡ Ok None → Ended n bytes g
unfolding step_by
ended at n last bytes rec.Unknown e = absurd (refuse_end _ e)
ended at n last bytes rec.Cut e = absurd (refuse_end _ e)
ended at n last bytes (rec.Head number) e = absurd (refuse_end _ e)
ended at n last bytes (rec.Run q) e = absurd (run_end at n last q e)
ended at n last bytes (rec.End count) e = ended_end at n count bytes e

-- The run records, written one behind the other: the runs from index i on, behind what is written, complete all.
-- Assumes nothing.
use Prim.Native.Nat.{ℕ, ◌+◌, ◌-◌, ◌*◌, ◌<◌, ◌≤◌}
use mathlib.Core.Path.{◌≡◌, refl, sym, ◌∙◌}
use mathlib.Core.List.{List, ◌++◌}
use mathlib.Core.Bool.{true}
use native.Mathlib.Omega.{arith}
use native.Mathlib.Numerals.{add-one}
use lib.IntN.{ℤ, pos}
use lib.ListN.{length}
use lib.Signed.{le_z}
use borrow.Rule.Slice.PartMut.{mid_of, put_mid}
use Rattle.fields.specs.Bytes.{Wrote}
use Rattle.fields.proofs.Over.{Rest, rest_all, rest_next, rest_none}
use Rattle.std.specs.Prelude.{Ok}
use Rattle.job.specs.Written.{run_bytes, runs_bytes}
use Rattle.job.proofs.Accepted.{runs_length}
use Rattle.job_writer.specs.Listed.{listed_at, run_of, runs_from, number_before, coordinates_in, run_answer, runs_answer}
use Rattle.job_writer.proofs.Signed.{follows_least}
use Rattle.job_writer.proofs.Runs.{neither, run_passed, left_more, answers_next, runs_count}

pub record Writing (list : List ℤ) (count : ℕ) (xs ys : List ℕ) (at i : ℕ) : Type 0 where
  pub few : i ≤ count
  pub place : at ≡ 19 * i
  pub good : runs_answer list (count - i) i ≡ Ok tt
  pub rest : Rest (runs_bytes (runs_from list count 0)) (runs_bytes (runs_from list (count - i) i)) xs ys at

-- at first all are left
pub writing_all : (list : List ℤ) (count : ℕ) (xs : List ℕ) → runs_answer list count 0 ≡ Ok tt → 19 * count ≤ length xs → Writing list count xs xs 0 0
writing_all list count xs e h =
    let n : count - 0 ≡ count = omega arith in
    record {
      few = omega arith;
      place = refl;
      good = rw n e;
      rest = rw n (rest_all _ xs (omega (arith, runs_length (runs_from list count 0), runs_count list count 0)));
    }

module _ (list : List ℤ) (count : ℕ) (xs ys : List ℕ) (at i : ℕ) (w : Writing list count xs ys at i) (h : i < count) where
  -- the next run and those after it are accepted
  both : (run_answer list i ≡ Ok tt) × (runs_answer list (count - (i + 1)) (i + 1) ≡ Ok tt)
  both = neither (run_answer list i) (runs_answer list (count - (i + 1)) (i + 1)) (sym (answers_next list count i h) ∙ w.good)

  -- the next run can be held
  pub next_held : (le_z (pos 1) (listed_at list i).number ≡ true) × (coordinates_in (listed_at list i) ≡ true)
  next_held =
      let p = run_passed list i both.0 in
      (follows_least (number_before list i) (listed_at list i).number p.0, p.1)

  next_bytes : runs_bytes (runs_from list (count - i) i) ≡ run_bytes (run_of (listed_at list i)) ++ runs_bytes (runs_from list (count - (i + 1)) (i + 1))
  unfolding runs_from runs_bytes
  next_bytes = rw (left_more count i h, add-one i) refl

  -- there is room for it
  pub next_room : at + 19 ≤ length ys
  next_room =
      let n = runs_length (runs_from list count 0) in
      omega (arith, w.place, w.rest.same, w.rest.room, runs_count list count 0)

  -- it is written
  pub writing_next : (zs : List ℕ) (n : ℕ) → Wrote (run_bytes (run_of (listed_at list i))) (mid_of at (length ys - at) ys) zs n
      → Writing list count xs (put_mid at (length ys - at) ys zs) (at + n) (i + 1)
  writing_next zs n e =
      record {
        few = omega arith;
        place = omega (arith, w.place, e.size);
        good = both.1;
        rest = rest_next _ (run_bytes (run_of (listed_at list i))) _ xs ys zs at n (rw next_bytes at w.rest) e;
      }

-- all are written
pub writing_end : (list : List ℤ) (count : ℕ) (xs ys : List ℕ) (at i : ℕ) → Writing list count xs ys at i → count ≤ i
    → Wrote (runs_bytes (runs_from list count 0)) xs ys at × (at ≡ 19 * count)
unfolding runs_from runs_bytes
writing_end list count xs ys at i w h =
    let e : count - i ≡ 0 = omega arith in
    (rest_none _ xs ys at (rw e at w.rest), omega (arith, w.place, w.few))

-- How long texts are: a right book's has at most 85 characters for the head, 50 for each run and 18 for each of at most 127 corners, a refusal's at most 35,
-- a choice's at most 72. So a buffer of 74,837 bytes has room for each.
use mathlib.Core.Bool.{Bool, true, false}
use mathlib.Core.List.{List, [], ◌∷◌, ◌++◌, flat_map}
use Prim.Native.Nat.{ℕ, ◌+◌, ◌*◌, ◌≤◌, ◌<◌, ◌^◌}
use native.Mathlib.Omega.{arith}
use lib.ListN.{length, length-append}
use Rattle.network.specs.Lists.{All}
use Rattle.network.specs.Plane.{Point}
use Rattle.refusal.specs.declared.Refusal.{Refusal}
use Rattle.refusal.proofs.Numbers.{refusal_numbers}
use Rattle.refusal.specs.Refusal.{refusal_number, refusal_place}
use Rattle.plan.specs.declared.Head.{Head}
use Rattle.plan.specs.Plan.{Entry}
use Rattle.plan.specs.Fits.{PointIn, HeadFits, CentreFits}
use Rattle.book.specs.Right.{RightEntry, RightBook}
use Rattle.text.specs.Numerals.{ascii}
use Rattle.text.specs.Text.{last_text, head_text, centre_text, point_text, entry_text, plan_text, refusal_text, chosen_text}
use Rattle.text.proofs.Numerals.{decimal_length}
use Rattle.text.proofs.Signed.{decimetres_length}

-- the head's last figure
last_length : (g : Bool) (n : ℕ) → n < 65536 → length (last_text g n) ≤ 13
last_length true n h = simp length-append (omega (arith, decimal_length 4 n (omega arith)))
last_length false n h = simp length-append (omega (arith, decimal_length 4 n (omega arith)))

-- a route's centre
centre_length : (g : Bool) (n : ℕ) → CentreFits g n → length (centre_text g n) ≤ 13
centre_length true n h = last_length false n h
centre_length false n h = omega arith

-- the head, without its line feed
head_length : (h : Head) → HeadFits h → length (head_text h) ≤ 84
head_length h f =
    simp length-append (omega (
      arith,
      decimal_length 9 h.job (omega (arith, f.job_fits)),
      decimal_length 4 h.runs (omega (arith, f.runs_fits)),
      last_length h.grouped h.last f.last_fits,
      decimal_length 9 h.trench (omega (arith, f.trench_fits)),
      decimal_length 9 h.saved (omega (arith, f.saved_fits)),
      decimal_length 4 h.pits (omega (arith, f.pits_fits)),
    ))

-- a corner, with the space before it
point_length : (p : Point) → PointIn p → length (point_text p) ≤ 18
point_length p f = simp length-append (omega (arith, decimetres_length p.x f.x_in, decimetres_length p.y f.y_in))

-- the corners of a route
points_length : (ps : List Point) → All PointIn ps → length (flat_map point_text ps) ≤ 18 * length ps
unfolding flat_map
points_length [] a = omega arith
points_length (p ∷ ps) a = omega (arith, length-append (point_text p) (flat_map point_text ps), point_length p a.0, points_length ps a.1)

-- the line of a run, without its line feed
entry_length : (g : Bool) (e : Entry) → RightEntry g e → length (entry_text g e) ≤ 49 + 18 * length e.corners
entry_length g e r =
    simp length-append (omega (
      arith,
      decimal_length 4 e.number (omega (arith, r.number_fits)),
      decimal_length 4 e.meets (omega (arith, r.meets_fits)),
      centre_length g e.centre r.centre_fits,
      decimal_length 2 (length e.corners) (omega (arith, r.few)),
      points_length e.corners r.in_range,
    ))

-- the lines of all runs, which have at most 127 corners each
entries_length : (g : Bool) (es : List Entry) → All (RightEntry g) es → length (flat_map (λ e. entry_text g e ++ ascii "\n") es) ≤ 2336 * length es
unfolding flat_map
entries_length g [] r = omega arith
entries_length g (e ∷ es) r =
    let lines = flat_map (λ e. entry_text g e ++ ascii "\n") es in
    omega (
      arith,
      length-append (entry_text g e ++ ascii "\n") lines,
      length-append (entry_text g e) (ascii "\n"),
      entry_length g e r.0,
      r.0.few,
      entries_length g es r.1,
    )

-- no text of a right book exceeds 74,837 bytes
pub plan_text_most : (head : Head) (es : List Entry) → RightBook head es → length (plan_text head es) ≤ 74837
unfolding plan_text
plan_text_most head es r =
    omega (
      arith,
      length-append (head_text head ++ ascii "\n") (flat_map (λ e. entry_text head.grouped e ++ ascii "\n") es),
      length-append (head_text head) (ascii "\n"),
      head_length head r.head_fits,
      entries_length head.grouped es r.entries,
      r.few,
    )

-- ---- refusals

-- a refusal's number has at most two digits, and a place is a number of 64 bits
pub refusal_length : (r : Refusal) → refusal_place r < 2 ^ 64 → length (refusal_text r) ≤ 35
unfolding refusal_text
refusal_length r h =
    simp length-append (omega (arith, decimal_length 1 (refusal_number r) (omega (arith, refusal_numbers r)), decimal_length 19 (refusal_place r) (omega arith)))

-- ---- choices

-- trench figures are numbers of 32 bits
pub chosen_length : (second : Bool) (trench other : ℕ) → trench < 2 ^ 32 → other < 2 ^ 32 → length (chosen_text second trench other) ≤ 72
chosen_length true trench other h k =
    simp length-append (omega (arith, decimal_length 9 trench (omega arith), decimal_length 9 other (omega arith)))
chosen_length false trench other h k =
    simp length-append (omega (arith, decimal_length 9 trench (omega arith), decimal_length 9 other (omega arith)))

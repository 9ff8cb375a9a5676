-- The stretch of a leaf as a part of the table of the centre's steps.
--
-- Its moves are consecutive, so it is the part that starts after as many moves as go before it and is as long as it. How far it goes along the column
-- follows from its length and how far it goes along the row.
use mathlib.Core.Path.{◌≡◌, refl, sym, ap, ap₂, ◌∙◌}
use mathlib.Core.List.{List, [], ◌∷◌, ◌++◌, map, map-append}
use Prim.Native.Nat.{ℕ, zero, suc, ◌+◌, ◌-◌, ◌≤◌, ◌<◌}
use native.Mathlib.Omega.{arith}
use borrow.Author.Tests.{ne_eqb}
use lib.ListN.{length, length-append, length-map, length-take, get_or, take, drop}
use lib.Seq.{take-suc, take-take, drop-append_seam, slice}
use Rattle.network.specs.Steps.{ver}
use Rattle.sharing.specs.Trace.{Move}
use Rattle.sharing.specs.Walk.{dirs, moved}
use Rattle.sharing.specs.Leaf.{before, stretch}
use Rattle.table.specs.declared.trace.Trace.{Trace}
use Rattle.table.specs.Walk.{dir_by, move_at, moves_of}
use Rattle.route.specs.Route.{dir_of}
use Rattle.network.proofs.StepCounts.{steps_all}
use Rattle.layout.specs.declared.Stretch.{Stretch}
use Rattle.layout.specs.Stretch.{Found, Together}
use Rattle.layout.proofs.Finding.{first_moves, moves_length, moved_few}
use Rattle.layout.proofs.Lists.{map_take, map_drop}

-- a step's direction is the same for the table and the route
dir_is : (v : ℕ) → dir_by v ≡ dir_of v
dir_is zero = refl
dir_is (suc v) = rw (ne_eqb (suc v) 0 (λ e. omega arith))

-- the directions of the first n moves
pub dirs_moves : (steps shares : List ℕ) (n : ℕ) → n ≤ length steps → dirs (first_moves steps shares n) ≡ map dir_of (take n steps)
dirs_moves steps shares zero h = refl
dirs_moves steps shares (suc n) h =
    map-append (λ (x : Move). x.dir) (first_moves steps shares n) (move_at steps shares n ∷ [])
    ∙ ap₂ (λ l d. l ++ d ∷ []) (dirs_moves steps shares n (omega arith)) (dir_is (get_or steps n 0))
    ∙ sym (ap (map dir_of) (take-suc steps n 0 (omega arith)) ∙ map-append dir_of (take n steps) (get_or steps n 0 ∷ []))

module _ (moves : Trace) (k : ℕ) (s : Stretch) (count : moves.count ≤ length moves.steps) (together : Together k (moves_of moves)) (found : Found k (moves_of moves) s)
    (some : 0 < s.size) where
  -- the stretch ends among the moves
  pub stretch_fits : s.from + s.size ≤ moves.count
  stretch_fits =
      let M = moves_of moves in
      let n = length (before k M) + length (stretch k M) in
      omega (
        arith,
        found.size_is,
        found.from_is some,
        ap length together,
        length-append (before k M) (stretch k M),
        length-take n M,
        moves_length moves.steps moves.shares moves.count,
      )

  -- it is a part of the table
  pub stretch_part : dirs (stretch k (moves_of moves)) ≡ map dir_of (slice s.from (s.from + s.size) moves.steps)
  stretch_part =
      let M = moves_of moves in
      let t = moves.steps in
      let n = s.from + s.size in
      let e : n ≡ length (before k M) + length (stretch k M) = ap₂ ◌+◌ (found.from_is some) found.size_is in
      let whole : dirs (before k M) ++ dirs (stretch k M) ≡ map dir_of (take n t)
      = sym (map-append (λ (x : Move). x.dir) (before k M) (stretch k M)) ∙ ap dirs (sym together ∙ ap (λ i. take i M) (sym e))
      ∙ map_take (λ (x : Move). x.dir) n M ∙ ap (take n) (dirs_moves t moves.shares moves.count count)
      ∙ sym (map_take dir_of n (take moves.count t)) ∙ ap (map dir_of) (take-take n moves.count t stretch_fits) in
      let size : s.from ≡ length (dirs (before k M)) = found.from_is some ∙ sym (length-map (before k M) (λ (x : Move). x.dir)) in
      sym (drop-append_seam (dirs (before k M)) (dirs (stretch k M))) ∙ ap₂ drop (sym size) whole ∙ sym (map_drop dir_of s.from (take n t))

  -- how many of its moves go along the column
  pub stretch_high : moved ver (stretch k (moves_of moves)) ≡ s.size - s.wide
  stretch_high =
      let m = stretch k (moves_of moves) in
      omega (arith, found.size_is, found.wide_is, steps_all (dirs m), length-map m (λ (x : Move). x.dir))

  -- and of the moves before it
  pub before_high : moved ver (before k (moves_of moves)) ≡ s.from - s.across
  before_high =
      let m = before k (moves_of moves) in
      omega (arith, found.from_is some, found.across_is some, steps_all (dirs m), length-map m (λ (x : Move). x.dir))

  -- no more of them go along the row than there are
  pub across_few : (s.across ≤ s.from) × (s.wide ≤ s.size)
  across_few =
      let M = moves_of moves in
      (omega (arith, found.from_is some, found.across_is some, moved_few (before k M)), omega (arith, found.size_is, found.wide_is, moved_few (stretch k M)))

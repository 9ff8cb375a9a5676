-- From runs between vertices of a grid to the centre's view: a planner that knows the index of the line of each coordinate has the view and the boxes.
use mathlib.Core.Path.{◌≡◌, refl, ap, ap₂, ◌∙◌}
use mathlib.Core.Bool.{Bool, true, false}
use Prim.Native.Nat.{ℕ, ◌≤◌, ◌<◌}
use native.Mathlib.Omega.{arith}
use lib.Dec.{ltb}
use borrow.Author.Tests.{ltb-true, ltb-false}
use lib.ListN.{length, get_or}
use Rattle.network.specs.Plane.{Point, Run, ◌to◌}
use Rattle.network.specs.Grid.{Grid}
use Rattle.network.specs.Steps.{Dir, hor, ver}
use Rattle.network.proofs.Lanes.{point_path}
use Rattle.sharing.specs.View.{lines, View, facing, index, numbered, box_at, coordinate, Shows, coordinate_of, Indexed}
use Rattle.sharing.proofs.View.{index_fits}

-- counting back and back again
index_twice : (f : Bool) (n i : ℕ) → i < n → index f n (index f n i) ≡ i
index_twice false n i h = refl
index_twice true n i h = omega arith

module _ (v : View) where
  -- the line with a point's index has the point's coordinate
  point_is : (p : Point) (i : Dir → ℕ) → Indexed v.grid p i → (d : Dir) → coordinate v d (numbered v d (i d)) ≡ coordinate_of p d
  point_is p i x d =
      ap (λ j. get_or (lines v.grid d) j 0) (index_twice (v.flip d) (length (lines v.grid d)) (i d) (x.fits d)) ∙ x.at_line d

  -- the box of the indexes of a run's lines shows the run
  pub indexed_shows : (r : Run) (i j : Dir → ℕ) → Indexed v.grid r.first i → Indexed v.grid r.second j → Shows v r (box_at v i j)
  indexed_shows r i j x y =
      record {
        first_fits = λ d. index_fits v d (i d) (x.fits d);
        second_fits = λ d. index_fits v d (j d) (y.fits d);
        same_run = ap₂ ◌to◌ (point_path (point_is r.first i x hor) (point_is r.first i x ver))
            (point_path (point_is r.second j y hor) (point_is r.second j y ver));
      }

-- in the view that faces a run, the run goes right and up
pub facing_rises : (g : Grid) (i j : Dir → ℕ) → ((d : Dir) → i d < length (lines g d)) → ((d : Dir) → j d < length (lines g d))
    → (d : Dir) → (box_at (facing g i j) i j).first d ≤ (box_at (facing g i j) i j).second d
facing_rises g i j h k d = go (ltb (j d) (i d)) refl
  where
    go : (f : Bool) → ltb (j d) (i d) ≡ f → index f (length (lines g d)) (i d) ≤ index f (length (lines g d)) (j d)
    go true e = omega (arith, ltb-true (j d) (i d) e, h d, k d)
    go false e = ltb-false (j d) (i d) e

-- Rounding a plane to a grid turns the paths of unit steps of a run into Manhattan routes of it, wherever the points between the lines go, if only
-- the vertices stay and the order is kept in both coordinates.
use mathlib.Core.Path.{◌≡◌, refl, ap, ap₂, ◌∙◌, subst, subst₂}
use mathlib.Core.Logic.{⊎_map, ⊎_swap}
use mathlib.Core.List.{List, [], ◌∷◌, map, flat_map}
use native.Mathlib.Omega.{arith}
use lib.ListN.{length}
use Rattle.network.specs.Lists.{sum, All}
use Rattle.network.specs.Plane.{Point, Run, ◌to◌, distance}
use Rattle.network.specs.Grid.{Grid}
use Rattle.network.specs.Route.{Route, pieces_from, pieces, last_from, Vertex, Straight, Manhattan, Routes}
use Rattle.network.specs.Boxes.{Placed}
use Rattle.network.proofs.Lists.{all_member, all_flat_map, all_imp, paired_map, paired_all}
use Rattle.network.proofs.Monotone.{Towards, Monotone, monotone_from, manhattan_of, in_box}
use Rattle.unit.specs.Paths.{UnitStep, UnitPath, UnitPaths}
use Rattle.unit.proofs.Edges.{unit_kind}

-- ---- paths of unit steps

-- a unit step is straight
pub unit_straight : (r : Run) → UnitStep r → Straight r
unit_straight r h = ⊎_swap (⊎_map (λ k. k.0) (λ k. k.0) (unit_kind r h))

-- unit steps are together as long as they are many
unit_sum : (l : List Run) → All UnitStep l → sum distance l ≡ length l
unit_sum [] u = refl
unit_sum (r ∷ l) u = omega (arith, unit_sum l u.1, u.0)

-- a path of unit steps goes towards its end
unit_monotone : (run : Run) (p : Point) (l : List Point) → UnitPath run (p ∷ l) → Monotone p l run.second
unit_monotone run p l w =
    let e : distance (p to last_from p l) ≡ distance run = ap₂ (λ a b. distance (a to b)) w.starts w.ends in
    rw w.ends at (monotone_from p l (omega (arith, w.shortest, unit_sum (pieces_from p l) w.unit)))

-- so it stays in its run's box: no coordinate of it is beyond those of the run's points
pub unit_in_box : (run : Run) (path : Route) → UnitPath run path → All (λ p. Towards run.first p run.second) path
unit_in_box run [] w = tt
unit_in_box run (p ∷ l) w = subst (λ o. All (λ r. Towards o r run.second) (p ∷ l)) w.starts (in_box p l run.second (unit_monotone run p l w))

-- all steps of such paths are unit steps
pub all_unit : (runs : List Run) (paths : List Route) → UnitPaths runs paths → All UnitStep (flat_map pieces paths)
all_unit runs paths u =
    all_flat_map (λ path. All UnitStep (pieces path)) UnitStep pieces (λ path a. a) paths
    (paired_all UnitPath (λ path. All UnitStep (pieces path)) runs paths (λ run path p. p.unit) u)

-- ---- rounding

-- f takes every point to a vertex and every vertex to itself, and keeps lines and the order on them
pub record Rounds (g : Grid) (f : Point → Point) : Type 0 where
  pub vertex : (p : Point) → Vertex g (f p)
  pub fixed : (p : Point) → Vertex g p → f p ≡ p
  pub same_x_lem : {p q : Point} → p.x ≡ q.x → (f p).x ≡ (f q).x
  pub same_y_lem : {p q : Point} → p.y ≡ q.y → (f p).y ≡ (f q).y
  pub goes : {p q z : Point} → Towards p q z → Towards (f p) (f q) (f z)

module _ (g : Grid) (f : Point → Point) (w : Rounds g f) where
  all_vertices : (l : List Point) → All (Vertex g) (map f l)
  all_vertices [] = tt
  all_vertices (p ∷ l) = (w.vertex p, all_vertices l)

  still_straight : (p : Point) (l : List Point) → All Straight (pieces_from p l) → All Straight (pieces_from (f p) (map f l))
  still_straight p [] s = tt
  still_straight p (q ∷ l) s = (⊎_map w.same_x_lem w.same_y_lem s.0, still_straight q l s.1)

  still_monotone : (p : Point) (l : List Point) (z : Point) → Monotone p l z → Monotone (f p) (map f l) (f z)
  still_monotone p [] z m = ap f m
  still_monotone p (q ∷ l) z m = (w.goes m.0, still_monotone q l z m.1)

  -- a path of unit steps becomes a Manhattan route
  rounded_path : (run : Run) (path : Route) → Placed g run → UnitPath run path → Manhattan g run (map f path)
  rounded_path run [] j u = absurd u.starts
  rounded_path run (p ∷ l) j u =
      subst₂ (λ o e. Manhattan g (o to e) (map f (p ∷ l))) (ap f u.starts ∙ w.fixed run.first j.first_vertex) (w.fixed run.second j.second_vertex)
      (manhattan_of g (f p) (map f l) (f run.second) (all_vertices (p ∷ l)) (still_straight p l (all_imp UnitStep Straight unit_straight (pieces_from p l) u.unit))
      (still_monotone p l run.second (unit_monotone run p l u)))

  pub rounded_paths : (runs : List Run) (paths : List Route) → All (Placed g) runs → UnitPaths runs paths → Routes g runs (map (map f) paths)
  rounded_paths runs paths j u =
      paired_map UnitPath (Manhattan g) (map f) runs paths (λ run path m p. rounded_path run path (all_member (Placed g) j m) p) u

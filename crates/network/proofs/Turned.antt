-- A Manhattan route walked from its end to its start is one of the turned run, on the same edges.
use mathlib.Core.Path.{◌≡◌, refl, sym, ap, ◌∙◌, subst}
use mathlib.Core.Logic.{inl, inr}
use mathlib.Core.List.{List, [], ◌∷◌, reverse, reverse_aux}
use mathlib.Core.Bool.{Bool, ◌||◌, or_assoc, or_comm, or-false}
use Prim.Native.Nat.{ℕ, ◌+◌}
use native.Mathlib.Omega.{arith}
use Rattle.network.specs.Lists.{sum, any, All}
use Rattle.network.specs.Plane.{Point, Run, ◌to◌, distance}
use Rattle.network.specs.Grid.{Grid, Edge}
use Rattle.network.specs.Route.{pieces_from, pieces, last_from, Starts, Ends, Route, Vertex, Straight, Manhattan, on, lies}
use Rattle.network.proofs.Tests.{lies_turned}
use Rattle.network.proofs.Numbers.{gap_turned}

-- the run from its second point to its first
abbrev pub turned : Run → Run
turned r = r.second to r.first

-- it has the same distance
distance_turned : (r : Run) → distance (turned r) ≡ distance r
unfolding distance
distance_turned r = omega (arith, gap_turned r.first.x r.second.x, gap_turned r.first.y r.second.y)

-- and is straight if the run is
straight_turned : (r : Run) → Straight r → Straight (turned r)
straight_turned r (inl e) = inl (sym e)
straight_turned r (inr e) = inr (sym e)

-- ---- the points and pieces of a reversed list: l is still to be turned, p and the points of a are behind it

-- it starts at the last point
reverse_starts : (p : Point) (l a : List Point) → Starts (reverse_aux l (p ∷ a)) (last_from p l)
reverse_starts p [] a = refl
reverse_starts p (q ∷ l) a = reverse_starts q l (p ∷ a)

-- it ends at the first point
reverse_ends : (p : Point) (l a : List Point) → Ends (reverse_aux l (p ∷ a)) (last_from p a)
reverse_ends p [] a = refl
reverse_ends p (q ∷ l) a = reverse_ends q l (p ∷ a)

-- what holds of all elements still does
reverse_all : {A : Type 0} (P : A → Type 0) (l a : List A) → All P l → All P a → All P (reverse_aux l a)
reverse_all P [] a h k = k
reverse_all P (x ∷ l) a h k = reverse_all P l (x ∷ a) h.1 (h.0, k)

-- what holds of all pieces, and of a turned piece, still does
reverse_pieces : (P : Run → Type 0) → ((r : Run) → P r → P (turned r)) → (p : Point) (l a : List Point)
    → All P (pieces_from p l) → All P (pieces_from p a) → All P (pieces (reverse_aux l (p ∷ a)))
reverse_pieces P t p [] a h k = k
reverse_pieces P t p (q ∷ l) a h k = reverse_pieces P t q l (p ∷ a) h.1 (t (p to q) h.0, k)

-- a sum over the pieces
reverse_sum : (f : Run → ℕ) → ((r : Run) → f (turned r) ≡ f r) → (p : Point) (l a : List Point)
    → sum f (pieces (reverse_aux l (p ∷ a))) ≡ sum f (pieces_from p l) + sum f (pieces_from p a)
reverse_sum f t p [] a = omega arith
reverse_sum f t p (q ∷ l) a = omega (arith, reverse_sum f t q l (p ∷ a), t (p to q))

-- a test of the pieces
reverse_any : (f : Run → Bool) → ((r : Run) → f (turned r) ≡ f r) → (p : Point) (l a : List Point)
    → any f (pieces (reverse_aux l (p ∷ a))) ≡ any f (pieces_from p l) || any f (pieces_from p a)
reverse_any f t p [] a = refl
reverse_any f t p (q ∷ l) a =
    reverse_any f t q l (p ∷ a)
    ∙ sym (or_assoc (any f (pieces_from q l)) (f (q to p)) (any f (pieces_from p a)))
    ∙ ap (λ b. b || any f (pieces_from p a)) (or_comm (any f (pieces_from q l)) (f (q to p)) ∙ ap (λ b. b || any f (pieces_from q l)) (t (p to q)))

-- ---- the route

-- reversed, it is a Manhattan route of the turned run
pub turned_manhattan : (g : Grid) (run : Run) (route : Route) → Manhattan g run route → Manhattan g (turned run) (reverse route)
turned_manhattan g run [] m = absurd m.starts
turned_manhattan g run (p ∷ l) m =
    record {
      starts = subst (Starts (reverse (p ∷ l))) m.ends (reverse_starts p l []);
      ends = subst (Ends (reverse (p ∷ l))) m.starts (reverse_ends p l []);
      vertices = reverse_all (Vertex g) (p ∷ l) [] m.vertices tt;
      straight = reverse_pieces Straight straight_turned p l [] m.straight tt;
      shortest = omega (arith, reverse_sum distance distance_turned p l [], m.shortest, distance_turned run);
    }

-- on the same edges
pub turned_on : (e : Edge) (route : Route) → on e (reverse route) ≡ on e route
turned_on e [] = refl
turned_on e (p ∷ l) = reverse_any (lies e) (λ r. lies_turned e r.second r.first) p l [] ∙ or-false (any (lies e) (pieces_from p l))

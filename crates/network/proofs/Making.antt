-- Making Manhattan routes: the route with one bend between any two vertices, and two routes end to end.
use mathlib.Core.Path.{◌≡◌, refl, sym, ap, ◌∙◌, subst, subst₂}
use mathlib.Core.Logic.{inl, inr}
use mathlib.Core.List.{List, [], ◌∷◌, ◌++◌}
use mathlib.Core.Bool.{◌||◌}
use Prim.Native.Nat.{ℕ}
use native.Mathlib.Omega.{arith}
use Rattle.network.specs.Lists.{any}
use Rattle.network.proofs.Lists.{any_append, all_append}
use Rattle.network.specs.Plane.{Point, ◌to◌}
use Rattle.network.specs.Grid.{Grid, Edge}
use Rattle.network.specs.Route.{Route, pieces_from, last_from, Vertex, Straight, Manhattan, on, lies}
use Rattle.network.proofs.Numbers.{Between, rise, fall, between_here, between_there}
use Rattle.network.proofs.Monotone.{Towards, Monotone, monotone, manhattan_of}

-- ---- one bend

-- the point in p's row and z's column
abbrev pub bend : Point → Point → Point
bend p z = record { x = z.x; y = p.y }

-- from p along the row, then along the column to z
abbrev pub bent : Point → Point → Route
bent p z = p ∷ bend p z ∷ z ∷ []

-- between any two vertices it is a Manhattan route
pub bent_manhattan : (g : Grid) (p z : Point) → Vertex g p → Vertex g z → Manhattan g (p to z) (bent p z)
bent_manhattan g p z u v =
    manhattan_of g p (bend p z ∷ z ∷ []) z
    (u, (record { column = v.column; row = u.row }, (v, tt)))
    (inr refl, (inl refl, tt)) (
      record { in_x = between_there (between_here p.x z.x); in_y = between_here p.y z.y },
      (record { in_x = between_here z.x z.x; in_y = between_there (between_here p.y z.y) }, refl),
    )

-- ---- end to end

-- of the points a, b, q, z of a way, b is on the way from a to z, and q on the way from b to z
between_further : {a b q z : ℕ} → Between a b q → Between a q z → Between a b z
between_further (rise h k) (rise m n) = rise h (omega arith)
between_further (rise h k) (fall m n) = fall (omega arith) (omega arith)
between_further (fall h k) (rise m n) = rise (omega arith) (omega arith)
between_further (fall h k) (fall m n) = fall (omega arith) k

-- q is between b and z
between_rest : {a b q z : ℕ} → Between a b q → Between a q z → Between b q z
between_rest (rise h k) (rise m n) = rise k n
between_rest (rise h k) (fall m n) = fall m (omega arith)
between_rest (fall h k) (rise m n) = rise (omega arith) n
between_rest (fall h k) (fall m n) = fall m h

-- in the plane: b is on the way from a to z
further : {a b q z : Point} → Towards a b q → Towards a q z → Towards a b z
further t u = record { in_x = between_further t.in_x u.in_x; in_y = between_further t.in_y u.in_y }

-- and q on the way from b to z
rest : {a b q z : Point} → Towards a b q → Towards a q z → Towards b q z
rest t u = record { in_x = between_rest t.in_x u.in_x; in_y = between_rest t.in_y u.in_y }

-- the second route without its first point, behind the first
abbrev pub end_to_end : Route → Route → Route
end_to_end p [] = p
end_to_end p (b ∷ k) = p ++ k

-- a walk that goes on where another ends: its pieces stand behind those of the other
pub pieces_append : (a b : Point) (l k : List Point) → last_from a l ≡ b → pieces_from a (l ++ k) ≡ pieces_from a l ++ pieces_from b k
pieces_append a b [] k e = ap (λ q. pieces_from q k) e
pieces_append a b (q ∷ l) k e = ap (λ t. (a to q) ∷ t) (pieces_append q b l k e)

-- where it ends, both end
pub last_append : (a : Point) (l k : List Point) → last_from a (l ++ k) ≡ last_from (last_from a l) k
last_append a [] k = refl
last_append a (q ∷ l) k = last_append q l k

-- and two monotone walks are one
monotone_append : (b z : Point) (k : List Point) (a : Point) (l : List Point) → Monotone a l b → Towards a b z → Monotone b k z → Monotone a (l ++ k) z
monotone_append b z k a [] f t h = subst (λ q. Monotone q k z) (sym f) h
monotone_append b z k a (q ∷ l) f t h = (further f.0 t, monotone_append b z k q l f.1 (rest f.0 t) h)

-- two Manhattan routes end to end, where the second starts on the way to its end, are one
pub end_to_end_lem : (g : Grid) (a b c : Point) (p q : Route) → Manhattan g (a to b) p → Manhattan g (b to c) q → Towards a b c → Manhattan g (a to c) (end_to_end p q)
end_to_end_lem g a b c [] q m n t = absurd m.starts
end_to_end_lem g a b c (o ∷ l) [] m n t = absurd n.starts
end_to_end_lem g a b c (o ∷ l) (d ∷ k) m n t =
    let e : last_from o l ≡ d = m.ends ∙ sym n.starts in
    subst (λ s. Manhattan g (s to c) (o ∷ l ++ k)) m.starts
    (manhattan_of g o (l ++ k) c (all_append (Vertex g) (o ∷ l) k m.vertices n.vertices.1)
    (rw (pieces_append o d l k e) (all_append Straight (pieces_from o l) (pieces_from d k) m.straight n.straight))
    (monotone_append d c k o l (subst (Monotone o l) (sym n.starts) (monotone o l m)) (subst₂ (λ s u. Towards s u c) (sym m.starts) (sym n.starts) t) (monotone d k n)))

-- and it is on the edges of both
pub end_to_end_on : {g : Grid} (a b c : Point) (p q : Route) → Manhattan g (a to b) p → Manhattan g (b to c) q → (e : Edge) → on e (end_to_end p q) ≡ on e p || on e q
end_to_end_on a b c [] q m n e = absurd m.starts
end_to_end_on a b c (o ∷ l) [] m n e = absurd n.starts
end_to_end_on a b c (o ∷ l) (d ∷ k) m n e =
    ap (any (lies e)) (pieces_append o d l k (m.ends ∙ sym n.starts)) ∙ any_append (lies e) (pieces_from o l) (pieces_from d k)

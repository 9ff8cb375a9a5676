-- Walking in unit steps: the next point is one nearer to the end, so as many points as the distance lead there, one piece after the other.
use mathlib.Core.Path.{◌≡◌, refl, ap, ap₂, ◌∙◌}
use mathlib.Core.List.{List, [], ◌∷◌, ◌++◌}
use mathlib.Core.Bool.{Bool, true, false}
use Prim.Native.Nat.{ℕ, zero, suc, pred, ◌+◌}
use native.Mathlib.Omega.{arith}
use borrow.Author.Tests.{ltb-true, ltb-false, eqb-true, eqb-false}
use lib.Dec.{eqb, ltb}
use lib.ListN.{length, length-append}
use Rattle.network.specs.Lists.{sum, All}
use Rattle.network.specs.Plane.{Point, ◌to◌, gap, distance}
use Rattle.network.specs.Route.{pieces_from, last_from}
use Rattle.network.proofs.Lists.{all_append}
use Rattle.network.proofs.Numbers.{Between, rise, fall, between_here, gap_self}
use Rattle.network.proofs.Lanes.{point_path}
use Rattle.network.proofs.Making.{pieces_append, last_append}
use Rattle.network.proofs.Monotone.{Towards}
use Rattle.unit.specs.Paths.{UnitStep, nearer, next, walk_to, walk_from}

-- ---- the next point

-- b is next to a on the way to c, which is n away from b
record Nearer (a b c n : ℕ) : Type 0 where
  one : gap a b ≡ 1
  left : gap b c ≡ n
  way : Between a b c

is_nearer : (a c n : ℕ) → gap a c ≡ suc n → Nearer a (nearer a c) c n
unfolding nearer gap
is_nearer a c n h = go (ltb a c) refl
  where
    go : (t : Bool) → ltb a c ≡ t → Nearer a (elim t as (λ u. ℕ) [ true ↦ suc a | false ↦ pred a ]) c n
    go true e = let k = ltb-true a c e in record { one = omega arith; left = omega arith; way = rise (omega arith) (omega arith) }
    go false e = let k = ltb-false a c e in record { one = omega arith; left = omega arith; way = fall (omega arith) (omega arith) }

-- no way to go, and some
gap_none : (a b : ℕ) → a ≡ b → gap a b ≡ 0
gap_none a b e = rw e (gap_self b)

gap_some : (a b : ℕ) → (a ≡ b → ⊥) → gap a b ≡ suc (pred (gap a b))
unfolding gap
gap_some a b h = omega arith

-- r is next to p on the way to q, which is n away from r
pub record Next (p r q : Point) (n : ℕ) : Type 0 where
  pub one : UnitStep (p to r)
  pub left : distance (r to q) ≡ n
  pub way : Towards p r q

pub is_next : (p q : Point) (n : ℕ) → distance (p to q) ≡ suc n → Next p (next p q) q n
unfolding next distance
is_next p q n h = go (eqb p.x q.x) refl
  where
    go : (t : Bool) → eqb p.x q.x ≡ t
        → Next p (elim t as (λ u. Point) [ true ↦ record { x = p.x; y = nearer p.y q.y } | false ↦ record { x = nearer p.x q.x; y = p.y } ]) q n
    go true e =
        let z = gap_none p.x q.x (eqb-true p.x q.x e) in
        let w = is_nearer p.y q.y n (omega arith) in
        record {
          one = omega (arith, w.one, gap_self p.x);
          left = omega (arith, w.left);
          way = record { in_x = between_here p.x q.x; in_y = w.way };
        }
    go false e =
        let z = gap_some p.x q.x (eqb-false p.x q.x e) in
        let w = is_nearer p.x q.x (pred (gap p.x q.x)) z in
        record {
          one = omega (arith, w.one, gap_self p.y);
          left = omega (arith, w.left);
          way = record { in_x = w.way; in_y = between_here p.y q.y };
        }

-- no distance, one point
pub no_way : (p q : Point) → distance (p to q) ≡ 0 → p ≡ q
unfolding distance gap
no_way p q h = point_path (omega arith) (omega arith)

-- ---- one piece

walk_last : (n : ℕ) (p q : Point) → distance (p to q) ≡ n → last_from p (walk_to n p q) ≡ q
walk_last zero p q h = no_way p q h
walk_last (suc n) p q h = walk_last n (next p q) q (is_next p q n h).left

walk_unit : (n : ℕ) (p q : Point) → distance (p to q) ≡ n → All UnitStep (pieces_from p (walk_to n p q))
walk_unit zero p q h = tt
walk_unit (suc n) p q h = let w = is_next p q n h in (w.one, walk_unit n (next p q) q w.left)

walk_length : (n : ℕ) (p q : Point) → length (pieces_from p (walk_to n p q)) ≡ n
walk_length zero p q = refl
walk_length (suc n) p q = ap suc (walk_length n (next p q) q)

-- ---- one piece after the other

-- the steps to q, then the steps from q on
pub walk_pieces : (p q : Point) (l : List Point)
    → pieces_from p (walk_from p (q ∷ l)) ≡ pieces_from p (walk_to (distance (p to q)) p q) ++ pieces_from q (walk_from q l)
walk_pieces p q l = pieces_append p q (walk_to (distance (p to q)) p q) (walk_from q l) (walk_last (distance (p to q)) p q refl)

pub from_last : (p : Point) (l : List Point) → last_from p (walk_from p l) ≡ last_from p l
from_last p [] = refl
from_last p (q ∷ l) =
    last_append p (walk_to (distance (p to q)) p q) (walk_from q l)
    ∙ ap (λ o. last_from o (walk_from q l)) (walk_last (distance (p to q)) p q refl)
    ∙ from_last q l

pub from_unit : (p : Point) (l : List Point) → All UnitStep (pieces_from p (walk_from p l))
from_unit p [] = tt
from_unit p (q ∷ l) =
    rw (walk_pieces p q l)
    (all_append UnitStep (pieces_from p (walk_to (distance (p to q)) p q)) (pieces_from q (walk_from q l)) (walk_unit (distance (p to q)) p q refl) (from_unit q l))

pub from_length : (p : Point) (l : List Point) → length (pieces_from p (walk_from p l)) ≡ sum distance (pieces_from p l)
from_length p [] = refl
from_length p (q ∷ l) =
    ap length (walk_pieces p q l) ∙ length-append (pieces_from p (walk_to (distance (p to q)) p q)) (pieces_from q (walk_from q l))
    ∙ ap₂ ◌+◌ (walk_length (distance (p to q)) p q) (from_length q l)

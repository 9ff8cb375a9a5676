-- The test for a turn as facts about the corner and the two before it, and back; and that for two sets of kinds.
use mathlib.Core.Path.{◌≡◌, refl, sym, ap, ap₂, ◌∙◌}
use mathlib.Core.Logic.{◌⊎◌, inl, inr}
use mathlib.Core.Bool.{Bool, true, false, not, beq, ◌&&◌, ◌||◌, true≢false}
use Prim.Native.Nat.{◌≤◌}
use lib.Dec.{leb, eqb}
use borrow.Author.Tests.{leb-true, le-leb, eq-eqb, ne_eqb, eqb-true, eqb-false, not-true}
use Rattle.network.specs.Plane.{Point}
use Rattle.network.proofs.Lanes.{point_path}
use Rattle.network.proofs.Tests.{and_split, or_split, neither, is_false}
use Rattle.book.specs.declared.Corner.{Corner}
use Rattle.book.specs.declared.Walk.{Walk}
use Rattle.book.specs.Parse.{point_of, no_turn, mixed}
use Rattle.book.specs.Right.{Joined, Turned}

-- ---- of two tests

-- exactly one of two tests holds
pub data OneHolds (a b : Bool) : Type 0 where
  first : a ≡ true → b ≡ false → OneHolds a b
  second : a ≡ false → b ≡ true → OneHolds a b

one_holds : (a b : Bool) → (a && b || not a && not b) ≡ false → OneHolds a b
one_holds true true e = let z : ◌≡◌ {A = Bool} true false = e in absurd (true≢false z)
one_holds true false e = first refl refl
one_holds false true e = second refl refl
one_holds false false e = let z : ◌≡◌ {A = Bool} true false = e in absurd (true≢false z)

holds_one : (a b : Bool) → OneHolds a b → (a && b || not a && not b) ≡ false
holds_one a b (first e f) = rw (e, f) refl
holds_one a b (second e f) = rw (e, f) refl

-- whether two tests agree
pub same_test : (a b : Bool) → beq a b ≡ (a && b || not a && not b)
same_test true true = refl
same_test true false = refl
same_test false true = refl
same_test false false = refl

-- whether two sets of kinds differ
pub mixed_test : (a b : Bool) → mixed a b ≡ not (beq a b)
mixed_test true true = refl
mixed_test true false = refl
mixed_test false true = refl
mixed_test false false = refl

-- two sets of kinds that are not mixed are the same
pub not_mixed : (a b : Bool) → mixed a b ≡ false → a ≡ b
not_mixed true true e = refl
not_mixed false false e = refl
not_mixed true false e = let z : ◌≡◌ {A = Bool} true false = e in absurd (true≢false z)
not_mixed false true e = let z : ◌≡◌ {A = Bool} true false = e in absurd (true≢false z)

-- one is not mixed with itself
pub mixed_same : (a : Bool) → mixed a a ≡ false
mixed_same true = refl
mixed_same false = refl

-- points are joined exactly if one coordinate is the same
joined_one : (p q : Point) → Joined p q → OneHolds (eqb p.x q.x) (eqb p.y q.y)
joined_one p q j = go j.along
  where
    go : (p.x ≡ q.x) ⊎ (p.y ≡ q.y) → OneHolds (eqb p.x q.x) (eqb p.y q.y)
    go (inl e) = first (eq-eqb p.x q.x e) (ne_eqb p.y q.y (λ f. j.differ (point_path e f)))
    go (inr f) = second (ne_eqb p.x q.x (λ e. j.differ (point_path e f))) (eq-eqb p.y q.y f)

one_joined : (p q : Point) → OneHolds (eqb p.x q.x) (eqb p.y q.y) → Joined p q
one_joined p q (first e f) =
    record { differ = λ z. eqb-false p.y q.y f (ap (λ (o : Point). o.y) z); along = inl (eqb-true p.x q.x e) }
one_joined p q (second e f) =
    record { differ = λ z. eqb-false p.x q.x e (ap (λ (o : Point). o.x) z); along = inr (eqb-true p.y q.y f) }

-- ---- of a corner after what is known of those before it

-- the point before the last is joined to it, on its column or on its row
pub record Before (w : Walk) (p : Point) : Type 0 where
  pub joined : Joined p (point_of w.last)
  pub upright_is : w.upright ≡ eqb p.x w.last.x

module _ (w : Walk) (c : Corner) where
  -- a corner that passes is joined to the one before it
  pub test_joined : 1 ≤ w.corners → no_turn w c ≡ false → Joined (point_of w.last) (point_of c)
  test_joined k e =
      let t = (neither (leb 1 w.corners && _) _ e).0 in
      one_joined (point_of w.last) (point_of c) (one_holds (eqb w.last.x c.x) (eqb w.last.y c.y) (rw (le-leb 1 w.corners k) at t))

  -- and turned from the two before it
  pub test_turned : (p : Point) → Before w p → 2 ≤ w.corners → no_turn w c ≡ false → Turned p (point_of w.last) (point_of c)
  test_turned p b k e =
      let t = (neither (leb 1 w.corners && _) _ e).1 in
      let (column, row) = neither (w.upright && eqb w.last.x c.x) (not w.upright && eqb w.last.y c.y) (rw (le-leb 2 w.corners k) at t) in
      record {
        column = λ x z. no_column (b.upright_is ∙ eq-eqb _ _ x) (eq-eqb _ _ z) column;
        row = λ y z. no_row (b.upright_is ∙ ne_eqb _ _ (λ x. b.joined.differ (point_path x y))) (eq-eqb _ _ z) row;
      }
    where
      no_column : {a d : Bool} → a ≡ true → d ≡ true → (a && d) ≡ false → ⊥
      no_column f g h = true≢false (sym (ap₂ ◌&&◌ f g) ∙ h)

      no_row : {a d : Bool} → a ≡ false → d ≡ true → (not a && d) ≡ false → ⊥
      no_row f g h = true≢false (sym (ap₂ (λ a d. not a && d) f g) ∙ h)

  -- and back
  pub turns_test : (1 ≤ w.corners → Joined (point_of w.last) (point_of c))
      → (2 ≤ w.corners → (p : Point) × Before w p × Turned p (point_of w.last) (point_of c)) → no_turn w c ≡ false
  turns_test j t = is_false (no_turn w c) (λ e. go (or_split _ _ e))
    where
      same_x : Bool
      same_x = eqb w.last.x c.x

      same_y : Bool
      same_y = eqb w.last.y c.y

      go : ((leb 1 w.corners && (same_x && same_y || not same_x && not same_y)) ≡ true)
          ⊎ ((leb 2 w.corners && (w.upright && same_x || not w.upright && same_y)) ≡ true) → ⊥
      go (inl e) =
          let (k, u) = and_split (leb 1 w.corners) _ e in
          true≢false (sym u ∙ holds_one same_x same_y (joined_one (point_of w.last) (point_of c) (j (leb-true 1 w.corners k))))
      go (inr e) =
          let (k, u) = and_split (leb 2 w.corners) _ e in
          let (p, b, s) = t (leb-true 2 w.corners k) in
          on p b s (or_split (w.upright && same_x) (not w.upright && same_y) u)
        where
          on : (p : Point) → Before w p → Turned p (point_of w.last) (point_of c) → ((w.upright && same_x) ≡ true) ⊎ ((not w.upright && same_y) ≡ true) → ⊥
          on p b s (inl f) =
              let (u, x) = and_split w.upright same_x f in
              s.column (eqb-true _ _ (sym b.upright_is ∙ u)) (eqb-true _ _ x)
          on p b s (inr f) =
              let (u, y) = and_split (not w.upright) same_y f in
              s.row (aligned b.joined.along (eqb-false _ _ (sym b.upright_is ∙ not-true _ u))) (eqb-true _ _ y)
            where
              aligned : (p.x ≡ w.last.x) ⊎ (p.y ≡ w.last.y) → (p.x ≡ w.last.x → ⊥) → p.y ≡ w.last.y
              aligned (inl x) n = absurd (n x)
              aligned (inr y) n = y

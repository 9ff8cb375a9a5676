-- Laws of the rule of one edge: its cases, and bounds of its words.
use mathlib.Core.Path.{◌≡◌, refl}
use mathlib.Core.Bool.{Bool, true, false, cond}
use Prim.Native.Nat.{ℕ, zero, suc, ◌+◌, ◌≤◌, max}
use native.Mathlib.Omega.{arith}
use lib.Bits.{bit_and}
use lib.Dec.{eqb}
use borrow.Author.Tests.{eq-eqb, ne_eqb}
use Rattle.sharing.specs.Table.{plus}
use Rattle.table.specs.declared.frame.Line.{Line}
use Rattle.table.specs.declared.fill.Edge.{Edge}
use Rattle.table.specs.declared.fill.Pair.{Pair}
use Rattle.table.specs.Rule.{pair, edge_by, unless_own, if_own, all_of, new_of, stretch_of, rule_of, enter_of}

-- ---- cases

-- a length is added to a word that is there
pub plus_some : (x l : ℕ) → (x ≡ 0 → ⊥) → plus x l ≡ x + l
plus_some zero l h = absurd (h refl)
plus_some (suc x) l h = refl

-- a length is added to the larger of two words
pub plus_max : (a b l : ℕ) → plus (max a b) l ≡ max (plus a l) (plus b l)
plus_max zero zero l = refl
plus_max zero (suc b) l = let e : max 0 (suc b) ≡ suc b = omega arith in rw e (omega arith)
plus_max (suc a) zero l = let e : max (suc a) 0 ≡ suc a = omega arith in rw e (omega arith)
plus_max (suc a) (suc b) l = rw (plus_some (max (suc a) (suc b)) l (λ e. omega arith)) (omega arith)

-- an edge of the owner is left out
pub unless_yes : (e : Edge) (o : ℕ) → e.own ≡ o → unless_own e o ≡ 0
unfolding unless_own
unless_yes e o h = rw (eq-eqb e.own o h)

-- another is not
pub unless_no : (e : Edge) (o : ℕ) → (e.own ≡ o → ⊥) → unless_own e o ≡ e.best
unfolding unless_own
unless_no e o h = rw (ne_eqb e.own o h)

-- an edge of the owner goes on with the stretch
pub if_yes : (e : Edge) (o : ℕ) → e.own ≡ o → if_own e o ≡ e.run
unfolding if_own
if_yes e o h = rw (eq-eqb e.own o h)

-- another does not
pub if_no : (e : Edge) (o : ℕ) → (e.own ≡ o → ⊥) → if_own e o ≡ 0
unfolding if_own
if_no e o h = rw (ne_eqb e.own o h)

module _ (along across : Edge) (start o len cross : ℕ) where
  -- an edge that no leaf owns
  pub rule_free : o ≡ 0 → rule_of along across start o len cross ≡ pair (all_of along across start) 0
  unfolding rule_of
  rule_free h = rw (eq-eqb o 0 h)

  -- an edge of a leaf that slopes as the centre does
  pub rule_same : (o ≡ 0 → ⊥) → bit_and o cross ≡ 0 → rule_of along across start o len cross ≡ pair (plus (all_of along across start) len) 0
  unfolding rule_of
  rule_same h k = rw (ne_eqb o 0 h, eq-eqb (bit_and o cross) 0 k)

  -- an edge of a leaf that slopes the other way
  pub rule_cross : (o ≡ 0 → ⊥) → (bit_and o cross ≡ 0 → ⊥)
      → rule_of along across start o len cross
      ≡ pair (max (all_of along across start) (stretch_of along across start o len)) (stretch_of along across start o len)
  unfolding rule_of
  rule_cross h k = rw (ne_eqb o 0 h, ne_eqb (bit_and o cross) 0 k)

-- an edge that ends on a line
module _ (s : ℕ) (x y : Pair) (start : ℕ) (along before across : Line) (cross : ℕ) where
  -- the first line has no words
  pub enter_none : s ≡ 0 → enter_of s x y start along before across cross ≡ pair 0 0
  unfolding enter_of
  enter_none h = rw (eq-eqb s 0 h)

  -- another has those of the rule
  pub enter_some : (s ≡ 0 → ⊥) → enter_of s x y start along before across cross
      ≡ rule_of (edge_by x before across) (edge_by y across before) start (bit_and across.on along.into) along.len cross
  unfolding enter_of
  enter_some h = rw (ne_eqb s 0 h)

-- ---- bounds

-- a word with a length
plus_le : (x l m : ℕ) → x ≤ m → plus x l ≤ m + l
plus_le zero l m h = omega arith
plus_le (suc x) l m h = omega arith

-- a word that may be left out
unless_le : (e : Edge) (o m : ℕ) → e.best ≤ m → unless_own e o ≤ m
unfolding unless_own
unless_le e o m h = go (eqb e.own o)
  where
    go : (b : Bool) → cond b 0 e.best ≤ m
    go true = omega arith
    go false = h

-- a word that may go on
if_le : (e : Edge) (o m : ℕ) → e.run ≤ m → if_own e o ≤ m
unfolding if_own
if_le e o m h = go (eqb e.own o)
  where
    go : (b : Bool) → cond b e.run 0 ≤ m
    go true = h
    go false = omega arith

-- an edge makes no word larger than its length
pub rule_le : (along across : Edge) (start o len cross m : ℕ) → along.best ≤ m → along.run ≤ m → across.best ≤ m → start ≤ m
    → ((rule_of along across start o len cross).best ≤ m + len) × ((rule_of along across start o len cross).run ≤ m + len)
unfolding rule_of
rule_le along across start o len cross m h i j k = go (eqb o 0) (eqb (bit_and o cross) 0)
  where
    stretch : stretch_of along across start o len ≤ m + len
    stretch =
        let x = unless_le along o m h in
        let y = unless_le across o m j in
        let n = plus_le (new_of along across start o) len m (omega arith) in
        omega (arith, plus_le (if_own along o) len m (if_le along o m i))

    go : (x y : Bool)
        → ((cond x (pair (all_of along across start) 0) (cond y (pair (plus (all_of along across start) len) 0)
        (pair (max (all_of along across start) (stretch_of along across start o len)) (stretch_of along across start o len)))).best ≤ m + len)
        × ((cond x (pair (all_of along across start) 0) (cond y (pair (plus (all_of along across start) len) 0)
        (pair (max (all_of along across start) (stretch_of along across start o len)) (stretch_of along across start o len)))).run ≤ m + len)
    go true y = (omega arith, omega arith)
    go false true = (plus_le (all_of along across start) len m (omega arith), omega arith)
    go false false = let s = stretch in (omega arith, s)

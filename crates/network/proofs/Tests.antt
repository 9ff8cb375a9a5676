-- The tests of specs/ as facts about numbers, and back. A test that holds is an equation, `t ≡ true`.
use mathlib.Core.Path.{◌≡◌, refl, sym, ap₂}
use mathlib.Core.Logic.{◌⊎◌, inl, inr}
use mathlib.Core.Bool.{Bool, true, false, cond, ◌&&◌, ◌||◌, and_comm, false≢true}
use Prim.Native.Nat.{ℕ, ◌+◌, ◌≤◌, min, max}
use native.Mathlib.Nat.{min_comm, max_comm}
use native.Mathlib.Omega.{arith}
use borrow.Author.Tests.{leb-true, eqb-true, le-leb, eq-eqb}
use lib.Dec.{leb, eqb}
use Rattle.network.specs.Plane.{Point, Run, ◌to◌}
use Rattle.network.specs.Grid.{Edge, across, upward, spans, inside}
use Rattle.network.specs.Route.{level, lies}
use Rattle.network.specs.Boxes.{within}

-- ---- truth values

-- a conjunction holds exactly if both parts do
pub and_split : (a b : Bool) → a && b ≡ true → (a ≡ true) × (b ≡ true)
and_split true b h = (refl, h)
and_split false b h = absurd (false≢true h)

-- and back
pub and_join : (a b : Bool) → a ≡ true → b ≡ true → a && b ≡ true
and_join true b h k = k
and_join false b h k = h

-- a disjunction holds exactly if one of its parts does
pub or_split : (a b : Bool) → a || b ≡ true → (a ≡ true) ⊎ (b ≡ true)
or_split true b h = inl h
or_split false b h = inr h

-- and back
pub or_join : (a b : Bool) → (a ≡ true) ⊎ (b ≡ true) → a || b ≡ true
or_join true b h = refl
or_join false b (inl h) = absurd (false≢true h)
or_join false b (inr h) = h

-- a disjunction fails where both do
pub neither : (a b : Bool) → a || b ≡ false → (a ≡ false) × (b ≡ false)
neither true b h = absurd (false≢true (sym h))
neither false b h = (refl, h)

-- the two outcomes of a test
pub outcome : (a : Bool) → (a ≡ true) ⊎ (a ≡ false)
outcome true = inl refl
outcome false = inr refl

-- a test that cannot hold fails
pub is_false : (a : Bool) → (a ≡ true → ⊥) → a ≡ false
is_false true h = absurd (h refl)
is_false false h = refl

-- two tests that hold together are equal
pub same_test : (a b : Bool) → (a ≡ true → b ≡ true) → (b ≡ true → a ≡ true) → a ≡ b
same_test true b h k = sym (h refl)
same_test false true h k = k refl
same_test false false h k = refl

-- two equations that hold together are told alike
pub eqb_same : (a b c d : ℕ) → (a ≡ b → c ≡ d) → (c ≡ d → a ≡ b) → eqb a b ≡ eqb c d
eqb_same a b c d f g = same_test (eqb a b) (eqb c d) (λ h. eq-eqb c d (f (eqb-true a b h))) (λ h. eq-eqb a b (g (eqb-true c d h)))

-- two tests that never both hold: the sums of what they select
pub cond_or : (a b : Bool) (n : ℕ) → (a ≡ true → b ≡ true → ⊥) → cond (a || b) n 0 ≡ cond a n 0 + cond b n 0
cond_or true true n h = absurd (h refl refl)
cond_or true false n h = omega arith
cond_or false b n h = omega arith

-- one test counts for 1 at most
pub cond_one : (b : Bool) → cond b 1 0 ≤ 1
cond_one true = omega arith
cond_one false = omega arith

-- ---- level and spans

-- what `level` and `spans` test
pub record Level (a b c : ℕ) : Type 0 where
  pub first_at_lem : a ≡ c
  pub second_at_lem : b ≡ c

pub record Spans (a b lo hi : ℕ) : Type 0 where
  pub low : min a b ≤ lo
  pub high : hi ≤ max a b

-- the tests say exactly that
pub level_true : (a b c : ℕ) → level a b c ≡ true → Level a b c
unfolding level
level_true a b c h =
    let k = and_split (eqb a c) (eqb b c) h in
    record { first_at_lem = eqb-true a c k.0; second_at_lem = eqb-true b c k.1 }

-- and back
pub true_level : (a b c : ℕ) → Level a b c → level a b c ≡ true
unfolding level
true_level a b c h = and_join (eqb a c) (eqb b c) (eq-eqb a c h.first_at_lem) (eq-eqb b c h.second_at_lem)

-- of a stretch
pub spans_true : (a b lo hi : ℕ) → spans a b lo hi ≡ true → Spans a b lo hi
unfolding spans
spans_true a b lo hi h =
    let k = and_split (leb (min a b) lo) (leb hi (max a b)) h in
    record { low = leb-true (min a b) lo k.0; high = leb-true hi (max a b) k.1 }

-- and back
pub true_spans : (a b lo hi : ℕ) → Spans a b lo hi → spans a b lo hi ≡ true
unfolding spans
true_spans a b lo hi h =
    and_join (leb (min a b) lo) (leb hi (max a b)) (le-leb (min a b) lo h.low) (le-leb hi (max a b) h.high)

-- ---- an edge on a piece, and in a box

-- what `lies` and `inside` test
abbrev pub Lies : Edge → Run → Type 0
Lies (across x x' y) r = Level r.first.y r.second.y y × Spans r.first.x r.second.x x x'
Lies (upward x y y') r = Level r.first.x r.second.x x × Spans r.first.y r.second.y y y'

abbrev pub Inside : Edge → Run → Type 0
Inside (across x x' y) r = Spans r.first.x r.second.x x x' × Spans r.first.y r.second.y y y
Inside (upward x y y') r = Spans r.first.x r.second.x x x × Spans r.first.y r.second.y y y'

-- the tests say exactly that
pub lies_true : (e : Edge) (r : Run) → lies e r ≡ true → Lies e r
unfolding lies
lies_true (across x x' y) r h =
    let k = and_split (level r.first.y r.second.y y) (spans r.first.x r.second.x x x') h in
    (level_true r.first.y r.second.y y k.0, spans_true r.first.x r.second.x x x' k.1)
lies_true (upward x y y') r h =
    let k = and_split (level r.first.x r.second.x x) (spans r.first.y r.second.y y y') h in
    (level_true r.first.x r.second.x x k.0, spans_true r.first.y r.second.y y y' k.1)

-- and back
pub true_lies : (e : Edge) (r : Run) → Lies e r → lies e r ≡ true
unfolding lies
true_lies (across x x' y) r h =
    and_join (level r.first.y r.second.y y) (spans r.first.x r.second.x x x')
    (true_level r.first.y r.second.y y h.0)
    (true_spans r.first.x r.second.x x x' h.1)
true_lies (upward x y y') r h =
    and_join (level r.first.x r.second.x x) (spans r.first.y r.second.y y y')
    (true_level r.first.x r.second.x x h.0)
    (true_spans r.first.y r.second.y y y' h.1)

-- of an edge in a box
pub inside_true : (e : Edge) (r : Run) → inside e r ≡ true → Inside e r
unfolding inside
inside_true (across x x' y) r h =
    let k = and_split (spans r.first.x r.second.x x x') (spans r.first.y r.second.y y y) h in
    (spans_true r.first.x r.second.x x x' k.0, spans_true r.first.y r.second.y y y k.1)
inside_true (upward x y y') r h =
    let k = and_split (spans r.first.x r.second.x x x) (spans r.first.y r.second.y y y') h in
    (spans_true r.first.x r.second.x x x k.0, spans_true r.first.y r.second.y y y' k.1)

-- and back
pub true_inside : (e : Edge) (r : Run) → Inside e r → inside e r ≡ true
unfolding inside
true_inside (across x x' y) r h =
    and_join (spans r.first.x r.second.x x x') (spans r.first.y r.second.y y y)
    (true_spans r.first.x r.second.x x x' h.0)
    (true_spans r.first.y r.second.y y y h.1)
true_inside (upward x y y') r h =
    and_join (spans r.first.x r.second.x x x) (spans r.first.y r.second.y y y')
    (true_spans r.first.x r.second.x x x h.0)
    (true_spans r.first.y r.second.y y y' h.1)

-- ---- a point in a box

-- what `within` tests
abbrev pub Within : Point → Run → Type 0
Within p r = Spans r.first.x r.second.x p.x p.x × Spans r.first.y r.second.y p.y p.y

-- the test says exactly that
pub within_true : (p : Point) (r : Run) → within p r ≡ true → Within p r
unfolding within
within_true p r h =
    let (i, j) = and_split (spans r.first.x r.second.x p.x p.x) (spans r.first.y r.second.y p.y p.y) h in
    (spans_true r.first.x r.second.x p.x p.x i, spans_true r.first.y r.second.y p.y p.y j)

-- ---- a piece turned round has the same edges on it

-- whether both ends are at a line
level_turned : (a b c : ℕ) → level a b c ≡ level b a c
unfolding level
level_turned a b c = and_comm (eqb a c) (eqb b c)

-- whether a stretch is between them
spans_turned : (a b lo hi : ℕ) → spans a b lo hi ≡ spans b a lo hi
unfolding spans
spans_turned a b lo hi = ap₂ (λ m n. leb m lo && leb hi n) (min_comm a b) (max_comm a b)

-- so it has
pub lies_turned : (e : Edge) (p q : Point) → lies e (p to q) ≡ lies e (q to p)
unfolding lies
lies_turned (across x x' y) p q = ap₂ ◌&&◌ (level_turned p.y q.y y) (spans_turned p.x q.x x x')
lies_turned (upward x y y') p q = ap₂ ◌&&◌ (level_turned p.x q.x x) (spans_turned p.y q.y y y')

-- What the centre of a star is: joined to every other vertex of its group, no two of which are joined.
use mathlib.Core.Path.{◌≡◌, refl, sym, ap, ◌∙◌, subst}
use mathlib.Core.Logic.{◌⊎◌, inl, inr}
use mathlib.Core.List.Memᴰ
use mathlib.Core.List.Memᴰ.{head as here}
use mathlib.Core.List.Memᴰ.{tail as there}
use mathlib.Core.List.{List, [], ◌∷◌, Memᴰ as Member}
use mathlib.Core.Bool.{Bool, true, false, not, ◌||◌, true≢false}
use Prim.Native.Nat.{ℕ, ◌<◌}
use native.Mathlib.Omega.{arith}
use borrow.Author.Tests.{eqb-true, eqb-false, ne_eqb, not-true}
use lib.Dec.{eqb}
use Rattle.network.specs.Lists.{every, select}
use Rattle.network.specs.Grid.{Rising}
use Rattle.network.specs.Graph.{is_centre, centres}
use Rattle.network.proofs.Tests.{and_split, and_join, or_split, is_false}
use Rattle.network.proofs.Lists.{every_true, true_every, selected_member, member_selected}
use Rattle.network.proofs.Rising.{rising_head, rising_tail}

-- c is the centre of the group, as a statement: a member, joined to every other member, no two of which are joined
pub record IsCentre (joined : ℕ → ℕ → Bool) (group : List ℕ) (c : ℕ) : Type 0 where
  pub member : Member c group
  pub joins : (i : ℕ) → Member i group → (i ≡ c → ⊥) → joined c i ≡ true
  pub leaves : (i j : ℕ) → Member i group → Member j group → (i ≡ c → ⊥) → (j ≡ c → ⊥) → joined i j ≡ false

module _ (joined : ℕ → ℕ → Bool) (group : List ℕ) where
  -- a member that passes the test for a centre is one
  pub centre_true : (c : ℕ) → Member c group → is_centre joined group c ≡ true → IsCentre joined group c
  unfolding is_centre
  centre_true c m h =
      let (p, q) = and_split (every (λ i. eqb i c || joined c i) group) (every (λ i. every (λ j. eqb i c || eqb j c || not (joined i j)) group) group) h in
      record {
        member = m;
        joins = λ i k n. other i n (or_split (eqb i c) (joined c i) (every_true (λ i. eqb i c || joined c i) p k));
        leaves = λ i j k l n o.
            two i j n o (every_true (λ j. eqb i c || eqb j c || not (joined i j)) (every_true (λ i. every (λ j. eqb i c || eqb j c || not (joined i j)) group) q k) l);
      }
    where
      other : (i : ℕ) → (i ≡ c → ⊥) → (eqb i c ≡ true) ⊎ (joined c i ≡ true) → joined c i ≡ true
      other i n (inl e) = absurd (n (eqb-true i c e))
      other i n (inr k) = k

      two : (i j : ℕ) → (i ≡ c → ⊥) → (j ≡ c → ⊥) → eqb i c || eqb j c || not (joined i j) ≡ true → joined i j ≡ false
      two i j n o k = not-true (joined i j) (rw (ne_eqb i c n, ne_eqb j c o) at k)

  -- and a centre passes it
  pub true_centre : (c : ℕ) → IsCentre joined group c → is_centre joined group c ≡ true
  unfolding is_centre
  true_centre c k =
      and_join _ _ (true_every _ group (λ i m. other i m (eqb i c) refl)) (true_every _ group (λ i m. true_every _ group (λ j n. two i j m n (eqb i c) refl (eqb j c) refl)))
    where
      other : (i : ℕ) → Member i group → (t : Bool) → eqb i c ≡ t → t || joined c i ≡ true
      other i m true e = refl
      other i m false e = k.joins i m (eqb-false i c e)

      two : (i j : ℕ) → Member i group → Member j group → (s : Bool) → eqb i c ≡ s → (t : Bool) → eqb j c ≡ t → s || t || not (joined i j) ≡ true
      two i j m n true e t d = refl
      two i j m n false e true d = refl
      two i j m n false e false d = ap not (k.leaves i j m n (eqb-false i c e) (eqb-false j c d))

-- ---- the first centre of a rising group

-- the first that passes a test is the least that does
select_least : (t : ℕ → Bool) (l : List ℕ) → Rising l → (c : ℕ) (rest : List ℕ) → select t l ≡ c ∷ rest → (d : ℕ) → d < c → Member d l → t d ≡ false
select_least t [] r c rest e d h m = absurd (Memᴰ.not-nil m)
select_least t (a ∷ l) r c rest e d h m = go (t a) refl e (Memᴰ.cases_cons m) (λ k. select_least t l (rising_tail a l r) c rest k d h)
  where
    go : (s : Bool) → t a ≡ s → elim s as (λ u. List ℕ) [ true ↦ a ∷ select t l | false ↦ select t l ] ≡ c ∷ rest → (d ≡ a) ⊎ Member d l
        → (select t l ≡ c ∷ rest → Member d l → t d ≡ false) → t d ≡ false
    go true p k (inl i) tail = let z : a ≡ c = cc in absurd (omega arith)
    go true p k (inr o) tail = let z : a ≡ c = cc in absurd (omega (arith, rising_head a l r d o))
    go false p k (inl i) tail = ap t i ∙ p
    go false p k (inr o) tail = tail k o

-- and the least that passes is the first
least_select : (t : ℕ → Bool) (l : List ℕ) → Rising l → (c : ℕ) → Member c l → t c ≡ true → ((d : ℕ) → d < c → Member d l → t d ≡ false)
    → (rest : List ℕ) × (select t l ≡ c ∷ rest)
least_select t [] r c m h n = absurd (Memᴰ.not-nil m)
least_select t (a ∷ l) r c m h n = go (t a) refl (Memᴰ.cases_cons m) (λ k. least_select t l (rising_tail a l r) c k h (λ d o p. n d o (there p)))
  where
    go : (s : Bool) → t a ≡ s → (c ≡ a) ⊎ Member c l → (Member c l → (rest : List ℕ) × (select t l ≡ c ∷ rest))
        → (rest : List ℕ) × (elim s as (λ u. List ℕ) [ true ↦ a ∷ select t l | false ↦ select t l ] ≡ c ∷ rest)
    go true p (inl i) tail = (select t l, ap (λ b. b ∷ select t l) (sym i))
    go true p (inr o) tail = absurd (true≢false (sym p ∙ n a (rising_head a l r c o) (here refl)))
    go false p (inl i) tail = absurd (true≢false (sym h ∙ ap t i ∙ p))
    go false p (inr o) tail = tail o

module _ (joined : ℕ → ℕ → Bool) (group : List ℕ) (rises : Rising group) where
  -- it is a centre, and no lower member is one
  pub centres_first : (c : ℕ) (rest : List ℕ) → centres joined group ≡ c ∷ rest
      → IsCentre joined group c × ((d : ℕ) → d < c → IsCentre joined group d → ⊥)
  unfolding centres
  centres_first c rest e =
      let (m, h) = selected_member (is_centre joined group) group (subst (Member c) (sym e) (here refl)) in (
        centre_true joined group c m h,
        λ d l k. true≢false (sym (true_centre joined group d k) ∙ select_least (is_centre joined group) group rises c rest e d l k.member),
      )

  -- and such a vertex is the first
  pub first_centres : (c : ℕ) → IsCentre joined group c → ((d : ℕ) → d < c → IsCentre joined group d → ⊥)
      → (rest : List ℕ) × (centres joined group ≡ c ∷ rest)
  unfolding centres
  first_centres c k low =
      least_select (is_centre joined group) group rises c k.member (true_centre joined group c k)
      (λ d l m. is_false (is_centre joined group d) (λ h. low d l (centre_true joined group d m h)))

module _ (joined : ℕ → ℕ → Bool) (group : List ℕ) where
  -- where there is no first, no vertex is a centre: the group is no star
  pub centres_none : centres joined group ≡ [] → (c : ℕ) → IsCentre joined group c → ⊥
  unfolding centres
  centres_none e c k = Memᴰ.not-nil (subst (Member c) e (member_selected (is_centre joined group) group k.member (true_centre joined group c k)))

-- What each vertex sees of its neighbours decides. Every group is a star exactly if no vertex with two neighbours or more is joined to another such one, and
-- then the centre is: of a vertex with one neighbour that neighbour, unless the two are a pair and the vertex is the lower; of any other the vertex itself.
--
-- A vertex of a star that has two neighbours is the centre, since a leaf has none but the centre: so no two such vertices are joined. Where no two are, a vertex
-- with one neighbour looks at a centre, or at its partner.
use mathlib.Core.Path.{◌≡◌, refl, sym, ap, ◌∙◌, subst}
use mathlib.Core.Logic.{◌⊎◌, inl, inr}
use mathlib.Core.Bool.{Bool, true, false, cond, ◌&&◌, true≢false}
use mathlib.Core.List.Memᴰ
use mathlib.Core.List.Memᴰ.{head as here}
use mathlib.Core.List.Memᴰ.{tail as there}
use mathlib.Core.List.{List, [], ◌∷◌, Memᴰ as Member}
use Prim.Native.Nat.{ℕ, ◌≤◌, ◌<◌}
use native.Mathlib.Decide.{ℕ_discrete}
use native.Mathlib.Omega.{arith}
use lib.Dec.{eqb, ltb}
use lib.ListN.{length, get_or}
use borrow.Author.Tests.{eq-eqb, ne_eqb, lt-ltb, le-ltb}
use Rattle.network.specs.Lists.{every, select}
use Rattle.network.specs.Grid.{Rising}
use Rattle.network.specs.Graph.{below, degree}
use Rattle.network.specs.Entries.{below_rises}
use Rattle.network.proofs.Numbers.{order}
use Rattle.network.proofs.Sums.{length_select}
use Rattle.network.proofs.Tests.{or_split, neither, is_false}
use Rattle.network.proofs.Lists.{every_true, every_fails, selected_member, member_selected}
use Rattle.network.proofs.Rising.{rising_head}
use Rattle.network.proofs.Leaves.{below_member, member_below}
use Rattle.network.proofs.Centres.{IsCentre}
use Rattle.groups.specs.Groups.{group_of, all_stars, centre_of}
use Rattle.groups.specs.Graph.{Graph}
use Rattle.groups.specs.Near.{first_of, is_lone, is_local, near_centre}
use Rattle.groups.proofs.Parts.{select_rises}
use Rattle.groups.proofs.Groups.{group_self, group_same, joined_member}
use Rattle.groups.proofs.Chains.{group_below}
use Rattle.groups.proofs.Stars.{Stars, stars_centre, star_centre, stars_all, centre_is}

-- ---- the centre that a vertex knows

module _ (joined : ℕ → ℕ → Bool) (m : ℕ) where
  -- a vertex with no neighbour, or with two or more
  pub near_own : (i : ℕ) → ¬ (degree joined (below m) i ≡ 1) → near_centre joined m i ≡ i
  unfolding near_centre
  near_own i d = rw (ne_eqb (degree joined (below m) i) 1 d)

  -- a vertex with one
  pub near_one : (i j : ℕ) → degree joined (below m) i ≡ 1 → first_of joined m i ≡ j → near_centre joined m i ≡ cond (eqb (degree joined (below m) j) 1 && ltb i j) i j
  unfolding near_centre
  near_one i j d e =
      ap (λ b. cond b (cond (eqb (degree joined (below m) (first_of joined m i)) 1 && ltb i (first_of joined m i)) i (first_of joined m i)) i)
      (eq-eqb (degree joined (below m) i) 1 d)
      ∙ ap (λ f. cond (eqb (degree joined (below m) f) 1 && ltb i f) i f) e

module _ {joined : ℕ → ℕ → Bool} {n : ℕ} (graph : Graph joined n) (m : ℕ) (wide : n ≤ m) where
  -- ---- what a vertex sees

  -- no neighbour; one; or two or more
  data Sight (i : ℕ) : Type 0 where
    none : degree joined (below m) i ≡ 0 → ((k : ℕ) → joined i k ≡ true → ⊥) → Sight i
    one : (j : ℕ) → degree joined (below m) i ≡ 1 → first_of joined m i ≡ j → joined i j ≡ true → ((k : ℕ) → joined i k ≡ true → k ≡ j) → Sight i
    more : (j k : ℕ) → 2 ≤ degree joined (below m) i → joined i j ≡ true → joined i k ≡ true → ¬ (j ≡ k) → Sight i

  sight : (i : ℕ) → Sight i
  unfolding degree first_of
  sight i = go (select (joined i) (below m)) refl
    where
      sees : (k : ℕ) → joined i k ≡ true → Member k (select (joined i) (below m))
      sees k t = let h = graph.within i k t in member_selected (joined i) (below m) (member_below m k (omega arith)) t

      seen : (k : ℕ) → Member k (select (joined i) (below m)) → joined i k ≡ true
      seen k o = (selected_member (joined i) (below m) o).1

      go : (l : List ℕ) → select (joined i) (below m) ≡ l → Sight i
      go [] e = none (sym (length_select (joined i) (below m)) ∙ ap length e) (λ k t. Memᴰ.not-nil (subst (Member k) e (sees k t)))
      go (j ∷ []) e =
          one j (sym (length_select (joined i) (below m)) ∙ ap length e) (ap (λ l. get_or l 0 m) e) (seen j (subst (Member j) (sym e) (here refl)))
          (λ k t. Memᴰ.eq_of_singleton (subst (Member k) e (sees k t)))
      go (j ∷ k ∷ l) e =
          more j k (omega (arith, length_select (joined i) (below m), ap length e)) (seen j (subst (Member j) (sym e) (here refl)))
          (seen k (subst (Member k) (sym e) (there (here refl))))
          (λ q. let h = rising_head j (k ∷ l) (subst Rising e (select_rises (joined i) (below m) (below_rises m))) k (here refl) in omega arith)

  abbrev near : ℕ → ℕ
  near = near_centre joined m

  -- ---- where no two with two neighbours are joined

  -- a vertex has one neighbour at most, or two or more
  lone : (i : ℕ) → degree joined (below m) i ≤ 1 → is_lone joined m i ≡ true
  unfolding is_lone
  lone i h = lt-ltb (degree joined (below m) i) 2 (omega arith)

  not_lone : (i : ℕ) → 2 ≤ degree joined (below m) i → is_lone joined m i ≡ false
  unfolding is_lone
  not_lone i h = le-ltb (degree joined (below m) i) 2 h

  module _ (local : (i j : ℕ) → joined i j ≡ true → is_lone joined m i ≡ false → is_lone joined m j ≡ false → ⊥) where
    -- seen from a centre of two leaves or more
    near_hub : (i j : ℕ) → 2 ≤ degree joined (below m) i → joined i j ≡ true → near j ≡ i
    near_hub i j h t = go (sight j)
      where
        go : Sight j → near j ≡ i
        go (none d nobody) = absurd (nobody i (graph.both_ways j i ∙ t))
        go (one k d e s only) =
            let q = only i (graph.both_ways j i ∙ t) in
            near_one joined m j i d (e ∙ sym q) ∙ ap (λ b. cond (b && ltb j i) j i) (ne_eqb (degree joined (below m) i) 1 (λ z. omega arith))
        go (more a b l p q d) = absurd (local i j t (not_lone i h) (not_lone j l))

    -- a pair
    near_pair : (i j : ℕ) → degree joined (below m) i ≡ 1 → first_of joined m i ≡ j → degree joined (below m) j ≡ 1 → first_of joined m j ≡ i → ¬ (i ≡ j) → near i ≡ near j
    near_pair i j d e f g u =
        near_one joined m i j d e ∙ ap (λ b. cond (b && ltb i j) i j) (eq-eqb (degree joined (below m) j) 1 f) ∙ lower (order i j)
        ∙ sym (near_one joined m j i f g ∙ ap (λ b. cond (b && ltb j i) j i) (eq-eqb (degree joined (below m) i) 1 d))
      where
        lower : (i ≤ j) ⊎ (j < i) → cond (ltb i j) i j ≡ cond (ltb j i) j i
        lower (inl h) = rw (lt-ltb i j (omega arith), le-ltb j i h)
        lower (inr h) = rw (lt-ltb j i h, le-ltb i j (omega arith))

    apart_self : (i j : ℕ) → joined i j ≡ true → ¬ (i ≡ j)
    apart_self i j t e = true≢false (sym t ∙ ap (joined i) (sym e) ∙ graph.no_loop i)

    near_together : (i j : ℕ) → joined i j ≡ true → near i ≡ near j
    near_together i j t = go (sight i) (sight j)
      where
        back : joined j i ≡ true
        back = graph.both_ways j i ∙ t

        go : Sight i → Sight j → near i ≡ near j
        go (none d nobody) s = absurd (nobody j t)
        go (more a b h p q d) s = near_own joined m i (λ z. omega arith) ∙ sym (near_hub i j h t)
        go (one a d e p only) (none f nobody) = absurd (nobody i back)
        go (one a d e p only) (more b c h q r u) = near_hub j i h back ∙ sym (near_own joined m j (λ z. omega arith))
        go (one a d e p only) (one b f g q sole) = near_pair i j d (e ∙ sym (only j t)) f (g ∙ sym (sole i back)) (apart_self i j t)

    -- the centre is the vertex itself, or its one neighbour
    abbrev Either : ℕ → Type 0
    Either i = (near i ≡ i) ⊎ ((joined i (near i) ≡ true) × ((k : ℕ) → joined i k ≡ true → k ≡ near i))

    near_either : (i : ℕ) → Either i
    near_either i = go (sight i)
      where
        pick : (b : Bool) (j : ℕ) → joined i j ≡ true → ((k : ℕ) → joined i k ≡ true → k ≡ j) → near i ≡ cond b i j → Either i
        pick true j t only e = inl e
        pick false j t only e = inr (ap (joined i) e ∙ t, λ k s. only k s ∙ sym e)

        go : Sight i → Either i
        go (none d nobody) = inl (near_own joined m i (λ z. omega arith))
        go (one j d e t only) = pick (eqb (degree joined (below m) j) 1 && ltb i j) j t only (near_one joined m i j d e)
        go (more j k h s t u) = inl (near_own joined m i (λ z. omega arith))

    near_stars : Stars joined n near
    near_stars =
        record {
          listed = λ i h. listed i h (near_either i);
          own = λ i h. own i (near_either i);
          leaf = λ i h d. leaf i d (near_either i);
          together = λ i j h k t. near_together i j t;
          apart = λ i j h k d e t. apart i j d e t (near_either i) (near_either j);
        }
      where
        listed : (i : ℕ) → i < n → Either i → near i < n
        listed i h (inl e) = omega arith
        listed i h (inr (t, only)) = graph.within i (near i) t

        own : (i : ℕ) → Either i → near (near i) ≡ near i
        own i (inl e) = ap near e
        own i (inr (t, only)) = sym (near_together i (near i) t)

        leaf : (i : ℕ) → ¬ (i ≡ near i) → Either i → joined (near i) i ≡ true
        leaf i d (inl e) = absurd (d (sym e))
        leaf i d (inr (t, only)) = graph.both_ways (near i) i ∙ t

        apart : (i j : ℕ) → ¬ (i ≡ near i) → ¬ (j ≡ near j) → joined i j ≡ true → Either i → Either j → ⊥
        apart i j d e t (inl q) s = d (sym q)
        apart i j d e t (inr r) (inl q) = e (sym q)
        apart i j d e t (inr (p, only)) (inr (q, sole)) = d (sole i (graph.both_ways j i ∙ t) ∙ sym (near_together i j t))

    -- no lower vertex is a centre of the group
    near_lowest : {i : ℕ} → i < n → (d : ℕ) → d < near i → IsCentre joined (group_of joined n i) d → ⊥
    near_lowest {i} h d l D = go (sight c)
      where
        c : ℕ
        c = near i

        C : IsCentre joined (group_of joined n i) c
        C = star_centre graph near_stars h

        within : c < n
        within = group_below graph h C.member

        t : joined c d ≡ true
        t = C.joins d D.member (λ e. omega arith)

        -- of another neighbour of c, d is no leaf
        third : (k : ℕ) → joined c k ≡ true → ¬ (k ≡ d) → ⊥
        third k s u =
            let o : Member k (group_of joined n i) = subst (Member k) (group_same graph h C.member) (joined_member graph within s) in
            true≢false (sym (D.joins k o u) ∙ C.leaves d k D.member o (λ e. omega arith) (λ e. apart_self c k s (sym e)))

        low : (b : Bool) → ltb c d ≡ b → c ≡ cond b c d → ⊥
        low true e q = true≢false (sym e ∙ le-ltb c d (omega arith))
        low false e q = omega arith

        other : (k : ℕ) → joined c k ≡ true → Dec (k ≡ d) → k ≡ d
        other k s (yes e) = e
        other k s (no u) = absurd (third k s u)

        go : Sight c → ⊥
        go (none e nobody) = nobody d t
        go (more j k g s r u) = u (other j s (ℕ_discrete j d) ∙ sym (other k r (ℕ_discrete k d)))
        go (one j e f s only) = pair (sight d)
          where
            first : first_of joined m c ≡ d
            first = f ∙ sym (only d t)

            pair : Sight d → ⊥
            pair (none a nobody) = nobody c (graph.both_ways d c ∙ t)
            pair (one a g b r sole) =
                low (ltb c d) refl (sym (near_stars.own i h) ∙ near_one joined m c d e first ∙ ap (λ b. cond (b && ltb c d) c d) (eq-eqb (degree joined (below m) d) 1 g))
            pair (more a b g r s u) =
                let q : c ≡ d
                = sym (near_stars.own i h) ∙ near_one joined m c d e first ∙ ap (λ b. cond (b && ltb c d) c d) (ne_eqb (degree joined (below m) d) 1 (λ z. omega arith)) in
                omega arith

    -- so every group is a star, and this is the centre of each
    near_all : all_stars joined n ≡ true
    near_all = stars_all graph near_stars

    near_centre_lem : (i : ℕ) → i < n → near i ≡ centre_of joined n i
    near_centre_lem i h = sym (centre_is graph near_stars h (near_lowest h))

  -- ---- where two are

  -- a vertex of a star that is not the centre has no second neighbour
  leaf_lone : (i a c : ℕ) → i < n → IsCentre joined (group_of joined n i) c → Member a (group_of joined n i) → ¬ (a ≡ c) → is_lone joined m a ≡ false → ⊥
  leaf_lone i a c h C o u f = go (sight a)
    where
      none_but : (k : ℕ) → joined a k ≡ true → Dec (k ≡ c) → k ≡ c
      none_but k s (yes e) = e
      none_but k s (no d) =
          let p = subst (Member k) (group_same graph h o) (joined_member graph (group_below graph h o) s) in
          absurd (true≢false (sym s ∙ C.leaves a k o p u d))

      go : Sight a → ⊥
      go (none d nobody) = true≢false (sym (lone a (omega arith)) ∙ f)
      go (one j d e t only) = true≢false (sym (lone a (omega arith)) ∙ f)
      go (more j k g s t d) = d (none_but j s (ℕ_discrete j c) ∙ sym (none_but k t (ℕ_discrete k c)))

  -- so some group is no star
  far_none : (i j : ℕ) → i < n → joined i j ≡ true → is_lone joined m i ≡ false → is_lone joined m j ≡ false → all_stars joined n ≡ false
  far_none i j h t f g = is_false (all_stars joined n) (λ s. go (stars_centre s h).0 (ℕ_discrete i (centre_of joined n i)))
    where
      go : IsCentre joined (group_of joined n i) (centre_of joined n i) → Dec (i ≡ centre_of joined n i) → ⊥
      go C (no u) = leaf_lone i i (centre_of joined n i) h C (group_self graph h) u f
      go C (yes e) =
          leaf_lone i j (centre_of joined n i) h C (joined_member graph h t) (λ q. true≢false (sym t ∙ ap (joined i) (q ∙ sym e) ∙ graph.no_loop i)) g

  -- ---- the test

  local_of : every (is_local joined m) (below n) ≡ true → (i j : ℕ) → joined i j ≡ true → is_lone joined m i ≡ false → is_lone joined m j ≡ false → ⊥
  unfolding is_local
  local_of t i j s f g = go (or_split (is_lone joined m i) (every (is_lone joined m) others) (every_true (is_local joined m) t (member_below n i h)))
    where
      others : List ℕ
      others = select (joined i) (below m)

      h : i < n
      h = graph.within j i (graph.both_ways j i ∙ s)

      k : j < n
      k = graph.within i j s

      go : (is_lone joined m i ≡ true) ⊎ (every (is_lone joined m) others ≡ true) → ⊥
      go (inl p) = true≢false (sym p ∙ f)
      go (inr p) = true≢false (sym (every_true (is_lone joined m) p (member_selected (joined i) (below m) (member_below m j (omega (arith, k))) s)) ∙ g)

  -- LAW: every group is a star exactly if every vertex has one neighbour at most, or only such neighbours
  pub local_stars : every (is_local joined m) (below n) ≡ all_stars joined n
  unfolding is_local
  local_stars = go (every (is_local joined m) (below n)) refl
    where
      go : (b : Bool) → every (is_local joined m) (below n) ≡ b → b ≡ all_stars joined n
      go true t = sym (near_all (local_of t))
      go false e =
          let (i, o, f) = every_fails (is_local joined m) (below n) e in
          let (p, q) = neither (is_lone joined m i) (every (is_lone joined m) (select (joined i) (below m))) f in
          let (j, k, g) = every_fails (is_lone joined m) (select (joined i) (below m)) q in
          sym (far_none i j (below_member n i o) (selected_member (joined i) (below m) k).1 p g)

  -- and then the vertex knows its centre
  pub near_is : all_stars joined n ≡ true → (i : ℕ) → i < n → near_centre joined m i ≡ centre_of joined n i
  near_is t = near_centre_lem (local_of (local_stars ∙ t))

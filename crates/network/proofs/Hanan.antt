-- The Hanan grid: its lines are exactly the coordinates of the runs' points, so every run is placed on it, has a frame and has Manhattan routes.
use mathlib.Core.Path.{◌≡◌, refl, sym, ap, ap₂}
use mathlib.Core.Logic.{◌⊎◌, inl, inr, ⊎_elim, ⊎_map}
use mathlib.Core.List.Memᴰ
use mathlib.Core.List.Memᴰ.{head as here}
use mathlib.Core.List.Memᴰ.{tail as there}
use mathlib.Core.List.{List, [], ◌∷◌, Memᴰ as Member}
use mathlib.Core.Bool.{Bool, true, false}
use Prim.Native.Nat.{ℕ, ◌≤◌, ◌<◌}
use native.Mathlib.Omega.{arith}
use borrow.Author.Tests.{ltb-false}
use lib.Dec.{ltb}
use lib.ListN.{length}
use Rattle.network.specs.Lists.{All}
use Rattle.network.specs.Plane.{Run, ◌to◌}
use Rattle.network.specs.Grid.{Rising, Grid}
use Rattle.network.specs.Route.{Route, Listed, Manhattan, Routes}
use Rattle.network.specs.Graph.{origin, run_at}
use Rattle.network.specs.Steps.{Lane, Frame}
use Rattle.network.specs.Hanan.{xs, ys, hanan}
use Rattle.network.specs.Distinct.{insert, distinct}
use Rattle.network.specs.Boxes.{Placed}
use Rattle.network.proofs.Lists.{member_index, index_member}
use Rattle.network.proofs.Rising.{rising_head, rising_tail}
use Rattle.network.proofs.Lanes.{frame_of}
use Rattle.network.proofs.Making.{bent, bent_manhattan}

-- ---- the distinct numbers of a list

-- a list with v inserted has v and the numbers that it had
insert_member : {u : ℕ} (v : ℕ) (l : List ℕ) → Member u (insert v l) → (u ≡ v) ⊎ Member u l
unfolding insert
insert_member v [] m = Memᴰ.cases_cons m
insert_member {u} v (a ∷ l) m = go (ltb v a) (ltb a v) m (insert_member v l)
  where
    go : (s t : Bool) → Member u (elim s as (λ u. List ℕ) [ true ↦ v ∷ a ∷ l | false ↦ elim t as (λ u. List ℕ) [ true ↦ a ∷ insert v l | false ↦ a ∷ l ] ])
        → (Member u (insert v l) → (u ≡ v) ⊎ Member u l) → (u ≡ v) ⊎ Member u (a ∷ l)
    go true t k rest = Memᴰ.cases_cons k
    go false true k rest = ⊎_elim (λ e. inr (here e)) (λ o. ⊎_map (λ e. e) there (rest o)) (Memᴰ.cases_cons k)
    go false false k rest = inr k

-- and all of them
member_insert : {u : ℕ} (v : ℕ) (l : List ℕ) → (u ≡ v) ⊎ Member u l → Member u (insert v l)
unfolding insert
member_insert v [] m = ⊎_elim here (λ o. absurd (Memᴰ.not-nil o)) m
member_insert {u} v (a ∷ l) m = go (ltb v a) refl (ltb a v) refl (⊎_map (λ e. e) Memᴰ.cases_cons m) (member_insert v l)
  where
    go : (s : Bool) → ltb v a ≡ s → (t : Bool) → ltb a v ≡ t → (u ≡ v) ⊎ ((u ≡ a) ⊎ Member u l) → ((u ≡ v) ⊎ Member u l → Member u (insert v l))
        → Member u (elim s as (λ u. List ℕ) [ true ↦ v ∷ a ∷ l | false ↦ elim t as (λ u. List ℕ) [ true ↦ a ∷ insert v l | false ↦ a ∷ l ] ])
    go true e t d (inl i) rest = here i
    go true e t d (inr (inl i)) rest = there (here i)
    go true e t d (inr (inr o)) rest = there (there o)
    go false e true d (inl i) rest = there (rest (inl i))
    go false e true d (inr (inl i)) rest = here i
    go false e true d (inr (inr o)) rest = there (rest (inr o))
    go false e false d (inl i) rest = let z : u ≡ a = omega (arith, ltb-false v a e, ltb-false a v d) in here z
    go false e false d (inr (inl i)) rest = here i
    go false e false d (inr (inr o)) rest = there o

-- the distinct numbers of a list are its numbers
distinct_member : {u : ℕ} (l : List ℕ) → Member u (distinct l) → Member u l
distinct_member [] m = m
distinct_member (v ∷ l) m = ⊎_elim here (λ o. there (distinct_member l o)) (insert_member v (distinct l) m)

-- and all of them
member_distinct : {u : ℕ} (l : List ℕ) → Member u l → Member u (distinct l)
member_distinct [] m = m
member_distinct (v ∷ l) m = member_insert v (distinct l) (⊎_map (λ e. e) (member_distinct l) (Memᴰ.cases_cons m))

-- `distinct` has exactly the numbers of the list
pub distinct_listed : (l : List ℕ) (v : ℕ) → Listed (distinct l) v → Listed l v
distinct_listed l v (i, h, e) = member_index 0 (distinct_member l (Memᴰ.cast (sym e) (index_member 0 (distinct l) i h)))

-- and all of them
pub listed_distinct : (l : List ℕ) (v : ℕ) → Listed l v → Listed (distinct l) v
listed_distinct l v (i, h, e) = member_index 0 (member_distinct l (Memᴰ.cast (sym e) (index_member 0 l i h)))

-- a rising list is determined by its numbers, so it is the only rising list with those numbers
pub rising_unique : (l k : List ℕ) → Rising l → Rising k → ((v : ℕ) → Member v l → Member v k) → ((v : ℕ) → Member v k → Member v l) → l ≡ k
rising_unique [] [] r s f h = refl
rising_unique [] (b ∷ k) r s f h = absurd (Memᴰ.not-nil (h b (here refl)))
rising_unique (a ∷ l) [] r s f h = absurd (Memᴰ.not-nil (f a (here refl)))
rising_unique (a ∷ l) (b ∷ k) r s f h =
    ap₂ (λ c t. c ∷ t) same
    (rising_unique l k (rising_tail a l r) (rising_tail b k s)
    (λ v m. behind b k (rising_head a l r v m) (sym same) (Memᴰ.cases_cons (f v (there m))))
    (λ v m. behind a l (rising_head b k s v m) same (Memᴰ.cases_cons (h v (there m)))))
  where
    at_least : (c : ℕ) (t : List ℕ) → Rising (c ∷ t) → (v : ℕ) → (v ≡ c) ⊎ Member v t → c ≤ v
    at_least c t u v (inl e) = omega arith
    at_least c t u v (inr m) = omega (arith, rising_head c t u v m)

    same : a ≡ b
    same = omega (arith, at_least b k s a (Memᴰ.cases_cons (f a (here refl))), at_least a l r b (Memᴰ.cases_cons (h b (here refl))))

    behind : {d v : ℕ} (c : ℕ) (t : List ℕ) → d < v → c ≡ d → (v ≡ c) ⊎ Member v t → Member v t
    behind c t o e (inl q) = absurd (omega arith)
    behind c t o e (inr m) = m

-- so two rising lists with the same numbers are the same
pub only_rising : (l k : List ℕ) → Rising l → Rising k → ((v : ℕ) → Listed l v → Listed k v) → ((v : ℕ) → Listed k v → Listed l v) → l ≡ k
only_rising l k r s f h = rising_unique l k r s (λ v m. back k v (f v (member_index 0 m))) (λ v m. back l v (h v (member_index 0 m)))
  where
    back : (t : List ℕ) (v : ℕ) → Listed t v → Member v t
    back t v (i, o, e) = Memᴰ.cast (sym e) (index_member 0 t i o)

-- ---- the grid

-- the coordinates of a run's points are listed
x_member : {r : Run} {runs : List Run} → Member r runs → Member r.first.x (xs runs) × Member r.second.x (xs runs)
x_member (here e) = (here (ap (λ (s : Run). s.first.x) e), there (here (ap (λ (s : Run). s.second.x) e)))
x_member (there m) = (there (there (x_member m).0), there (there (x_member m).1))

-- the y of both points
y_member : {r : Run} {runs : List Run} → Member r runs → Member r.first.y (ys runs) × Member r.second.y (ys runs)
y_member (here e) = (here (ap (λ (s : Run). s.first.y) e), there (here (ap (λ (s : Run). s.second.y) e)))
y_member (there m) = (there (there (y_member m).0), there (there (y_member m).1))

-- every run is placed on the Hanan grid
pub hanan_placed : (runs : List Run) {r : Run} → Member r runs → Placed (hanan runs) r
hanan_placed runs m =
    record {
      first_vertex = record { column = member_index 0 (member_distinct (xs runs) (x_member m).0); row = member_index 0 (member_distinct (ys runs) (y_member m).0) };
      second_vertex = record { column = member_index 0 (member_distinct (xs runs) (x_member m).1); row = member_index 0 (member_distinct (ys runs) (y_member m).1) };
    }

-- by its index
pub hanan_placed_at : (runs : List Run) (i : ℕ) → i < length runs → Placed (hanan runs) (run_at runs i)
hanan_placed_at runs i h = hanan_placed runs (index_member (origin to origin) runs i h)

-- so all are
pub hanan_all : (runs : List Run) → All (Placed (hanan runs)) runs
hanan_all runs = go runs (λ r m. hanan_placed runs m)
  where
    go : (l : List Run) → ((r : Run) → Member r l → Placed (hanan runs) r) → All (Placed (hanan runs)) l
    go [] h = tt
    go (r ∷ l) h = (h r (here refl), go l (λ s m. h s (there m)))

-- ---- routes exist

-- a run that is placed on a grid has a frame, and a Manhattan route
pub placed_frame : (g : Grid) (r : Run) → Placed g r → (X : Lane) × (Y : Lane) × Frame g r X Y
placed_frame g r p = frame_of g r p.first_vertex p.second_vertex

-- so it has a Manhattan route
pub placed_route : (g : Grid) (r : Run) → Placed g r → (route : Route) × Manhattan g r route
placed_route g r p = (bent r.first r.second, bent_manhattan g r.first r.second p.first_vertex p.second_vertex)

-- and so have several runs
pub placed_routes : (g : Grid) (runs : List Run) → All (Placed g) runs → (routes : List Route) × Routes g runs routes
placed_routes g [] p = ([], tt)
placed_routes g (r ∷ runs) p =
    let (route, m) = placed_route g r p.0 in
    let (routes, n) = placed_routes g runs p.1 in
    (route ∷ routes, (m, n))

-- so the runs of every job have Manhattan routes on its Hanan grid
pub hanan_routes : (runs : List Run) → (routes : List Route) × Routes (hanan runs) runs routes
hanan_routes runs = placed_routes (hanan runs) runs (hanan_all runs)

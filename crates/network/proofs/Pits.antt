-- Where the pits of routes are: at their corners, and where one passes along its row and another along its column (02, C-14). A Manhattan path
-- does not cross itself, so the routes of a crossing are two. Pits are at least the distinct corners, and as many where no two routes cross.
use mathlib.Core.Path.{◌≡◌, refl, sym, ap, ap₂, ◌∙◌, subst}
use mathlib.Core.Logic.{◌⊎◌, inl, inr}
use mathlib.Core.Bool.{Bool, true, false, cond, ◌&&◌, ◌||◌, false≢true}
use mathlib.Core.List.Memᴰ
use mathlib.Core.List.Memᴰ.{head as here}
use mathlib.Core.List.Memᴰ.{tail as there}
use mathlib.Core.List.{
  List,
  [],
  ◌∷◌,
  ◌++◌,
  flatten,
  flat_map,
  append-nil,
  Memᴰ as Member,
}
use Prim.Native.Nat.{ℕ, ◌*◌, ◌≤◌, ◌<◌}
use native.Mathlib.Omega.{arith}
use borrow.Author.Tests.{ltb-true, lt-ltb}
use lib.Dec.{ltb}
use lib.ListN.{length, get_or}
use Rattle.network.specs.Lists.{any, All, unique}
use Rattle.network.specs.Plane.{Point, Run, ◌to◌, same_point}
use Rattle.network.specs.Grid.{Grid}
use Rattle.network.specs.Route.{Route, pieces_from, pieces, level, Vertex, Manhattan, Routes}
use Rattle.network.specs.Steps.{Dir, hor, ver}
use Rattle.network.specs.Pits.{amid, passes_row, passes_column, crossing, crossings, pit_points, pits_of}
use Rattle.network.specs.Passes.{among, passes, Crossed}
use Rattle.network.proofs.Tests.{and_split, and_join, or_split, or_join, same_test, Level, level_true}
use Rattle.network.proofs.Lists.{any_true, true_any, any_cong, any_append, any_flat_map, any_flatten, all_append, all_flatten, all_flat_map, member_index, index_member}
use Rattle.network.proofs.Numbers.{Between, rise, fall}
use Rattle.network.proofs.Monotone.{Towards, Monotone, monotone, in_box}
use Rattle.network.proofs.Lanes.{point_path}
use Rattle.network.proofs.Corners.{point_true, true_point}
use Rattle.network.proofs.Points.{unique_append, unique_few}

-- ---- a point that a piece passes

-- strictly between, as a fact
abbrev pub Amid : ℕ → ℕ → ℕ → Type 0
Amid a b v = ((a < v) × (v < b)) ⊎ ((b < v) × (v < a))

pub amid_true : (a b v : ℕ) → amid a b v ≡ true → Amid a b v
unfolding amid
amid_true a b v h = go (or_split (ltb a v && ltb v b) (ltb b v && ltb v a) h)
  where
    go : (ltb a v && ltb v b ≡ true) ⊎ (ltb b v && ltb v a ≡ true) → Amid a b v
    go (inl k) = let (c, d) = and_split (ltb a v) (ltb v b) k in inl (ltb-true a v c, ltb-true v b d)
    go (inr k) = let (c, d) = and_split (ltb b v) (ltb v a) k in inr (ltb-true b v c, ltb-true v a d)

-- and back
pub true_amid : (a b v : ℕ) → Amid a b v → amid a b v ≡ true
unfolding amid
true_amid a b v h = or_join (ltb a v && ltb v b) (ltb b v && ltb v a) (go h)
  where
    go : Amid a b v → (ltb a v && ltb v b ≡ true) ⊎ (ltb b v && ltb v a ≡ true)
    go (inl (c, d)) = inl (and_join (ltb a v) (ltb v b) (lt-ltb a v c) (lt-ltb v b d))
    go (inr (c, d)) = inr (and_join (ltb b v) (ltb v a) (lt-ltb b v c) (lt-ltb v a d))

-- the test for a passed point, as a fact
abbrev pub Passes : Dir → Point → Run → Type 0
Passes hor p r = Level r.first.y r.second.y p.y × Amid r.first.x r.second.x p.x
Passes ver p r = Level r.first.x r.second.x p.x × Amid r.first.y r.second.y p.y

pub passes_true : (d : Dir) (p : Point) (r : Run) → passes d p r ≡ true → Passes d p r
unfolding passes_row passes_column
passes_true hor p r h =
    let k = and_split (level r.first.y r.second.y p.y) (amid r.first.x r.second.x p.x) h in
    (level_true r.first.y r.second.y p.y k.0, amid_true r.first.x r.second.x p.x k.1)
passes_true ver p r h =
    let k = and_split (level r.first.x r.second.x p.x) (amid r.first.y r.second.y p.y) h in
    (level_true r.first.x r.second.x p.x k.0, amid_true r.first.y r.second.y p.y k.1)

-- ---- crossings

-- two tests, of two elements
any_both : {A : Type 0} (s t : A → Bool) (l k : List A) → any (λ a. any (λ b. s a && t b) k) l ≡ any s l && any t k
any_both s t [] k = refl
any_both {A} s t (a ∷ l) k = ap₂ ◌||◌ (one (s a) k) (any_both s t l k) ∙ join (s a) (any s l) (any t k)
  where
    one : (c : Bool) (m : List A) → any (λ b. c && t b) m ≡ c && any t m
    one true m = refl
    one false [] = refl
    one false (b ∷ m) = one false m

    join : (c d e : Bool) → c && e || d && e ≡ (c || d) && e
    join true true true = refl
    join true true false = refl
    join true false true = refl
    join true false false = refl
    join false d e = refl

-- the point of two pieces is the one that both pass
crossing_among : (p : Point) (r s : Run) → among p (crossing r s) ≡ passes hor p r && passes ver p s
unfolding crossing
crossing_among p r s =
    same_test (among p (cond (both q) (q ∷ []) [])) (both p) (λ h. there_is (both q) refl h)
    (λ h.
    let (a, b) = and_split (passes hor p r) (passes ver p s) h in
    let e : q ≡ p = point_path (passes_true ver p s b).0.first_at_lem (passes_true hor p r a).0.first_at_lem in
    rw (e, h, true_point p p refl))
  where
    q : Point
    q = record { x = s.first.x; y = r.first.y }

    both : Point → Bool
    both o = passes hor o r && passes ver o s

    there_is : (c : Bool) → both q ≡ c → among p (cond c (q ∷ []) []) ≡ true → both p ≡ true
    there_is true e h = rw (point_true p q (go (or_split (same_point p q) false h))) e
      where
        go : (same_point p q ≡ true) ⊎ (false ≡ true) → same_point p q ≡ true
        go (inl k) = k
        go (inr k) = absurd (false≢true k)
    there_is false e h = absurd (false≢true h)

-- a crossing is a point that some piece passes along its row, and some piece along its column
crossings_among : (p : Point) (l : List Run) → among p (crossings l) ≡ any (passes hor p) l && any (passes ver p) l
unfolding crossings
crossings_among p l =
    any_flat_map (same_point p) (λ r. flat_map (crossing r) l) l
    ∙ any_cong (λ r. among p (flat_map (crossing r) l)) (λ r. any (λ s. passes hor p r && passes ver p s) l) l
    (λ r m. any_flat_map (same_point p) (crossing r) l
    ∙ any_cong (λ s. among p (crossing r s)) (λ s. passes hor p r && passes ver p s) l (λ s n. crossing_among p r s))
    ∙ any_both (passes hor p) (passes ver p) l l

-- some route passes p
abbrev pub passed : Dir → List Route → Point → Bool
passed d routes p = any (λ route. any (passes d p) (pieces route)) routes

-- "an end of a route, a turn of a route, or a vertex which one route passes along its row and another along its column"
pub pit_among : (routes : List Route) (p : Point) → among p (pit_points routes) ≡ any (among p) routes || passed hor routes p && passed ver routes p
unfolding pit_points
pit_among routes p =
    any_append (same_point p) (flatten routes) (crossings (flat_map pieces routes))
    ∙ ap₂ ◌||◌ (any_flatten (same_point p) routes)
    (crossings_among p (flat_map pieces routes) ∙ ap₂ ◌&&◌ (any_flat_map (passes hor p) pieces routes) (any_flat_map (passes ver p) pieces routes))

-- ---- one route goes one way

-- behind q, no point of a way to z has a coordinate strictly between p and q
behind_other : {p q r z v : ℕ} → Between p q z → Between q r z → Amid p q v → r ≡ v → ⊥
behind_other (rise a b) (rise c d) (inl h) e = omega arith
behind_other (rise a b) (rise c d) (inr h) e = omega arith
behind_other (rise a b) (fall c d) (inl h) e = omega arith
behind_other (rise a b) (fall c d) (inr h) e = omega arith
behind_other (fall a b) (rise c d) (inl h) e = omega arith
behind_other (fall a b) (rise c d) (inr h) e = omega arith
behind_other (fall a b) (fall c d) (inl h) e = omega arith
behind_other (fall a b) (fall c d) (inr h) e = omega arith

-- a piece of the walk behind q starts in the box of q and z
starts_in_box : (q : Point) (l : List Point) (z o : Point) → All (λ r. Towards o r z) (q ∷ l) → (s : Run) → Member s (pieces_from q l) → Towards o s.first z
starts_in_box q [] z o h s m = absurd (Memᴰ.not-nil m)
starts_in_box q (b ∷ l) z o h s m = go (Memᴰ.cases_cons m) (starts_in_box b l z o h.1 s)
  where
    go : (s ≡ (q to b)) ⊎ Member s (pieces_from b l) → (Member s (pieces_from b l) → Towards o s.first z) → Towards o s.first z
    go (inl e) rest = subst (λ (t : Run). Towards o t.first z) (sym e) h.0
    go (inr n) rest = rest n

-- pieces of one walk of which one passes v along its row and the other along its column
both_ways : (v p : Point) (l : List Point) (z : Point) → Monotone p l z → (r s : Run) → Member r (pieces_from p l) → Member s (pieces_from p l) → Passes hor v r → Passes ver v s → ⊥
both_ways v p [] z m r s a b h k = Memᴰ.not-nil a
both_ways v p (q ∷ l) z m r s a b h k = go (Memᴰ.cases_cons a) (Memᴰ.cases_cons b) (both_ways v q l z m.1 r s)
  where
    box : All (λ r. Towards q r z) (q ∷ l)
    box = in_box q l z m.1

    upright : {x y : ℕ} → x ≡ v.x → y ≡ v.x → Amid x y v.x → ⊥
    upright e f (inl o) = omega arith
    upright e f (inr o) = omega arith

    go : (r ≡ (p to q)) ⊎ Member r (pieces_from q l) → (s ≡ (p to q)) ⊎ Member s (pieces_from q l)
        → (Member r (pieces_from q l) → Member s (pieces_from q l) → Passes hor v r → Passes ver v s → ⊥) → ⊥
    go (inl e) (inl f) rest =
        let x = subst (Passes hor v) e h in
        let y = subst (Passes ver v) f k in
        upright y.0.first_at_lem y.0.second_at_lem x.1
    go (inl e) (inr f) rest =
        let x = subst (Passes hor v) e h in
        behind_other m.0.in_x (starts_in_box q l z q box s f).in_x x.1 k.0.first_at_lem
    go (inr e) (inl f) rest =
        let y = subst (Passes ver v) f k in
        behind_other m.0.in_y (starts_in_box q l z q box r e).in_y y.1 h.0.first_at_lem
    go (inr e) (inr f) rest = rest e f h k

-- a Manhattan path passes no point both along its row and along its column
pub one_way : (g : Grid) (run : Run) (route : Route) (v : Point) → Manhattan g run route
    → any (passes hor v) (pieces route) ≡ true → any (passes ver v) (pieces route) ≡ true → ⊥
one_way g run [] v m a b = false≢true a
one_way g run (p ∷ l) v m a b =
    let (r, i, h) = any_true (passes hor v) (pieces_from p l) a in
    let (s, j, k) = any_true (passes ver v) (pieces_from p l) b in
    both_ways v p l run.second (monotone p l m) r s i j (passes_true hor v r h) (passes_true ver v s k)

-- ---- two routes that cross

-- one of the routes is the Manhattan path of a run
route_of_lem : (g : Grid) (runs : List Run) (routes : List Route) → Routes g runs routes → {route : Route} → Member route routes → (run : Run) × Manhattan g run route
route_of_lem g [] (route ∷ routes) m n = elim m [ ]
route_of_lem g (run ∷ runs) [] m {route = route} n = elim m [ ]
route_of_lem g [] [] m n = absurd (Memᴰ.not-nil n)
route_of_lem g (run ∷ runs) (route ∷ routes) m (here e) = (run, subst (Manhattan g run) (sym e) m.0)
route_of_lem g (run ∷ runs) (route ∷ routes) m (there n) = route_of_lem g runs routes m.1 n

module _ (g : Grid) (runs : List Run) (routes : List Route) (m : Routes g runs routes) where
  -- a point that is passed both ways is a crossing of two routes
  passed_crossed : (p : Point) → passed hor routes p ≡ true → passed ver routes p ≡ true → Crossed routes p
  passed_crossed p a b =
      let (r, i, h) = any_true (λ route. any (passes hor p) (pieces route)) routes a in
      let (s, j, k) = any_true (λ route. any (passes ver p) (pieces route)) routes b in
      let (run, n) = route_of_lem g runs routes m i in
      let (u, hu, eu) = member_index {A = Route} [] i in
      let (v, hv, ev) = member_index {A = Route} [] j in
      record {
        one = u;
        other = v;
        one_in = hu;
        other_in = hv;
        two = λ e. one_way g run r p n h (subst (λ t. any (passes ver p) (pieces t) ≡ true) (sym ev ∙ ap (λ w. get_or routes w []) (sym e) ∙ eu) k);
        along_row = rw eu h;
        along_column = rw ev k;
      }

  -- a pit is an end of a route, a turn of a route, or a crossing of two routes
  pub pit_is : (p : Point) → among p (pit_points routes) ≡ true → (any (among p) routes ≡ true) ⊎ Crossed routes p
  pit_is p h = go (or_split (any (among p) routes) (passed hor routes p && passed ver routes p) (sym (pit_among routes p) ∙ h))
    where
      go : (any (among p) routes ≡ true) ⊎ (passed hor routes p && passed ver routes p ≡ true) → (any (among p) routes ≡ true) ⊎ Crossed routes p
      go (inl c) = inl c
      go (inr c) = let (a, b) = and_split (passed hor routes p) (passed ver routes p) c in inr (passed_crossed p a b)

  -- where no two routes cross, the pits are the distinct corners
  pub pits_uncrossed : ((p : Point) → Crossed routes p → ⊥) → pits_of routes ≡ length (unique same_point (flatten routes))
  unfolding pits_of pit_points
  pits_uncrossed none = ap (λ l. length (unique same_point (flatten routes ++ l))) (nothing (crossings (flat_map pieces routes)) uncrossed) ∙ ap (λ l. length (unique same_point l)) (append-nil (flatten routes))
    where
      uncrossed : (p : Point) → among p (crossings (flat_map pieces routes)) ≡ true → ⊥
      uncrossed p h =
          let (a, b) = and_split (any (passes hor p) (flat_map pieces routes)) (any (passes ver p) (flat_map pieces routes)) (sym (crossings_among p (flat_map pieces routes)) ∙ h) in
          none p (passed_crossed p (sym (any_flat_map (passes hor p) pieces routes) ∙ a) (sym (any_flat_map (passes ver p) pieces routes) ∙ b))

      nothing : (l : List Point) → ((p : Point) → among p l ≡ true → ⊥) → l ≡ []
      nothing [] h = refl
      nothing (p ∷ l) h = absurd (h p (or_join (same_point p p) (among p l) (inl (true_point p p refl))))

-- and back, for any routes
pub is_pit : (routes : List Route) (p : Point) → (any (among p) routes ≡ true) ⊎ Crossed routes p → among p (pit_points routes) ≡ true
is_pit routes p h = pit_among routes p ∙ or_join (any (among p) routes) (passed hor routes p && passed ver routes p) (go h)
  where
    some : (d : Dir) (i : ℕ) → i < length routes → any (passes d p) (pieces (get_or routes i [])) ≡ true → passed d routes p ≡ true
    some d i k t = true_any (λ route. any (passes d p) (pieces route)) (index_member [] routes i k) t

    go : (any (among p) routes ≡ true) ⊎ Crossed routes p → (any (among p) routes ≡ true) ⊎ (passed hor routes p && passed ver routes p ≡ true)
    go (inl c) = inl c
    go (inr c) = inr (and_join (passed hor routes p) (passed ver routes p) (some hor c.one c.one_in c.along_row) (some ver c.other c.other_in c.along_column))

-- there are at least as many pits as distinct corners
pub pits_least : (routes : List Route) → length (unique same_point (flatten routes)) ≤ pits_of routes
unfolding pits_of pit_points
pits_least routes = unique_append (flatten routes) (crossings (flat_map pieces routes))

-- ---- what holds of every pit

module _ (P : Point → Type 0) (cross : (p q : Point) → P p → P q → P (record { x = p.x; y = q.y })) where
  -- the pieces start at corners
  firsts : (p : Point) (l : List Point) → All P (p ∷ l) → All (λ r. P r.first) (pieces_from p l)
  firsts p [] a = tt
  firsts p (q ∷ l) a = (a.0, firsts q l a.1)

  -- those of a route
  route_firsts : (route : Route) → All P route → All (λ r. P r.first) (pieces route)
  route_firsts [] a = tt
  route_firsts (p ∷ l) a = firsts p l a

  -- a crossing has the column of one corner and the row of another
  crossing_all : (r s : Run) → P r.first → P s.first → All P (crossing r s)
  unfolding crossing
  crossing_all r s a b = go (passes_row q r && passes_column q s)
    where
      q : Point
      q = record { x = s.first.x; y = r.first.y }

      go : (c : Bool) → All P (cond c (q ∷ []) [])
      go true = (cross s.first r.first b a, tt)
      go false = tt

  -- so what holds of the corners holds of every pit
  pub pits_all : (routes : List Route) → All (All P) routes → All P (pit_points routes)
  unfolding pit_points crossings
  pits_all routes a =
      let l = flat_map pieces routes in
      let f = all_flat_map (All P) (λ (r : Run). P r.first) pieces route_firsts routes a in
      all_append P (flatten routes) (crossings l) (all_flatten P routes a)
      (all_flat_map (λ (r : Run). P r.first) P (λ r. flat_map (crossing r) l)
      (λ r b. all_flat_map (λ (r : Run). P r.first) P (crossing r) (λ s c. crossing_all r s b c) l f) l f)

-- routes are given by vertices
pub routes_vertices : (g : Grid) (runs : List Run) (routes : List Route) → Routes g runs routes → All (All (Vertex g)) routes
routes_vertices g [] (route ∷ routes) m = elim m [ ]
routes_vertices g (run ∷ runs) [] m = elim m [ ]
routes_vertices g [] [] m = tt
routes_vertices g (run ∷ runs) (route ∷ routes) m = (m.0.vertices, routes_vertices g runs routes m.1)

-- every pit is a vertex, so on at most c rows there are no more than c times the columns
pub pits_few : (g : Grid) (c : ℕ) → length g.rows ≤ c → (runs : List Run) (routes : List Route) → Routes g runs routes → pits_of routes ≤ length g.columns * c
unfolding pits_of
pits_few g c most runs routes m =
    unique_few g c most (pit_points routes)
    (pits_all (Vertex g) (λ p q v w. record { column = v.column; row = w.row }) routes (routes_vertices g runs routes m))

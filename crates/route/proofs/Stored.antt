-- The routes that stand in one list of bytes, as loops pass them: each of them, one more at the end, and their counted corners.
use mathlib.Core.Path.{◌≡◌, refl, sym, ap, ◌∙◌}
use mathlib.Core.List.{List, [], ◌∷◌, ◌++◌, map, map-append}
use Prim.Native.Nat.{ℕ, zero, suc, ◌+◌, ◌*◌, ◌≤◌, ◌<◌}
use native.Mathlib.Nat.{le_trans, le_of_lt, mul-le-mul_right}
use native.Mathlib.Numerals.{add-one}
use lib.ListN.{length, get_or, take, drop}
use lib.Seq.{get_or-take}
use Rattle.network.specs.Lists.{All, each}
use Rattle.network.specs.Entries.{length_table, get_or_table}
use Rattle.network.proofs.Lists.{all_member, index_member}
use Rattle.route.specs.declared.Track.{Track}
use Rattle.route.specs.Route.{Route, route_by, corner_count}
use Rattle.route.specs.Stored.{routes_in, Stored}

module _ (steps : List ℕ) (stride : ℕ) (tracks : ℕ → Track) where
  -- route k
  abbrev pub route_in : ℕ → Route
  route_in k = route_by (drop (k * stride) steps) (tracks k)

  -- there are n routes
  pub routes_length : (n : ℕ) → length (routes_in steps stride tracks n) ≡ n
  unfolding routes_in
  routes_length n = length_table route_in n

  -- with route k at index k
  pub routes_at : (n k : ℕ) (d : Route) → k < n → get_or (routes_in steps stride tracks n) k d ≡ route_in k
  unfolding routes_in
  routes_at n k d h = get_or_table route_in n k d h

  -- so what holds of all holds of it
  pub routes_each : (P : Route → Type 0) (n k : ℕ) → All P (routes_in steps stride tracks n) → k < n → P (route_in k)
  routes_each P n k a h =
      let l = routes_in steps stride tracks n in
      rw (routes_at n k (route_in 0) h) at (all_member P a (index_member (route_in 0) l k (rw (routes_length n) h)))

  -- route k starts in the list
  pub routes_from : (n k : ℕ) → Stored steps stride tracks n → k < n → k * stride ≤ length steps
  routes_from n k s h = le_trans (mul-le-mul_right stride (le_of_lt h)) s.room

  -- one more, at the end
  pub routes_more : {B : Type 0} (f : Route → B) (k : ℕ) → map f (routes_in steps stride tracks (k + 1)) ≡ map f (routes_in steps stride tracks k) ++ f (route_in k) ∷ []
  unfolding routes_in
  routes_more f k = rw (add-one k) (map-append f (routes_in steps stride tracks k) (route_in k ∷ []))

  -- a table of what holds of each
  routes_map : {B : Type 0} (f : Route → B) (n : ℕ) → map f (routes_in steps stride tracks n) ≡ each n (λ k. f (route_in k) ∷ [])
  unfolding routes_in
  routes_map f zero = refl
  routes_map f (suc n) = map-append f (routes_in steps stride tracks n) (route_in n ∷ []) ∙ ap (λ l. l ++ f (route_in n) ∷ []) (routes_map f n)

  -- counted corners are those of route k
  pub counts_at : (corners : List ℕ) (n k : ℕ) → take n corners ≡ map corner_count (routes_in steps stride tracks n) → k < n
      → get_or corners k 0 ≡ corner_count (route_in k)
  counts_at corners n k e h =
      sym (get_or-take n corners k 0 h) ∙ ap (λ l. get_or l k 0) (e ∙ routes_map corner_count n) ∙ get_or_table (λ k. corner_count (route_in k)) n k 0 h

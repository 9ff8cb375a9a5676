-- The runs of a plan, written one behind the other: what is left to write, and to count.
use mathlib.Core.Path.{◌≡◌, ◌∙◌}
use mathlib.Core.Bool.{true}
use mathlib.Core.List.{List, [], ◌∷◌, map, flat_map}
use Prim.Native.Nat.{ℕ, suc, ◌+◌, ◌-◌, ◌*◌, ◌≤◌, ◌<◌}
use native.Mathlib.Omega.{arith}
use native.Mathlib.Numerals.{add-one}
use lib.ListN.{length, get_or, drop, length-append, length-map, length-take, length-drop, drop_of_length-le}
use lib.Seq.{drop-cons}
use borrow.Rule.Slice.PartMut.{mid_of, put_mid}
use Rattle.network.specs.Lists.{All}
use Rattle.network.specs.Route.{Route}
use Rattle.route.specs.Route.{Route as Steps, OnGrid, numbered, corners_of, placed}
use Rattle.plan.specs.declared.Head.{Head}
use Rattle.plan.specs.Writers.{entry_at, entries_at, WroteRuns}
use Rattle.fields.specs.Bytes.{Wrote}
use Rattle.plan.specs.Records.{route_size}
use Rattle.plan.specs.Plan.{Entry, entry_bytes, book_bytes, total_corners, entries_from}
use Rattle.fields.proofs.Over.{Rest, rest_all, rest_next, rest_none}
use Rattle.plan.proofs.Length.{entry_length, runs_length, total_few, book_most, entries_length, entries_all, placed_few}

module _ (columns rows numbers meets centres : List ℕ) where
  -- the corners of a route, looked up
  abbrev placed_corners : Steps → Route
  placed_corners r = map (placed columns rows) (corners_of r)

  -- the entries of routes, of the runs from index i on
  abbrev pub entries_left : ℕ → List Steps → List Entry
  entries_left i routes = entries_from (λ k. get_or numbers k 0) (λ k. get_or meets k 0) (λ k. get_or centres k 0) i (map placed_corners routes)

  -- at most 32 routes are at most 32 entries
  pub at_most : (routes : List Steps) → length routes ≤ 32 → length (entries_at columns rows numbers meets centres routes) ≤ 32
  unfolding entries_at
  at_most routes h =
      let own = map placed_corners routes in
      omega (arith, entries_length (λ k. get_or numbers k 0) (λ k. get_or meets k 0) (λ k. get_or centres k 0) 0 own, length-map routes placed_corners)

  -- of few corners each
  pub few_each : (routes : List Steps) → All (OnGrid numbered) routes
      → All (λ e. length e.corners ≤ 127) (entries_at columns rows numbers meets centres routes)
  unfolding entries_at
  few_each routes a =
      entries_all (λ c. length c ≤ 127) (λ k. get_or numbers k 0) (λ k. get_or meets k 0) (λ k. get_or centres k 0) 0 (map placed_corners routes)
      (placed_few columns rows routes a)

  -- the first i of the routes are written, and their corners counted
  pub record Running (routes : List Steps) (xs ys : List ℕ) (at corners i : ℕ) : Type 0 where
    pub passed : i ≤ length routes
    pub rest : Rest (flat_map (entry_bytes true) (entries_at columns rows numbers meets centres routes)) (flat_map (entry_bytes true) (entries_left i (drop i routes))) xs ys at
    pub total : corners + total_corners (entries_left i (drop i routes)) ≡ total_corners (entries_at columns rows numbers meets centres routes)
    pub few : total_corners (entries_at columns rows numbers meets centres routes) ≤ 4064
    pub short : length (flat_map (entry_bytes true) (entries_at columns rows numbers meets centres routes)) ≤ 36864

  -- at first all runs are left
  pub running_all : (routes : List Steps) (xs : List ℕ) → length routes ≤ 32 → All (OnGrid numbered) routes
      → length (flat_map (entry_bytes true) (entries_at columns rows numbers meets centres routes)) ≤ length xs → Running routes xs xs 0 0 0
  unfolding entries_at route_size
  running_all routes xs h a k =
      let n = at_most routes h in
      let f = total_few (entries_at columns rows numbers meets centres routes) (few_each routes a) in
      record {
        passed = omega arith;
        rest = rest_all (flat_map (entry_bytes true) (entries_at columns rows numbers meets centres routes)) xs k;
        total = omega arith;
        few = omega arith;
        short = omega (arith, runs_length true (entries_at columns rows numbers meets centres routes));
      }

  module _ (routes : List Steps) (xs ys : List ℕ) (at corners i : ℕ) (r : Running routes xs ys at corners i) where
    module _ (h : i < length routes) (d route : Steps) (e : get_or routes i d ≡ route) where
      -- the next route, and those behind it
      next_left : drop i routes ≡ route ∷ drop (suc i) routes
      next_left = drop-cons routes i d h ∙ rw e

      -- there is room for the next run
      pub run_fits : (k : ℕ) → k ≡ length (corners_of route) → 9 + 9 * k ≤ length (mid_of at (length ys - at) ys)
      unfolding flat_map route_size
      run_fits k c =
          let t = rw next_left at r.rest in
          let x = entry_at columns rows (get_or numbers i 0) (get_or meets i 0) (get_or centres i 0) route in
          omega (
            arith,
            length-take (length ys - at) (drop at ys),
            length-drop at ys,
            t.room,
            t.size,
            t.same,
            length-append (entry_bytes true x) (flat_map (entry_bytes true) (entries_left (suc i) (drop (suc i) routes))),
            entry_length true x,
            length-map (corners_of route) (placed columns rows),
          )

      -- the next run, written into the rest of ys
      pub running_next : (zs : List ℕ) (n k : ℕ) → Wrote (entry_bytes true (entry_at columns rows (get_or numbers i 0) (get_or meets i 0) (get_or centres i 0) route)) (mid_of at (length ys - at) ys) zs n
          → k ≡ length (corners_of route) → Running routes xs (put_mid at (length ys - at) ys zs) (at + n) (corners + k) (i + 1)
      unfolding flat_map
      running_next zs n k w c =
          rw (add-one i)
          (record {
            passed = h;
            rest = rest_next (flat_map (entry_bytes true) (entries_at columns rows numbers meets centres routes))
                (entry_bytes true (entry_at columns rows (get_or numbers i 0) (get_or meets i 0) (get_or centres i 0) route))
                (flat_map (entry_bytes true) (entries_left (suc i) (drop (suc i) routes))) xs ys zs at n (rw next_left at r.rest) w;
            total = omega (arith, rw next_left at r.total, length-map (corners_of route) (placed columns rows));
            few = r.few;
            short = r.short;
          })

    -- all runs are written
    pub running_end : i ≡ length routes → WroteRuns (entries_at columns rows numbers meets centres routes) xs ys (record { bytes = at; corners = corners })
    unfolding flat_map
    running_end h =
        let n : drop i routes ≡ [] = drop_of_length-le routes {i = i} (omega arith) in
        let t = rw n at r.total in
        record {
          wrote = rest_none (flat_map (entry_bytes true) (entries_at columns rows numbers meets centres routes)) xs ys at (rw n at r.rest);
          total = omega arith;
          few = omega (arith, r.few);
        }

-- The plan of at most 32 routes, on at most 64 columns and 64 rows, has at most 36,886 bytes.
pub written_most : (columns rows numbers meets centres : List ℕ) (head : Head) (routes : List Steps) → length routes ≤ 32 → All (OnGrid numbered) routes
    → length (book_bytes head (entries_at columns rows numbers meets centres routes)) ≤ 36886
written_most columns rows numbers meets centres head routes h a =
    book_most head (entries_at columns rows numbers meets centres routes) (at_most columns rows numbers meets centres routes h)
    (few_each columns rows numbers meets centres routes a)

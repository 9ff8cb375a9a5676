-- Each record of a book that was read stands where the places say, and its corners are in range and turn: `rest_reads`.
use mathlib.Core.Path.{◌≡◌, refl, ap}
use mathlib.Core.Bool.{Bool, true, false}
use mathlib.Core.List.{List, [], ◌∷◌}
use Prim.Native.Nat.{ℕ, zero, suc, ◌+◌, ◌*◌, ◌≤◌}
use native.Mathlib.Nat.{add-zero}
use native.Mathlib.Omega.{arith}
use lib.ListN.{length, drop}
use lib.Seq.{drop-drop}
use Rattle.network.specs.Plane.{Point}
use Rattle.job.specs.Fields.{biased_of}
use Rattle.plan.specs.Records.{route_size}
use Rattle.records.specs.declared.Record.TheVariants as rec
use Rattle.records.specs.Records.{record_of}
use Rattle.book.specs.declared.Corner.{Corner}
use Rattle.book.specs.declared.Route.{Route}
use Rattle.refusal.specs.declared.Refusal.{Refusal}
use Rattle.std.specs.Prelude.{Result, Ok, Err}
use Rattle.book.specs.declared.Walk.{Walk}
use Rattle.book.specs.declared.Step.{Step}
use Rattle.book.specs.declared.Step.TheVariants as step
use Rattle.book.specs.Parse.{
  begun,
  passed,
  in_range,
  no_turn,
  step_of,
  Told,
  Rest,
  rest,
  stopped,
  with_corner,
  with_route,
  proceed,
  rest_from,
  behind,
}
use Rattle.book.proofs.Taken.{Took, TookRoute, TookCorner, step_took}

-- what is known behind some corners
abbrev pub after_corners : Walk → List Point → Walk
after_corners w [] = w
after_corners w (p ∷ ps) = after_corners (passed w (record { x = p.x; y = p.y })) ps

-- the set of kinds is the same
pub after_grouped : (w : Walk) (ps : List Point) → (after_corners w ps).grouped ≡ w.grouped
after_grouped w [] = refl
after_grouped w (p ∷ ps) = after_grouped (passed w (record { x = p.x; y = p.y })) ps

module _ (s : List ℕ) where
  -- ---- what stands where

  -- a corner, by its words, after what is known of those before it
  pub record CornerAt (at : ℕ) (w : Walk) (p : Point) : Type 0 where
    pub across : ℕ
    pub upward : ℕ
    pub is : record_of (drop at s) ≡ rec.Corner across upward
    pub x_is : p.x ≡ biased_of across
    pub y_is : p.y ≡ biased_of upward
    pub in_range : in_range (record { x = p.x; y = p.y }) ≡ true
    pub turns : no_turn w (record { x = p.x; y = p.y }) ≡ false

  -- corners, one behind the other
  unfoldable pub CornersAt : ℕ → Walk → List Point → Type 0
  CornersAt at w [] = Unit {0}
  CornersAt at w (p ∷ ps) = CornerAt at w p × CornersAt (at + 9) (passed w (record { x = p.x; y = p.y })) ps

  -- a route with its corners behind it, of which there are at most 127
  pub record RouteAt (g : Bool) (at : ℕ) (w : Walk) (t : Told) : Type 0 where
    pub is : record_of (drop at s) ≡ rec.Route g t.entry.number t.entry.meets t.said t.entry.centre
    pub corners : CornersAt (at + route_size g) (begun w) t.entry.corners
    pub few : length t.entry.corners ≤ 127

  -- routes, one behind the other
  unfoldable pub RoutesAt : ℕ → Walk → List Told → Type 0
  RoutesAt at w [] = Unit {0}
  RoutesAt at w (t ∷ ts) = RouteAt w.grouped at w t × RoutesAt (behind w.grouped at t.entry) (after_corners (begun w) t.entry.corners) ts

  pub record RestAt (at : ℕ) (w : Walk) (cs : List Point) (ts : List Told) : Type 0 where
    pub corners : CornersAt at w cs
    pub routes : RoutesAt (at + 9 * length cs) (after_corners w cs) ts
    pub short : w.corners + length cs ≤ 127
    pub few : w.routes + length ts ≤ 32
    pub first : w.routes ≡ 0 → cs ≡ []

  abbrev pub Reads : ℕ → Walk → Rest → Type 0
  Reads at w (rest cs ts total) = RestAt at w cs ts
  Reads at w (stopped x) = Unit {0}

  -- ---- record by record

  reads_route : (at : ℕ) (w : Walk) (r : Route) (k : Rest) → w.corners ≤ 127
      → TookRoute (drop at s) w (record_of (drop at s)) r → Reads (at + route_size w.grouped) (begun w) k
      → Reads at w (with_route r k)
  unfolding CornersAt RoutesAt
  reads_route at w r (rest cs ts total) h k t =
      record {
        corners = tt;
        routes = rw (add-zero at) (record { is = k.is; corners = t.corners; few = omega (arith, t.short) }, t.routes);
        short = omega arith;
        few = omega (arith, t.few);
        first = λ e. refl;
      }
  reads_route at w r (stopped x) h k t = tt

  reads_corner : (at : ℕ) (w : Walk) (c : Corner) (k : Rest) → TookCorner (drop at s) w (record_of (drop at s)) c → Reads (at + 9) (passed w c) k
      → Reads at w (with_corner c k)
  unfolding CornersAt
  reads_corner at w c (rest cs ts total) k t =
      let m : at + 9 + 9 * length cs ≡ at + 9 * suc (length cs) = omega arith in
      record {
        corners = (
          record {
            across = k.across;
            upward = k.upward;
            is = k.is;
            x_is = ap (λ (q : Corner). q.x) k.biased;
            y_is = ap (λ (q : Corner). q.y) k.biased;
            in_range = k.in_range;
            turns = k.turns;
          },
          t.corners,
        );
        routes = rw m at t.routes;
        short = omega (arith, t.short);
        few = t.few;
        first = λ e. absurd (omega (arith, k.begun));
      }
  reads_corner at w c (stopped x) k t = tt

  pub rest_reads : (n at : ℕ) (w : Walk) → w.routes ≤ 32 → w.corners ≤ 127 → Reads at w (rest_from n at w (drop at s))
  unfolding rest_from CornersAt RoutesAt
  rest_reads zero at w h k = tt
  rest_reads (suc n) at w h k =
      go (step_of at w (drop at s)) (step_took at w (drop at s)) (λ m v q r. rw (drop-drop m at s) (rest_reads n (at + m) v q r))
    where
      go : (st : Result Step Refusal) → Took (drop at s) w (record_of (drop at s)) st
          → ((m : ℕ) (v : Walk) → v.routes ≤ 32 → v.corners ≤ 127 → Reads (at + m) v (rest_from n (at + m) v (drop m (drop at s))))
          → Reads at w (proceed (rest_from n) at w (drop at s) st)
      go (Ok (step.Route r)) f later =
          let size = route_size w.grouped in
          reads_route at w r (rest_from n (at + size) (begun w) (drop size (drop at s))) k f
          (later size (begun w) (omega (arith, f.room)) (omega arith))
      go (Ok (step.Corner c)) f later =
          reads_corner at w c (rest_from n (at + 9) (passed w c) (drop 9 (drop at s))) f (later 9 (passed w c) h (omega (arith, f.room)))
      go (Ok (step.End total)) f later = record { corners = tt; routes = tt; short = omega arith; few = omega arith; first = λ e. refl }
      go (Err x) f later = tt

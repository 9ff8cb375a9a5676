-- The loop of `read`: the places so far, in front of what the rest of the book gives, are those of the whole book.
use mathlib.Core.Path.{◌≡◌, refl, sym, ap, ◌∙◌}
use mathlib.Core.Bool.{Bool}
use mathlib.Core.List.{List, [], ◌∷◌, ◌++◌}
use Prim.Native.Nat.{ℕ, zero, suc, pred, ◌+◌, ◌-◌, ◌*◌, ◌≤◌, ◌<◌}
use native.Mathlib.Numerals.{add-one}
use native.Mathlib.Omega.{arith}
use lib.ListN.{length, set, drop, replicate, length-append, length-drop}
use lib.Seq.{drop-drop}
use Rattle.refusal.specs.declared.Refusal.{Refusal}
use Rattle.refusal.specs.declared.Refusal.TheVariants.{NotWhole}
use Rattle.plan.specs.declared.Head.{Head}
use Rattle.plan.specs.Records.{route_size}
use Rattle.plan.proofs.Length.{route_size_lem}
use Rattle.records.specs.declared.Record.{Record}
use Rattle.records.specs.declared.Record.TheVariants as rec
use Rattle.records.specs.Records.{record_of}
use Rattle.book.specs.declared.Corner.{Corner}
use Rattle.book.specs.declared.Walk.{Walk}
use Rattle.book.specs.declared.Step.TheVariants as step
use Rattle.book.specs.declared.Route.{Route}
use Rattle.std.specs.Prelude.{Some, None, Ok, Err}
use Rattle.book.specs.declared.Run.{Run}
use Rattle.book.specs.Parse.{start, begun, passed, step_of, Rest, proceed, rest_from, is_grouped, rest_of}
use Rattle.book.specs.Reading.{padded}
use Rattle.book.specs.Shape.{whole, broken, shape_by, shape_of, Passes, none, more, Runs, Breaks}
use Rattle.book.proofs.Taken.{record_long, head_grouped, TookRoute, TookCorner, step_took}
use Rattle.book.proofs.Summary.{
  Summary,
  found,
  halted,
  summary,
  after,
  after_none,
  after_more,
  route_summary,
  corner_summary,
  end_summary,
  shaped,
  shape_shaped,
  padded_more,
}

-- what holds when the loop looks at a record; `fuel` and `before` are known to the proof alone
pub record SoFar (s held : List ℕ) (at : ℕ) (w : Walk) : Type 0 where
  pub few : w.routes ≤ 32
  pub short : w.corners ≤ 127
  pub within : at ≤ length s
  pub near : at ≤ 19 + 1152 * w.routes + 9 * w.corners
  pub fuel : ℕ
  pub enough : length s < at + fuel
  pub before : List ℕ
  pub many : length before ≡ w.routes
  pub places : held ≡ padded before
  pub rest : after before (summary w.grouped at (rest_from fuel at w (drop at s))) ≡ summary (is_grouped s) 19 (rest_of s)

-- a first record that is no head
abbrev NotHead : Record → Type 0
NotHead (rec.Head h) = ⊥
NotHead (rec.Route q number meets said centre) = Unit {0}
NotHead (rec.Corner x y) = Unit {0}
NotHead (rec.End total) = Unit {0}
NotHead rec.Other = Unit {0}

pub else_head : (g : Record) → ((h : Head) → g ≡ rec.Head h → ⊥) → NotHead g
else_head (rec.Head h) t = t h refl
else_head (rec.Route q number meets said centre) t = tt
else_head (rec.Corner x y) t = tt
else_head (rec.End total) t = tt
else_head rec.Other t = tt

refused_by : (g : Record) (k : Rest) → NotHead g → broken (NotWhole 0) ≡ shape_by g k
unfolding shape_by
refused_by (rec.Head h) k n = absurd n
refused_by (rec.Route q number meets said centre) k n = refl
refused_by (rec.Corner x y) k n = refl
refused_by (rec.End total) k n = refl
refused_by rec.Other k n = refl

pub first_refused : (s : List ℕ) (g : Record) → record_of s ≡ g → NotHead g → broken (NotWhole 0) ≡ shape_of s
unfolding shape_of
first_refused s g e n = refused_by g (rest_of s) n ∙ ap (λ q. shape_by q (rest_of s)) (sym e)

-- behind the head
pub so_far_none : (s : List ℕ) (h : Head) → record_of s ≡ rec.Head h → SoFar s (replicate 33 0) 19 (start h.grouped)
so_far_none s h e =
    record {
      few = omega arith;
      short = omega arith;
      within = (rw e at (record_long s)).0;
      near = omega arith;
      fuel = suc (length s);
      enough = omega arith;
      before = [];
      many = refl;
      places = refl;
      rest =
          ap (λ (g : Bool). after [] (summary g 19 (rest_from (suc (length s)) 19 (start g) (drop 19 s)))) (sym (head_grouped s h e))
          ∙ after_none (summary (is_grouped s) 19 (rest_of s));
    }

-- a corner that is taken
pub took_corner : (s : List ℕ) (at : ℕ) (w : Walk) (c : Corner) → step_of at w (drop at s) ≡ Ok (step.Corner c) → TookCorner (drop at s) w (record_of (drop at s)) c
took_corner s at w c e = rw e at (step_took at w (drop at s))

-- is whole
pub corner_room : (s : List ℕ) (at : ℕ) (w : Walk) (c : Corner) → at ≤ length s → step_of at w (drop at s) ≡ Ok (step.Corner c) → at + 9 ≤ length s
corner_room s at w c h e = omega (arith, (took_corner s at w c e).long, length-drop at s)

module _ (s held : List ℕ) (at : ℕ) (w : Walk) (h : SoFar s held at w) where
  -- one record is looked at
  stepped : (f : ℕ) × (length s < at + suc f)
      × (after h.before (summary w.grouped at (proceed (rest_from f) at w (drop at s) (step_of at w (drop at s)))) ≡ summary (is_grouped s) 19 (rest_of s))
  unfolding rest_from
  stepped = go h.fuel h.enough h.rest
    where
      go : (f : ℕ) → length s < at + f → after h.before (summary w.grouped at (rest_from f at w (drop at s))) ≡ summary (is_grouped s) 19 (rest_of s)
          → (g : ℕ) × (length s < at + suc g)
          × (after h.before (summary w.grouped at (proceed (rest_from g) at w (drop at s) (step_of at w (drop at s)))) ≡ summary (is_grouped s) 19 (rest_of s))
      go zero l e = absurd (omega (arith, h.within))
      go (suc f) l e = (f, l, e)

  -- a route
  module _ (r : Route) (e : step_of at w (drop at s) ≡ Ok (step.Route r)) where
    pub took_route : TookRoute (drop at s) w (record_of (drop at s)) r
    took_route = rw e at (step_took at w (drop at s))

    pub so_far_route : SoFar s (set held w.routes at) (at + route_size w.grouped) (begun w)
    so_far_route =
        let (f, l, rests) = stepped in
        let fits = took_route in
        let size = route_size w.grouped in
        let (some, most) = route_size_lem w.grouped in
        record {
          few = omega (arith, fits.room);
          short = omega arith;
          within = omega (arith, fits.long, length-drop at s, h.within);
          near = omega (arith, h.near, h.short);
          fuel = f;
          enough = omega arith;
          before = h.before ++ (at ∷ []);
          many = length-append h.before (at ∷ []) ∙ ap (λ (n : ℕ). n + 1) h.many;
          places = ap (λ (m : List ℕ). set m w.routes at) h.places ∙ padded_more h.before w.routes at h.many (omega (arith, fits.room));
          rest =
              ap (λ (b : List ℕ). after (h.before ++ (at ∷ [])) (summary w.grouped (at + size) (rest_from f (at + size) (begun w) b)))
              (sym (drop-drop size at s))
              ∙ sym (after_more h.before at (summary w.grouped (at + size) (rest_from f (at + size) (begun w) (drop size (drop at s)))))
              ∙ ap (after h.before)
              (sym (route_summary w.grouped at r (rest_from f (at + size) (begun w) (drop size (drop at s)))))
              ∙ (rw e at rests);
        }

    -- fewer bytes are left
    pub route_less : length s - (at + route_size w.grouped) < length s - at
    route_less = omega (arith, took_route.long, length-drop at s, h.within, route_size_lem w.grouped)

  -- a corner
  module _ (c : Corner) (e : step_of at w (drop at s) ≡ Ok (step.Corner c)) where
    so_far_corner : SoFar s held (at + 9) (passed w c)
    so_far_corner =
        let (f, l, rests) = stepped in
        let fits = took_corner s at w c e in
        record {
          few = h.few;
          short = omega (arith, fits.room);
          within = omega (arith, fits.long, length-drop at s, h.within);
          near = omega (arith, h.near);
          fuel = f;
          enough = omega arith;
          before = h.before;
          many = h.many;
          places = h.places;
          rest =
              ap (λ (b : List ℕ). after h.before (summary w.grouped (at + 9) (rest_from f (at + 9) (passed w c) b))) (sym (drop-drop 9 at s))
              ∙ ap (after h.before) (sym (corner_summary w.grouped at c (rest_from f (at + 9) (passed w c) (drop 9 (drop at s))))) ∙ (rw e at rests);
        }

  -- a place fits its word
  pub near_fits : at < 4294967296
  near_fits = omega (arith, h.near, h.few, h.short)

  -- the shape of the whole book, from what the record at hand leads to
  shape_is : (hd : Head) (k : Summary) → record_of s ≡ rec.Head hd → k ≡ summary (is_grouped s) 19 (rest_of s) → shaped hd k ≡ shape_of s
  unfolding shape_of
  shape_is hd k e rests =
      ap (shaped hd) (rests ∙ ap (λ (g : Bool). summary g 19 (rest_of s)) (head_grouped s hd e)) ∙ shape_shaped hd (rest_of s)
      ∙ ap (λ g. shape_by g (rest_of s)) (sym e)

  pub so_far_end : (hd : Head) (total : ℕ) → record_of s ≡ rec.Head hd → step_of at w (drop at s) ≡ Ok (step.End total)
      → whole hd w.routes total (set held w.routes at) ≡ shape_of s
  so_far_end hd total e t =
      let (f, l, rests) = stepped in
      let n : w.routes ≡ pred (length (h.before ++ (at ∷ []))) = sym (ap pred (length-append h.before (at ∷ []) ∙ add-one (length h.before)) ∙ h.many) in
      let l : set held w.routes at ≡ padded (h.before ++ (at ∷ [])) = ap (λ (m : List ℕ). set m w.routes at) h.places ∙ padded_more h.before w.routes at h.many (omega (arith, h.few)) in
      (λ i. whole hd (n i) total (l i))
      ∙ shape_is hd (found (h.before ++ (at ∷ [])) total) e (ap (after h.before) (sym (end_summary w.grouped at total)) ∙ (rw t at rests))

  pub so_far_refused : (hd : Head) (x : Refusal) → record_of s ≡ rec.Head hd → step_of at w (drop at s) ≡ Err x → broken x ≡ shape_of s
  so_far_refused hd x e t =
      let (f, l, rests) = stepped in
      shape_is hd (halted x) e (rw t at rests)

-- ---- corners that are taken one behind the other

-- the place behind them is no earlier
pub passes_on : (s : List ℕ) (at : ℕ) (w : Walk) (to : ℕ) (v : Walk) → Passes s at w to v → at ≤ to
passes_on s at w to v none = omega arith
passes_on s at w to v (more m u c p e) = omega (arith, passes_on s at w m u p)

-- and so far all is as it is due
pub so_far_passes : (s held : List ℕ) (at : ℕ) (w : Walk) (to : ℕ) (v : Walk) → SoFar s held at w → Passes s at w to v → SoFar s held to v
so_far_passes s held at w to v h none = h
so_far_passes s held at w to v h (more m u c p e) = so_far_corner s held m u (so_far_passes s held at w m u h p) c e

-- behind them stands what the run says
module _ (s held : List ℕ) (at : ℕ) (w : Walk) (h : SoFar s held at w) (r : Run) (k : Runs s at w r) where
  pub run_so_far : SoFar s held r.at r.walk
  run_so_far = so_far_passes s held at w r.at r.walk h k.passes

  pub run_route : r.end ≡ None
      → (q : Route) × (step_of r.at r.walk (drop r.at s) ≡ Ok (step.Route q))
  run_route e = rw e at k.stops

  pub run_end : (total : ℕ) → r.end ≡ Some total → step_of r.at r.walk (drop r.at s) ≡ Ok (step.End total)
  run_end total e = rw e at k.stops

-- or what is refused
pub break_refused : (s held : List ℕ) (at : ℕ) (w : Walk) → SoFar s held at w → (hd : Head) (x : Refusal) → record_of s ≡ rec.Head hd → Breaks s at w x → broken x ≡ shape_of s
break_refused s held at w h hd x e k = so_far_refused s held k.to k.walk (so_far_passes s held at w k.to k.walk h k.passes) hd x e k.refused

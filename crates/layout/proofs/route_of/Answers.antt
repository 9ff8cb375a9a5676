-- By the tests: the centre, a leaf that shares nothing, and one that shares.
use mathlib.Core.Path.{◌≡◌}
use mathlib.Core.List.{List}
use Prim.Native.Nat.{ℕ}
use native.Mathlib.Omega.{arith}
use lib.ListN.{length-take}
use Rattle.sharing.specs.Trace.{Move}
use Rattle.table.specs.Walk.{trace_of}
use Rattle.layout.specs.declared.Points.{Points}
use Rattle.layout.specs.declared.Stretch.{Stretch}
use Rattle.layout.specs.Laid.{Ready, Stretched}
use Rattle.layout.proofs.Laying.{centre_few, centre_count, laid_centre, laid_plain}
use Rattle.layout.proofs.route_of.Goals as goal

-- a leaf that shares something
shares : {a e : Points} {c k : ℕ} {M : List Move} {s : Stretch} → Ready a e c M k s → (k ≡ c → ⊥) → (s.size ≡ 0 → ⊥) → Stretched a e c M k s
shares r n h = record { ready = r; other = n; some = omega arith }

pub shared_ref_as_front-forth : goal.shared_ref_as_front-forth
shared_ref_as_front-forth c =
    let t = c.args.trace.now in
    omega (arith, c.requires.0, centre_few _ _ (trace_of t.steps c.requires.2.0 t.count) c.requires.2.1.centre_layable)

pub forth-requires : goal.forth-requires
forth-requires c =
    let t = c.args.trace.now in
    let moves = trace_of t.steps c.requires.2.0 t.count in
    let r = c.requires.2.1 in
    let few = centre_few _ _ moves r.centre_layable in
    omega (arith, c.requires.0, c.requires.1, few, centre_count _ _ moves r.centre_layable _ _ r.layable c.if-k-c.true, length-take t.count t.steps)

pub returns-then-k-c : goal.returns-then-k-c
returns-then-k-c c =
    let t = c.args.trace.now in (
      λ list r. laid_centre _ _ (trace_of t.steps list t.count) r.centre_layable _ _ r.layable c.if-k-c.true c.requires.0 _ _ _ c.requires.1 c.forth.ensures,
      c.forth.ensures.same_size,
    )

pub returns-then-s-eq0 : goal.returns-then-s-eq0
returns-then-s-eq0 c = (
  λ list r. laid_plain _ _ _ _ _ _ r.layable c.if-k-c.false r.found c.if-s-eq0.true _ _ c.extent.ensures.0 c.extent-then-s-eq0.ensures.0 _ _ _
      c.requires.1 c.leg.ensures,
  c.leg.ensures.same_size,
)

pub leaf_route-requires : goal.leaf_route-requires
leaf_route-requires c =
    (c.requires.0, c.requires.1, (c.args.c, c.args.k, c.requires.2.0, c.args.trace.now.count, shares c.requires.2.1 c.if-k-c.false c.if-s-eq0.false))

pub returns : goal.returns
returns c = (
  λ list r. c.leaf_route.ensures.0 c.args.c c.args.k list c.args.trace.now.count (shares r c.if-k-c.false c.if-s-eq0.false),
  c.leaf_route.ensures.1,
)

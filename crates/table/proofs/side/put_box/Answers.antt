-- The lines of the frame that the box has are those between the higher of the two lower ends and the lower of the two higher ones.
use Prim.Native.Nat.{ℕ, ◌-◌, ◌≤◌, min, max}
use mathlib.Core.Path.{◌≡◌, ap₂, ◌∙◌}
use Rattle.table.proofs.Lines.{gap_lt}
use Rattle.table.proofs.Axis.{cut_apart, cut_back, cut_forth, far_back, far_forth}
use native.Mathlib.Omega.{arith}
use Rattle.table.proofs.side.put_box.Goals as goal

-- of two lines the higher is nearer to a line above them,
nearer : (p lo hi : ℕ) → lo ≤ hi → p - hi ≤ p - lo
nearer p lo hi h = omega arith

-- and further from one below them
further : (p lo hi : ℕ) → lo ≤ hi → lo - p ≤ hi - p
further p lo hi h = omega arith

pub returns-then-hi-lo : goal.returns-then-hi-lo
returns-then-hi-lo c =
    let a = c.args in
    let el : c.max-lo.result ≡ max (min a.a a.b) (min a.p a.q) =
    c.max-lo.ensures ∙ ap₂ max c.min.ensures c.min-2.ensures in
    let eh : c.min-hi.result ≡ min (max a.a a.b) (max a.p a.q) = c.min-hi.ensures ∙ ap₂ min c.max.ensures c.max-2.ensures in
    (c.requires.0, λ i h. rw (cut_apart a.a a.b a.p a.q _ _ el eh i h c.if-hi-lo.true) (omega arith))

pub spread-requires : goal.spread-requires
spread-requires c =
    let a = c.args in
    let el : c.max-lo.result ≡ max (min a.a a.b) (min a.p a.q) =
    c.max-lo.ensures ∙ ap₂ max c.min.ensures c.min-2.ensures in
    let eh : c.min-hi.result ≡ min (max a.a a.b) (max a.p a.q) = c.min-hi.ensures ∙ ap₂ min c.max.ensures c.max-2.ensures in
    let f = far_back _ a.p a.q _ c.if-q-p.true el in
    (c.requires.0, nearer a.p _ _ (omega (arith, c.if-hi-lo.false)), omega (arith, gap_lt 64 a.p a.q c.requires.1 c.requires.2), λ i h. c.requires.3 i (omega arith))

pub returns-then-q-p : goal.returns-then-q-p
returns-then-q-p c =
    let a = c.args in
    let el : c.max-lo.result ≡ max (min a.a a.b) (min a.p a.q) =
    c.max-lo.ensures ∙ ap₂ max c.min.ensures c.min-2.ensures in
    let eh : c.min-hi.result ≡ min (max a.a a.b) (max a.p a.q) = c.min-hi.ensures ∙ ap₂ min c.max.ensures c.max-2.ensures in
    (c.spread.ensures.0, λ i h. rw (cut_back a.a a.b a.p a.q _ _ el eh i h c.if-q-p.true (omega (arith, c.if-hi-lo.false))) (c.spread.ensures.1 i))

pub spread-requires-2 : goal.spread-requires-2
spread-requires-2 c =
    let a = c.args in
    let el : c.max-lo.result ≡ max (min a.a a.b) (min a.p a.q) =
    c.max-lo.ensures ∙ ap₂ max c.min.ensures c.min-2.ensures in
    let eh : c.min-hi.result ≡ min (max a.a a.b) (max a.p a.q) = c.min-hi.ensures ∙ ap₂ min c.max.ensures c.max-2.ensures in
    let f = far_forth _ a.p a.q _ (omega (arith, c.if-q-p.false)) eh in
    (c.requires.0, further a.p _ _ (omega (arith, c.if-hi-lo.false)), omega (arith, gap_lt 64 a.p a.q c.requires.1 c.requires.2), λ i h. c.requires.3 i (omega arith))

pub returns : goal.returns
returns c =
    let a = c.args in
    let el : c.max-lo.result ≡ max (min a.a a.b) (min a.p a.q) =
    c.max-lo.ensures ∙ ap₂ max c.min.ensures c.min-2.ensures in
    let eh : c.min-hi.result ≡ min (max a.a a.b) (max a.p a.q) = c.min-hi.ensures ∙ ap₂ min c.max.ensures c.max-2.ensures in
    (c.spread-2.ensures.0, λ i h. rw (cut_forth a.a a.b a.p a.q _ _ el eh i h (omega (arith, c.if-q-p.false)) (omega (arith, c.if-hi-lo.false))) (c.spread-2.ensures.1 i))

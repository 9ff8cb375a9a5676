-- The test says whether every group is a star, and then each run knows its centre.
use mathlib.Core.Path.{◌≡◌, sym, ap, ◌∙◌}
use Prim.Native.Nat.{ℕ}
use native.Mathlib.Omega.{arith}
use Rattle.grid.specs.Tables.{table, padded}
use Rattle.grid.proofs.Tables.{table_more}
use Rattle.groups.specs.Near.{near_centre}
use Rattle.intersection.specs.Centres.{joined_in}
use Rattle.intersection.proofs.Finding.{found_each, found_none}
use Rattle.intersection.proofs.finder.centres_of.Goals as goal

pub returns-then-not-are_local : goal.returns-then-not-are_local
returns-then-not-are_local c =
    found_none (joined_in c.args.neighbours.now) c.args.n c.requires.0 c.requires.1 (sym c.are_local.ensures ∙ c.if-not-are_local.true)

pub loop-i-preserved : goal.loop-i-preserved
loop-i-preserved c =
    let l = c.loop-i in
    table_more (λ k. near_centre (joined_in c.args.neighbours.now) 32 k) 32 l.i _ l.centres (omega arith) c.centre_at.ensures l.invariant

pub returns : goal.returns
returns c =
    let joined = joined_in c.args.neighbours.now in
    let n = c.args.n in
    let l = c.loop-i in
    let e : l.i ≡ n = omega arith in
    found_each joined n c.requires.0 c.requires.1 (sym c.are_local.ensures ∙ c.if-not-are_local.false) l.centres (l.invariant ∙ ap (λ (k : ℕ). padded 32 (table (near_centre joined 32) k)) e)

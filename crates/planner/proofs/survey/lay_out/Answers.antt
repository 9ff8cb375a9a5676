use mathlib.Core.Path.{◌≡◌, refl, sym, ap, ◌∙◌, subst}
use mathlib.Core.List.{List}
use Prim.Native.Nat.{ℕ, ◌≤◌}
use native.Mathlib.Omega.{arith}
use lib.ListN.{length}
use Rattle.network.specs.Distinct.{distinct}
use Rattle.job.specs.declared.Spans.{Spans}
use Rattle.grid.specs.declared.Axis.{Axis}
use Rattle.grid.specs.Lines.{values, axis_of}
use Rattle.grid.proofs.Values.{none_laid, laid_few}
use Rattle.table.specs.Side.{PlacesOf}
use Rattle.table.specs.declared.side.Survey.{Survey}
use Rattle.planner.specs.Stages.{Placing}
use Rattle.planner.proofs.survey.lay_out.Goals as goal

pub loop-i-init : goal.loop-i-init
loop-i-init c =
    record {
      columns = none_laid _ _ _ c.requires.1.no_lines;
      rows = none_laid _ _ _ c.requires.2.no_lines;
      across_wait = refl;
      down_wait = refl;
    }

pub place-requires : goal.place-requires
place-requires c =
    let l = c.loop-i in (
      laid_few _ _ _ l.i (omega (arith, c.requires.0)) l.invariant.columns,
      c.requires.0,
      ap (λ (p : Spans). length p.first) l.invariant.across_wait ∙ c.requires.1.firsts_room,
      ap (λ (p : Spans). length p.second) l.invariant.across_wait ∙ c.requires.1.seconds_room,
    )

pub place-requires-2 : goal.place-requires-2
place-requires-2 c =
    let l = c.loop-i in (
      laid_few _ _ _ l.i (omega (arith, c.requires.0)) l.invariant.rows,
      c.requires.0,
      ap (λ (p : Spans). length p.first) l.invariant.down_wait ∙ c.requires.2.firsts_room,
      ap (λ (p : Spans). length p.second) l.invariant.down_wait ∙ c.requires.2.seconds_room,
    )

-- the lines of n runs, and then their places among them
placing : (first second : List ℕ) (n i : ℕ) (a : Axis) (s : Survey) → n ≤ 32 → i ≡ n → a ≡ axis_of (distinct (values first second i)) → s.axis ≡ a
    → PlacesOf a.lines a.count first n s.places.first → PlacesOf a.lines a.count second n s.places.second → Placing first second n s
placing first second n i a s h e l q f g =
    let x = q ∙ l ∙ ap (λ (k : ℕ). axis_of (distinct (values first second k))) e in
    record {
      axis_is = x;
      firsts_are = subst (λ (b : Axis). PlacesOf b.lines b.count first n s.places.first) (sym q) f;
      seconds_are = subst (λ (b : Axis). PlacesOf b.lines b.count second n s.places.second) (sym q) g;
      few = laid_few first second s.axis n h x;
    }

pub returns : goal.returns
returns c =
    let l = c.loop-i in
    let e : l.i ≡ c.args.job.now.count = omega arith in
    let p = c.place.ensures in
    let q = c.place-2.ensures in
    record {
      on_columns = placing _ _ _ l.i _ _ c.requires.0 e l.invariant.columns p.2 p.0 p.1;
      on_rows = placing _ _ _ l.i _ _ c.requires.0 e l.invariant.rows q.2 q.0 q.1;
    }

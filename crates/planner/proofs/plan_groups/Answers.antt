-- The outcome is that of the finder: some group is no star, or the plan of the lease.
use mathlib.Core.Path.{◌≡◌, refl, ap, ap₂, ◌∙◌}
use mathlib.Core.List.{List, ◌++◌}
use Prim.Native.Nat.{ℕ, ◌*◌, ◌≤◌}
use lib.ListN.{length, take, drop, replicate, length-take}
use native.Mathlib.Omega.{arith}
use Rattle.intersection.proofs.Held.{sets_graph}
use Rattle.job.specs.declared.Job.{Job}
use Rattle.table.specs.declared.side.Survey.{Survey}
use Rattle.table.specs.Rule.{Beyond}
use Rattle.planner.specs.Call.{runs_of}
use Rattle.planner.specs.Forecast.{words_for}
use Rattle.planner.specs.Stages.{Surveyed}
use Rattle.planner.specs.Held.{runs_in}
use Rattle.planner.proofs.Held.{held_few, length_plane}
use Rattle.planner.proofs.Leased.{found_none, found_stars, found_leased}
use Rattle.planner.proofs.Stages.{words_are, then_cleared}
use Rattle.planner.proofs.Verdicts.{no_star, stars_planned}
use Rattle.planner.proofs.plan_groups.Goals as goal

pub centres_of-requires : goal.centres_of-requires
centres_of-requires c =
    let j = c.args.job.now in
    let few = held_few j c.requires.0 in
    (few, sets_graph (runs_of (runs_in j)) j.count few (length_plane j) _ c.requires.3)

pub returns-in_default : goal.returns-in_default
returns-in_default c =
    let j = c.args.job.now in
    (no_star j.number _ (runs_in j) (found_none j c.requires.0 _ c.requires.3 _ c.centres_of.ensures c.in_default.is), refl)

pub plan_stars-length-requires : goal.plan_stars-length-requires
plan_stars-length-requires c =
    let j = c.args.job.now in (
      record { leased = found_leased j c.requires.0 _ c.requires.3 _ c.centres_of.ensures _ c.in-Some.is; surveyed = c.requires.1 },
      record { words = c.requires.2.words; bytes = c.requires.2.bytes },
    )

-- the words that are to be cleared were lent
enough : (j : Job) (x y : Survey) (S : Surveyed j x y) → {words : ℕ} {work work' : List ℕ} → words ≡ x.axis.count * y.axis.count * 4
    → words_for (runs_of (runs_in j)) ≤ length work → Beyond work work' (words_for (runs_of (runs_in j))) → words ≤ length work'
enough j x y S w h b = omega (arith, words_are j x y S, b.size)

pub slice_bounds-fill-end : goal.slice_bounds-fill-end
slice_bounds-fill-end c = enough _ _ _ c.requires.1 c.words_for-words.ensures c.requires.2.words c.plan_stars-length.ensures.1

pub slice_bounds-fill-end-2 : goal.slice_bounds-fill-end-2
slice_bounds-fill-end-2 c =
    omega (arith, length-take c.words_for-words.result c.plan_stars-length.new.work, enough _ _ _ c.requires.1 c.words_for-words.ensures c.requires.2.words c.plan_stars-length.ensures.1)

pub returns : goal.returns
returns c =
    let j = c.args.job.now in
    let p = c.plan_stars-length.ensures in
    let mid = c.plan_stars-length.new.work in
    let w : c.words_for-words.result ≡ words_for (runs_of (runs_in j)) = c.words_for-words.ensures ∙ words_are _ _ _ c.requires.1 in
    let k : length (take c.words_for-words.result mid) ≡ words_for (runs_of (runs_in j)) = omega (arith, length-take c.words_for-words.result mid, c.requires.2.words, p.1.size) in (
      stars_planned j.number _ (runs_in j) _ _ (found_stars j c.requires.0 _ c.requires.3 _ c.centres_of.ensures _ c.in-Some.is) p.0,
      then_cleared _ mid _ _ p.1 (ap (λ l. l ++ drop c.words_for-words.result mid) (c.fill.ensures.after (λ y e. e)) ∙ ap₂ (λ m n. replicate m 0 ++ drop n mid) k w),
    )

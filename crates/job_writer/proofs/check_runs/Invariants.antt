-- `job_writer::check_runs` meets its contract. The loop's invariant: what is said of all runs is said of those from i on.
use mathlib.Core.Path.{◌≡◌}
use Prim.Native.Nat.{◌-◌}
use Rattle.job_writer.specs.Listed.{runs_answer}
use Rattle.job_writer.proofs.check_runs.Given as goal

abbrev pub invariant-loop-i : goal.invariant-loop-i
invariant-loop-i l = runs_answer l.runs l.count 0 ≡ runs_answer l.runs (l.count - l.i) l.i

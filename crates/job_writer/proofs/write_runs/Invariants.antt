-- `job_writer::write_runs` meets its contract. The loop's invariant is `Writing`.
use Rattle.job_writer.proofs.Writing.{Writing}
use Rattle.job_writer.proofs.write_runs.Given as goal

abbrev pub invariant-loop-i : goal.invariant-loop-i
invariant-loop-i l = Writing l.runs l.count l.initial.out l.out l.at l.i

use Rattle.std.proofs.Common.{◌≤◌, length}
use Rattle.job_advice.proofs.line.line_of.Given as goal

abbrev pub invariant-loop : goal.invariant-loop
invariant-loop l = l.start ≤ length l.fn.job

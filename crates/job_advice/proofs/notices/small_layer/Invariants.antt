use Rattle.std.proofs.Common.{◌≤◌, length}
use Rattle.job_advice.proofs.notices.small_layer.Given as goal

abbrev pub invariant-loop : goal.invariant-loop
invariant-loop l = l.from ≤ length l.fn.text

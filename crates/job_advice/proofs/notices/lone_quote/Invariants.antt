use Rattle.std.proofs.Common.{◌≤◌, length}
use Rattle.job_advice.proofs.notices.lone_quote.Given as goal

abbrev pub invariant-loop : goal.invariant-loop
invariant-loop l = length l.rest ≤ length l.fn.text

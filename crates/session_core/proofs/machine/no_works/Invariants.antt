use Rattle.std.proofs.Common.{◌≡◌, None, replicate}
use Rattle.session_core.proofs.machine.no_works.Given as goal

abbrev pub invariant-loop : goal.invariant-loop
invariant-loop l = l.works.items ≡ replicate l.counter None

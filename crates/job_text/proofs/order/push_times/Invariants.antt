-- The number stands there once for each turn so far.
use Rattle.std.proofs.Common.{◌≡◌, ◌++◌, replicate}
use Rattle.job_text.proofs.order.push_times.Given as goal

abbrev pub invariant-loop : goal.invariant-loop
invariant-loop l = l.order.items ≡ l.initial.order.items ++ replicate l.counter l.session

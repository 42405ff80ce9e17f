use Rattle.std.proofs.Common.{◌≡◌, ◌++◌, length, reverse}
use Rattle.txn_plans.specs.Searching.{called_in}
use Rattle.txn_plans.proofs.calls.push_called.Given as goal

-- those that are left come behind the pending ones, the last first
abbrev pub invariant-loop-target : goal.invariant-loop-target
invariant-loop-target l = l.pending.items ++ reverse l.called.items ≡ l.fn.pending.items ++ reverse (called_in l.layout l.fn.cell)

abbrev pub decreases-loop-target : goal.decreases-loop-target
decreases-loop-target l = length l.called.items

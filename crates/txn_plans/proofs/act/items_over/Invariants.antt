use Rattle.std.proofs.Common.{◌≡◌, [], length}
use Rattle.txn_commands.specs.Writing.{rewritten}
use Rattle.txn_plans.proofs.act.items_over.Given as goal

-- the writes that are left lead to the same layout
abbrev pub invariant-loop-rest : goal.invariant-loop-rest
invariant-loop-rest l = rewritten l.new l.rest [] ≡ rewritten l.layout l.items []

abbrev pub decreases-loop-rest : goal.decreases-loop-rest
decreases-loop-rest l = length l.rest

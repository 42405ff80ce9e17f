use Rattle.std.proofs.Common.{◌≡◌}
use Rattle.std.specs.List.{list_any}
use Rattle.txn_commands.specs.Plans.{is_used}
use Rattle.txn_plans.specs.Using.{is_use}
use Rattle.txn_plans.proofs.cells.is_used.Given as goal

-- the items that are left decide
abbrev pub invariant-loop-id : goal.invariant-loop-id
invariant-loop-id l = list_any (is_use l.number) l.id-iterator ≡ is_used l.layout l.number

use Rattle.std.proofs.Common.{◌≡◌, ◌++◌, take}
use Rattle.std.specs.Prelude.{flat_map}
use Rattle.txn_commands.specs.Acts.{operands}
use Rattle.txn_plans.proofs.booleans.push_operands.Given as goal

-- what is read in the cells so far comes behind
abbrev pub invariant-loop-cell : goal.invariant-loop-cell
invariant-loop-cell l = l.elements.items ≡ l.fn.elements.items ++ flat_map (operands l.a l.b) (take l.cell-index l.cells)

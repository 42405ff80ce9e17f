use Rattle.std.proofs.Common.{◌≡◌, ◌++◌, map, take}
use Rattle.txn_commands.specs.declared.element.Element.TheVariants.{Calls}
use Rattle.txn_plans.proofs.calls.push_calls.Given as goal

-- the calls of the cells so far come behind
abbrev pub invariant-loop-cell : goal.invariant-loop-cell
invariant-loop-cell l = l.elements.items ≡ l.fn.elements.items ++ map Calls (take l.cell-index l.cells)

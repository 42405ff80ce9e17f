use Rattle.std.proofs.Common.{◌≡◌, ◌++◌, take}
use Rattle.txn_commands.specs.Acts.{item_elements}
use Rattle.txn_plans.proofs.booleans.push_items.Given as goal

-- the elements of the writes so far come behind
abbrev pub invariant-loop-id : goal.invariant-loop-id
invariant-loop-id l = l.elements.items ≡ l.fn.elements.items ++ item_elements (take l.id-index l.items)

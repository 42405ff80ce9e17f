use Rattle.std.proofs.Common.{◌≡◌, ◌++◌}
use Rattle.lay_items.proofs.entries.taken.Given as goal

-- those so far, and those that are left, are all
abbrev pub invariant-loop-id : goal.invariant-loop-id
invariant-loop-id l = l.items ++ l.id-iterator ≡ l.fn.entries.items

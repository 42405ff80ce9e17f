use Rattle.std.proofs.Common.{◌≡◌, ◌++◌}
use Rattle.txn_marks.proofs.records.listed_items.Given as goal

-- the changes so far, and those that are left, are all
abbrev pub invariant-loop-id : goal.invariant-loop-id
invariant-loop-id l = l.list.items ++ l.id-iterator ≡ l.items.entries

use Rattle.std.proofs.Common.{◌≡◌, ◌++◌}
use Rattle.txn_marks.proofs.records.listed_symbols.Given as goal

-- the changes so far, and those that are left, are all
abbrev pub invariant-loop-number : goal.invariant-loop-number
invariant-loop-number l = l.list.items ++ l.number-iterator ≡ l.symbols.entries

use Rattle.std.proofs.Common.{◌≡◌, ◌++◌, drop, map}
use Rattle.txn_commands.specs.Records.{reverting, record_of}
use Rattle.txn_marks.proofs.values.item_befores.Given as goal

-- with those of the changes that are left they are the writes of all
abbrev pub invariant-loop-id : goal.invariant-loop-id
invariant-loop-id l = l.writes.items ++ reverting (map record_of (drop l.id-index l.items)) ≡ reverting (map record_of l.items)

use Rattle.std.proofs.Common.{◌≡◌, ◌++◌, drop, map}
use Rattle.txn_commands.specs.Records.{cell_record_of, slot_afters}
use Rattle.txn_marks.proofs.values.symbol_afters.Given as goal

-- with those of the changes that are left they are the writes of all
abbrev pub invariant-loop-number : goal.invariant-loop-number
invariant-loop-number l =
    l.writes.items ++ slot_afters (map cell_record_of (drop l.number-index l.symbols)) ≡ slot_afters (map cell_record_of l.symbols)

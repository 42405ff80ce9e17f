use Rattle.std.proofs.Common.{◌≡◌, drop, map}
use Rattle.std.specs.FinSet.{from_list}
use Rattle.std.specs.List.{flat_map}
use Rattle.txn_commands.specs.Elements.{with_elements}
use Rattle.txn_commands.specs.Records.{cell_record_of}
use Rattle.txn_marks.specs.Homes.{cell_homes}
use Rattle.txn_marks.proofs.elements.add_symbols.Given as goal

-- with those of the changes that are left they are all
abbrev pub invariant-loop-number : goal.invariant-loop-number
invariant-loop-number l = with_elements (from_list l.met.items) (flat_map cell_homes (map cell_record_of (drop l.number-index l.symbols)))
    ≡ with_elements (from_list l.fn.met.items) (flat_map cell_homes (map cell_record_of l.symbols))

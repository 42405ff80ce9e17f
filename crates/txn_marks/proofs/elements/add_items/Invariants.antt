use Rattle.std.proofs.Common.{◌≡◌, drop, map}
use Rattle.std.specs.FinSet.{from_list}
use Rattle.std.specs.List.{flat_map}
use Rattle.txn_commands.specs.Elements.{with_elements}
use Rattle.txn_commands.specs.Records.{record_of}
use Rattle.txn_marks.specs.Homes.{record_homes}
use Rattle.txn_marks.proofs.elements.add_items.Given as goal

-- with those of the changes that are left they are all
abbrev pub invariant-loop-id : goal.invariant-loop-id
invariant-loop-id l = with_elements (from_list l.met.items) (flat_map record_homes (map record_of (drop l.id-index l.items)))
    ≡ with_elements (from_list l.fn.met.items) (flat_map record_homes (map record_of l.items))

-- What one more write makes of the changes between two layouts.
use Rattle.std.proofs.Common.{refl}
use Rattle.std.specs.Cmp.{nat_cmp_total}
use Rattle.std.specs.FinMap.{nat_cmp-IsAntisymmetric}
use Rattle.lay_layouts.specs.IdOrder.{ids_exact, ids_total}
use Rattle.lay_layouts.specs.Same.{option_item_eq}
use Rattle.txn_commands.specs.Laws.{ChangesMerge, SlotChangesMerge}
use Rattle.txn_commands.specs.Records.{option_slot_eq}
use Rattle.txn_commands.proofs.Maps.{change_map-put}

pub changes_merge : ChangesMerge
changes_merge l m id item = change_map-put ids_total ids_exact option_item_eq refl l.items m.items id item

pub slot_changes_merge : SlotChangesMerge
slot_changes_merge l m number slot = change_map-put nat_cmp_total nat_cmp-IsAntisymmetric option_slot_eq refl l.symbols m.symbols number
    slot

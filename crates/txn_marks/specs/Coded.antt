-- How changes and records are stored: as their parts.
use Rattle.std.specs.Prelude.{List, Option, refl}
use Rattle.std.specs.Coded.{Coded, code_by, coded×, coded_list, coded_option}
use Rattle.lay_layouts.specs.declared.item.Item.{Item}
use Rattle.lay_layouts.specs.declared.slot.CellSlot.{CellSlot}
use Rattle.lay_layouts.specs.contracts.item.Item as item
use Rattle.lay_layouts.specs.contracts.slot.CellSlot as slot
use Rattle.txn_commands.specs.Changes.{Change}
use Rattle.txn_commands.specs.Records.{Records}
use Rattle.txn_commands.specs.declared.record.CellRecord.{CellRecord}
use Rattle.txn_commands.specs.declared.record.Record.{Record}
use Rattle.txn_commands.specs.contracts.record.CellRecord as cell_record
use Rattle.txn_commands.specs.contracts.record.Record as record_row

-- a change is its two values
abbrev pub coded_change : {V : Type 0} → Coded V → Coded (Change V)
coded_change {V = V} code =
    code_by (Option V × Option V) (coded× (coded_option code) (coded_option code)) (λ c. (c.before, c.after))
    (λ p. record { before = p.0; after = p.1 }) (λ _. refl)

abbrev pub coded_item_change : Coded (Change Item)
coded_item_change = coded_change item.the_row.coded

abbrev pub coded_cell_change : Coded (Change CellSlot)
coded_cell_change = coded_change slot.the_row.coded

-- records are their two lists
abbrev pub coded_records : Coded Records
coded_records =
    code_by (List Record × List CellRecord) (coded× (coded_list record_row.the_row.coded) (coded_list cell_record.the_row.coded))
    (λ r. (r.items, r.symbols)) (λ p. record { items = p.0; symbols = p.1 }) (λ _. refl)

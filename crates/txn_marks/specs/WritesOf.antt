-- What contracts see of writes and of records, and how writes merge.
use Rattle.std.specs.Prelude.{◌≡◌, ℕ, [], ◌∷◌, map, Option}
use Rattle.std.specs.FinMap as finite
use Rattle.lay_layouts.specs.declared.id.ItemId.{ItemId}
use Rattle.lay_layouts.specs.declared.item.Item.{Item}
use Rattle.lay_layouts.specs.declared.slot.CellSlot.{CellSlot}
use Rattle.lay_layouts.specs.Layout.{Layout, item_at}
use Rattle.txn_commands.specs.Records.{Records, cell_record_of, record_of, records_between}
use Rattle.txn_commands.specs.Writing.{rewritten}
use Rattle.txn_marks.specs.declared.records.Records.TheInside as records
use Rattle.txn_marks.specs.declared.writes.Writes.TheInside.{Inside}

-- the records of the two trees, in order
abbrev pub records_in : Inside → Records
records_in w = record { items = map record_of w.items.entries; symbols = map cell_record_of w.symbols.entries }

-- those of the two lists
abbrev pub records_listed : records.Inside → Records
records_listed r = record { items = map record_of r.items; symbols = map cell_record_of r.symbols.items }

-- where the old records are those between two layouts, and the item had this value in the first, the new ones are those
-- between the first and the second with the item written
abbrev pub Merges : Records → ItemId → Option Item → Option Item → Records → Type 0
Merges old id before after new = (l m : Layout) → old ≡ records_between l m → item_at l id ≡ before
    → new ≡ records_between l (rewritten m ((id, after) ∷ []) [])

-- the same of a symbol
abbrev pub MergesSymbol : Records → ℕ → Option CellSlot → Option CellSlot → Records → Type 0
MergesSymbol old number before after new = (l m : Layout) → old ≡ records_between l m → finite.get l.symbols number ≡ before
    → new ≡ records_between l (rewritten m [] ((number, after) ∷ []))

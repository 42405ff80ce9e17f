-- Records: what is written between two layouts.
-- Source: this project's own.
-- Checked on: the first run's first box (examples/first-run.job) has the one record 1.1.1, none
-- before, the shape after; a box over an equal item of the base has no record. The box moved from
-- layer M to N meets Layer(top, M) and Layer(top, N).
use Rattle.std.specs.Prelude.{◌≢◌, ℕ, ◌==◌, List, [], ◌∷◌, map, Bool, true, false, Option, None, Some, if◌then◌else◌}
use Rattle.std.specs.FinMap as finite
use Rattle.std.specs.List.{AllByRecursion}
use Rattle.std.specs.Ordering.{nat_cmp}
use Rattle.lay_layouts.specs.declared.id.ItemId.{ItemId}
use Rattle.lay_layouts.specs.declared.item.Item as items
use Rattle.lay_layouts.specs.declared.slot.CellSlot.{CellSlot}
use Rattle.lay_layouts.specs.Ids.{id_cmp}
use Rattle.lay_layouts.specs.Layout.{Layout, Write, item_at}
use Rattle.lay_layouts.specs.Same.{option_item_eq, slot_eq}
use Rattle.lay_layouts.specs.SameLayout.{id_eq}
use Rattle.txn_commands.specs.declared.record.CellRecord.{CellRecord}
use Rattle.txn_commands.specs.declared.record.Record.{Record}
use Rattle.txn_commands.specs.Changes.{Change, IsStep, change_map}
use Rattle.lay_layouts.specs.Layout.{AreRising, SymbolWrite}
use Rattle.txn_commands.specs.Writing.{rewritten}

-- the same slot, or none in both
abbrev pub option_slot_eq : Option CellSlot → Option CellSlot → Bool
option_slot_eq None None = true
option_slot_eq None (Some b) = false
option_slot_eq (Some a) None = false
option_slot_eq (Some a) (Some b) = slot_eq a b

-- the records of items, and those of symbols
pub record Records : Type 0 where
  pub items : List Record
  pub symbols : List CellRecord

abbrev pub record_of : ItemId × Change items.Item → Record
record_of entry = record { id = entry.0; before = entry.1.before; after = entry.1.after }

abbrev pub cell_record_of : ℕ × Change CellSlot → CellRecord
cell_record_of entry = record { number = entry.0; before = entry.1.before; after = entry.1.after }

-- a record of each item and of each symbol in which two layouts differ, in order, with both values
unfoldable pub records_between : Layout → Layout → Records
records_between old new = record {
  items = map record_of (finite.entries (change_map option_item_eq old.items new.items));
  symbols = map cell_record_of (finite.entries (change_map option_slot_eq old.symbols new.symbols));
}

-- what the records change under this id
abbrev pub recorded_change : List Record → ItemId → Option (Change items.Item)
recorded_change [] id = None
recorded_change (w ∷ ws) id = if id_eq w.id id then Some (record { before = w.before; after = w.after }) else recorded_change ws id

-- what they change of this symbol
abbrev pub slot_change_at : List CellRecord → ℕ → Option (Change CellSlot)
slot_change_at [] number = None
slot_change_at (w ∷ ws) number =
    if w.number == number then Some (record { before = w.before; after = w.after }) else slot_change_at ws number

-- the writes that apply the records
abbrev pub applying : List Record → List Write
applying records = map (λ w. (w.id, w.after)) records

-- those that revert them
abbrev pub reverting : List Record → List Write
reverting records = map (λ w. (w.id, w.before)) records

abbrev pub slot_afters : List CellRecord → List SymbolWrite
slot_afters records = map (λ w. (w.number, w.after)) records

abbrev pub slot_befores : List CellRecord → List SymbolWrite
slot_befores records = map (λ w. (w.number, w.before)) records

-- records in order, each of two different values
pub record AreProper (records : Records) : Type 0 where
  pub items : AreRising id_cmp (applying records.items)
  pub symbols : AreRising nat_cmp (slot_afters records.symbols)
  pub items_differ : AllByRecursion (λ w. w.before ≢ w.after) records.items
  pub symbols_differ : AllByRecursion (λ w. w.before ≢ w.after) records.symbols

-- the records lead from one layout to the other: each tells the value in both, and what has none is the same
pub record Lead (records : Records) (old new : Layout) : Type 0 where
  pub items : (id : ItemId) → IsStep (recorded_change records.items id) (item_at old id) (item_at new id)
  pub symbols : (number : ℕ)
      → IsStep (slot_change_at records.symbols number) (finite.get old.symbols number) (finite.get new.symbols number)

-- the layout with the values after
abbrev pub applied : Layout → Records → Layout
applied layout records = rewritten layout (applying records.items) (slot_afters records.symbols)

-- the layout with the values before
abbrev pub reverted : Layout → Records → Layout
reverted layout records = rewritten layout (reverting records.items) (slot_befores records.symbols)

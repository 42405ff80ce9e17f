-- Records that meet elements: a value lies in the element, before or after.
use Rattle.std.specs.Prelude.{◌≡◌, Bool, ◌||◌, false}
use Rattle.std.specs.FinSet as set
use Rattle.std.specs.Prelude.{true}
use Rattle.std.specs.List.{list_any}
use Rattle.txn_commands.specs.declared.element.Element.{Element}
use Rattle.txn_commands.specs.declared.record.CellRecord.{CellRecord}
use Rattle.txn_commands.specs.declared.record.Record.{Record}
use Rattle.txn_commands.specs.Elements.{Touched}
use Rattle.txn_commands.specs.Lies.{lies, lies_slot, passes}
use Rattle.txn_commands.specs.Records.{Records}

-- the record of an item meets the element
abbrev pub meets : Element → Record → Bool
meets e w = passes (lies e w.id) w.before || passes (lies e w.id) w.after

-- the record of a symbol does
abbrev pub meets_cell : Element → CellRecord → Bool
meets_cell e w = passes (lies_slot e w.number) w.before || passes (lies_slot e w.number) w.after

-- some record does
abbrev pub some_meets : Records → Element → Bool
some_meets records e = list_any (meets e) records.items || list_any (meets_cell e) records.symbols

-- no record meets an element of the set
abbrev pub AreApart : Records → Touched → Type 0
AreApart records touched = (e : Element) → set.contains touched e ≡ true → some_meets records e ≡ false

-- some of the records meets an element of the set
abbrev pub meets_touched : Records → Touched → Bool
meets_touched writes touched = list_any (some_meets writes) (set.items touched)

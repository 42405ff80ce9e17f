-- Which values of a layout a footprint meets: those that lie in one of its elements.
use Rattle.std.specs.Prelude.{ℕ, List, Bool, false, ◌&&◌, ◌||◌, Option, None, Some, is_some}
use Rattle.std.specs.FinSet as set
use Rattle.std.specs.List.{list_any}
use Rattle.lay_cells.specs.declared.cell_id.CellId.{CellId}
use Rattle.lay_layouts.specs.declared.id.ItemId.{ItemId}
use Rattle.lay_layouts.specs.declared.item.Item as items
use Rattle.lay_layouts.specs.declared.slot.CellSlot.{CellSlot}
use Rattle.txn_commands.specs.declared.element.Element.TheVariants.{Cell}
use Rattle.txn_commands.specs.Changes.{Change}
use Rattle.txn_commands.specs.Elements.{Touched}
use Rattle.txn_marks.specs.Homes.{content_elements, homes}

-- the content of the cell is an element of the footprint
abbrev pub has_content : Touched → CellId → Bool
has_content touched cell = list_any (set.contains touched) (content_elements cell)

-- there is an item, and it lies in an element of the footprint
abbrev pub is_item_met : Touched → ItemId → Option items.Item → Bool
is_item_met touched id None = false
is_item_met touched id (Some item) = list_any (set.contains touched) (homes id item)

-- a value of one of these changes does, before or after
abbrev pub are_met : Touched → List (ItemId × Change items.Item) → Bool
are_met touched changes =
    list_any (λ c. is_item_met touched c.0 c.1.before || is_item_met touched c.0 c.1.after) changes

-- the symbol is there before or after, and is an element of the footprint
abbrev pub is_symbol_met : Touched → ℕ → Change CellSlot → Bool
is_symbol_met touched number change = (is_some change.before || is_some change.after) && set.contains touched (Cell number)

-- one of these symbols is
abbrev pub symbols_are_met : Touched → List (ℕ × Change CellSlot) → Bool
symbols_are_met touched changes = list_any (λ c. is_symbol_met touched c.0 c.1) changes

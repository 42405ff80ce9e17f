-- Which values of a layout lie in an element: what is read where the element is read.
use Rattle.std.specs.Prelude.{ℕ, ◌==◌, Bool, false, ◌&&◌, Option, None, Some}
use Rattle.lay_cells.specs.declared.cell_id.CellId.TheVariants.{Symbol}
use Rattle.lay_cells.specs.SameCell.{cell_eq}
use Rattle.lay_point.specs.Same.{names_eq}
use Rattle.lay_layouts.specs.declared.id.ItemId.{ItemId}
use Rattle.lay_layouts.specs.declared.item.Item as items
use Rattle.lay_layouts.specs.declared.item.Item.TheVariants.{Placed, Shape}
use Rattle.lay_layouts.specs.declared.slot.CellSlot.{CellSlot}
use Rattle.lay_layouts.specs.Items.{cell_of}
use Rattle.lay_layouts.specs.SameLayout.{id_eq}
use Rattle.txn_commands.specs.declared.element.Element.{Element}
use Rattle.txn_commands.specs.declared.element.Element.TheVariants.{Calls, Cell, Content, Item, Layer, Uses}

-- the item of this id, whatever it is; a shape of the cell on the layer; a call in the cell; an item in the symbol;
-- a call of the symbol
abbrev pub lies : Element → ItemId → items.Item → Bool
lies (Item a) id item = id_eq a id
lies (Layer c l) id (Shape cell layer rings) = cell_eq c cell && names_eq l layer
lies (Layer c l) id (Placed cell target turn) = false
lies (Calls c) id (Shape cell layer rings) = false
lies (Calls c) id (Placed cell target turn) = cell_eq c cell
lies (Cell n) id item = false
lies (Content n) id item = cell_eq (Symbol n) (cell_of item)
lies (Uses n) id (Shape cell layer rings) = false
lies (Uses n) id (Placed cell target turn) = n == target

-- the slot of the symbol of this number
abbrev pub lies_slot : Element → ℕ → CellSlot → Bool
lies_slot (Item a) number slot = false
lies_slot (Layer c l) number slot = false
lies_slot (Calls c) number slot = false
lies_slot (Cell n) number slot = n == number
lies_slot (Content n) number slot = false
lies_slot (Uses n) number slot = false

-- there is a value, and it passes the test
abbrev pub passes : {V : Type 0} → (V → Bool) → Option V → Bool
passes test None = false
passes test (Some v) = test v

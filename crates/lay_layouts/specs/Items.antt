-- Items, and the items of a cell.
-- Source: this project's own.
-- Checked on: a layout with 0.0.1 and 1.1.1 in Top has both in this order; symbol 1 has none.
use Rattle.std.specs.Prelude.{List, filter}
use Rattle.std.specs.FinMap as map
use Rattle.lay_cells.specs.declared.cell_id.CellId.{CellId}
use Rattle.lay_cells.specs.SameCell.{cell_eq}
use Rattle.lay_layouts.specs.declared.id.ItemId.{ItemId}
use Rattle.lay_layouts.specs.declared.item.Item.{Item}
use Rattle.lay_layouts.specs.declared.item.Item.TheVariants.{Placed, Shape}
use Rattle.lay_layouts.specs.Layout.{Layout}

-- the cell in which an item stands
abbrev pub cell_of : Item → CellId
cell_of (Shape cell layer rings) = cell
cell_of (Placed cell target turn) = cell

-- those that stand in the cell
abbrev pub standing_in : CellId → List (ItemId × Item) → List (ItemId × Item)
standing_in cell entries = filter (λ entry. cell_eq (cell_of entry.1) cell) entries

-- the items of a cell, in order of their ids
unfoldable pub items_in : Layout → CellId → List (ItemId × Item)
items_in layout cell = standing_in cell (map.entries layout.items)

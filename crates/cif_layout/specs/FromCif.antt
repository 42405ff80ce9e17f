-- The layout of a text's meaning: its symbols in their order, and element q as item 0.0.q.
-- Source: this project's own.
-- Checked on: `L NM; B 40 20 0 0; E` has the one item 0.0.1 on `NM`.
use Rattle.std.specs.Prelude.{List, [], ◌∷◌, map}
use Rattle.cif_read.specs.declared.element.Element.{Element}
use Rattle.cif_read.specs.declared.element.Figure.{Figure}
use Rattle.cif_read.specs.declared.element.Figure.TheVariants.{Call, Polygon}
use Rattle.cif_read.specs.Contents.{Contents}
use Rattle.lay_cells.specs.declared.cell_id.CellId.{CellId}
use Rattle.lay_layouts.specs.declared.item.Item.{Item}
use Rattle.lay_layouts.specs.declared.item.Item.TheVariants.{Placed, Shape}
use Rattle.lay_layouts.specs.Layout.{Layout}
use Rattle.lay_layouts.specs.LayoutWith.{layout_with}

-- what a figure in a cell is as an item
abbrev pub item_in : CellId → Figure → Item
item_in cell (Polygon layer ring) = Shape cell layer (ring ∷ [])
item_in cell (Call target turn) = Placed cell target turn

abbrev pub item_of : Element → Item
item_of element = item_in element.cell element.figure

-- the elements as items
abbrev pub items_of_elements : List Element → List Item
items_of_elements elements = map item_of elements

abbrev pub layout_of : Contents → Layout
layout_of file = layout_with file.symbols (items_of_elements file.elements)

-- The calls of a layout.
-- Source: this project's own.
-- Checked on: a layout with a shape 0.0.1 and a call 0.0.2 of symbol 9 in symbol 2 has the one call
-- (symbol 2, 9).
use Rattle.std.specs.Prelude.{ℕ, List, Option, None, Some}
use Rattle.std.specs.List.{filter_map}
use Rattle.std.specs.FinMap as map
use Rattle.lay_cells.specs.declared.cell_id.CellId.{CellId}
use Rattle.lay_layouts.specs.declared.id.ItemId.{ItemId}
use Rattle.lay_layouts.specs.declared.item.Item.{Item}
use Rattle.lay_layouts.specs.declared.item.Item.TheVariants.{Placed, Shape}
use Rattle.lay_layouts.specs.Layout.{Layout}

-- a call by the cell in which it stands and the number of the symbol that it calls
abbrev pub Call : Type 0
Call = CellId × ℕ

-- the call that an item is, if it is one
abbrev pub as_call : Item → Option Call
as_call (Shape cell layer rings) = None
as_call (Placed cell target turn) = Some (cell, target)

-- those among these items, in order
abbrev pub calls_among : List (ItemId × Item) → List Call
calls_among entries = filter_map (λ entry. as_call entry.1) entries

-- those of a layout, in order of their ids
unfoldable pub calls_of : Layout → List Call
calls_of layout = calls_among (map.entries layout.items)

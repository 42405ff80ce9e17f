-- What is lent of an item and of a cell.
-- Source: this project's own.
-- Checked on: of the box `B 5 3 0 0` ring 0 of item 0.0.1 has four points; there is no ring 1, and
-- none of item 0.0.9.
use Rattle.std.specs.Prelude.{ℕ, List, Option, None, Some, if◌then◌else◌, option_and_then, slice_get}
use Rattle.std.specs.List.{filter_map}
use Rattle.lay_point.specs.declared.point.Point.{Point}
use Rattle.lay_point.specs.declared.turn.Turn.{Turn}
use Rattle.lay_point.specs.Same.{names_eq}
use Rattle.lay_cells.specs.declared.cell_id.CellId.{CellId}
use Rattle.lay_layouts.specs.declared.id.ItemId.{ItemId}
use Rattle.lay_layouts.specs.declared.item.Item.{Item}
use Rattle.lay_layouts.specs.declared.item.Item.TheVariants.{Placed, Shape}
use Rattle.lay_layouts.specs.Items.{items_in}
use Rattle.lay_layouts.specs.Layout.{Layout, item_at}

-- the points of an item's ring, where it is a shape and has one of this index
abbrev pub ring_at : ℕ → Item → Option (List Point)
ring_at index (Shape cell layer rings) = slice_get rings index
ring_at index (Placed cell target turn) = None

abbrev pub points_at : Layout → ItemId → ℕ → Option (List Point)
points_at layout id index = option_and_then (ring_at index) (item_at layout id)

-- a shape on a layer: its id and its rings
abbrev pub LentShape : Type 0
LentShape = ItemId × List (List Point)

abbrev pub shape_on : List ℕ → ItemId → Item → Option LentShape
shape_on layer id (Shape cell name rings) = if names_eq name layer then Some (id, rings) else None
shape_on layer id (Placed cell target turn) = None

abbrev pub shapes_among : List ℕ → List (ItemId × Item) → List LentShape
shapes_among layer entries = filter_map (λ entry. shape_on layer entry.0 entry.1) entries

-- a cell's shapes on a layer, in order of their ids
unfoldable pub shapes_in : Layout → CellId → List ℕ → List LentShape
shapes_in layout cell layer = shapes_among layer (items_in layout cell)

-- a call: its id, the number of the symbol that it calls, and what is done to that
abbrev pub LentCall : Type 0
LentCall = ItemId × ℕ × Turn

abbrev pub call_lent : ItemId → Item → Option LentCall
call_lent id (Shape cell layer rings) = None
call_lent id (Placed cell target turn) = Some (id, target, turn)

abbrev pub calls_lent : List (ItemId × Item) → List LentCall
calls_lent entries = filter_map (λ entry. call_lent entry.0 entry.1) entries

-- the calls that stand in a cell, in order of their ids
unfoldable pub calls_in : Layout → CellId → List LentCall
calls_in layout cell = calls_lent (items_in layout cell)

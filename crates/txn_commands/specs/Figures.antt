-- The figures that commands draw and move.
-- Source: Caltech Intermediate Form 2.0, boxes and polygons; that a box is drawn by its corners is this project's own.
use Rattle.std.specs.Prelude.{ℕ, List, [], ◌∷◌, map, Bool}
use Rattle.std.specs.Int.{int_max, int_min}
use Rattle.std.specs.List.{list_all}
use Rattle.lay_cells.specs.declared.cell_id.CellId.{CellId}
use Rattle.lay_point.specs.declared.point.Point.{Point}
use Rattle.lay_point.specs.Points.{is_in_range}
use Rattle.lay_point.specs.Rings.{rectangle}
use Rattle.lay_point.specs.Turns.{shifted}
use Rattle.lay_layouts.specs.declared.item.Item as items
use Rattle.lay_layouts.specs.declared.item.Item.TheVariants.{Placed, Shape}

-- the lower left corner of a box with these opposite corners
abbrev pub lower_left : Point → Point → Point
lower_left a b = record { x = int_min a.x b.x; y = int_min a.y b.y }

-- and the upper right one
abbrev pub upper_right : Point → Point → Point
upper_right a b = record { x = int_max a.x b.x; y = int_max a.y b.y }

-- the ring of a box with these opposite corners
abbrev pub box_ring : Point → Point → List Point
box_ring a b = rectangle (lower_left a b) (upper_right a b)

-- the shape of one ring
abbrev pub shape_of : CellId → List ℕ → List Point → items.Item
shape_of cell layer ring = Shape cell layer (ring ∷ [])

-- rings, each point shifted
abbrev pub shifted_rings : Point → List (List Point) → List (List Point)
shifted_rings shift rings = map (map (shifted shift)) rings

-- an item, its points shifted; of a call the shift of its turn
abbrev pub moved : Point → items.Item → items.Item
moved shift (Shape cell layer rings) = Shape cell layer (shifted_rings shift rings)
moved shift (Placed cell target turn) = Placed cell target (record turn { shift = shifted shift turn.shift })

-- all points of the rings are in range
abbrev pub are_in_range : List (List Point) → Bool
are_in_range rings = list_all (list_all is_in_range) rings

-- the points of an item are, or the shift of a call
abbrev pub is_item_in_range : items.Item → Bool
is_item_in_range (Shape cell layer rings) = are_in_range rings
is_item_in_range (Placed cell target turn) = is_in_range turn.shift

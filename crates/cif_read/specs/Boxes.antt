-- What a box draws.
-- Source: Caltech Intermediate Form 2.0, boxes: a length along the direction, a width across it, and a centre. That a direction
-- is along an axis, and that a box with a zero side is dropped, is this project's own.
use Rattle.std.specs.Prelude.{ℕ, ℤ, pos, ◌+ℤ◌, ◌-ℤ◌, ◌==◌, Bool, false, not, ◌&&◌, ◌||◌, List, Option, Some, None, Result, Ok, Err}
use Rattle.std.specs.Prelude.{if◌then◌else◌}
use Rattle.lay_point.specs.declared.point.Point.{Point}
use Rattle.lay_point.specs.Points.{is_in_range}
use Rattle.lay_point.specs.Rings.{rectangle}
use Rattle.cif_grammar.specs.declared.number.Number.{Number}
use Rattle.cif_grammar.specs.declared.boxes.BoxNumbers.{BoxNumbers}
use Rattle.cif_grammar.specs.declared.definitions.Scale.{Scale}
use Rattle.cif_grammar.specs.declared.paths.Vertex.{Vertex}
use Rattle.cif_read.specs.declared.fault.FaultKind.{FaultKind}
use Rattle.cif_read.specs.declared.fault.FaultKind.TheVariants.{OffGrid, TooBig}
use Rattle.cif_read.specs.Polygons.{is_above_written, is_too_big}
use Rattle.cif_read.specs.Scales.{doubled, is_whole, scaled}

abbrev pub is_zero : Number → Bool
is_zero n = n.magnitude == 0

-- exactly one of the two numbers is zero
abbrev pub is_on_axis : Vertex → Bool
is_on_axis v = if is_zero v.x then not (is_zero v.y) else is_zero v.y

abbrev pub some_vertex : (Vertex → Bool) → Option Vertex → Bool
some_vertex test None = false
some_vertex test (Some v) = test v

-- some number is above all that a text may write
unfoldable pub is_big_box : BoxNumbers → Bool
is_big_box b = is_above_written b.length || is_above_written b.width || is_too_big b.centre || some_vertex is_too_big b.direction

-- the direction isn't along an axis
abbrev pub is_askew : BoxNumbers → Bool
is_askew b = some_vertex (λ v. not (is_on_axis v)) b.direction

-- the length runs along the y axis
abbrev pub is_upright : BoxNumbers → Bool
is_upright b = some_vertex (λ v. is_zero v.x) b.direction

abbrev pub side_x : BoxNumbers → ℕ
side_x b = if is_upright b then b.width else b.length

abbrev pub side_y : BoxNumbers → ℕ
side_y b = if is_upright b then b.length else b.width

-- the lesser and the greater place of a side round its centre
abbrev pub low_coordinate : Number → ℕ → ℤ
low_coordinate centre side = doubled centre -ℤ pos side

abbrev pub high_coordinate : Number → ℕ → ℤ
high_coordinate centre side = doubled centre +ℤ pos side

-- both ends of a side are whole
abbrev pub is_whole_side : Scale → Number → ℕ → Bool
is_whole_side scale centre side = is_whole scale (low_coordinate centre side) && is_whole scale (high_coordinate centre side)

-- the corners
abbrev pub low_corner : Scale → BoxNumbers → Point
low_corner scale b = record {
  x = scaled scale (low_coordinate b.centre.x (side_x b));
  y = scaled scale (low_coordinate b.centre.y (side_y b));
}

abbrev pub high_corner : Scale → BoxNumbers → Point
high_corner scale b = record {
  x = scaled scale (high_coordinate b.centre.x (side_x b));
  y = scaled scale (high_coordinate b.centre.y (side_y b));
}

abbrev pub is_whole_box : Scale → BoxNumbers → Bool
is_whole_box scale b = is_whole_side scale b.centre.x (side_x b) && is_whole_side scale b.centre.y (side_y b)

-- a side is zero
abbrev pub is_flat : BoxNumbers → Bool
is_flat b = b.length == 0 || b.width == 0

-- the ring between two corners, or none
abbrev pub ring_between : Bool → Point → Point → Option (List Point)
ring_between flat low high = if flat then None else Some (rectangle low high)

abbrev pub box_between : Bool → Point → Point → Result (Option (List Point)) FaultKind
box_between flat low high = if is_in_range low && is_in_range high then Ok (ring_between flat low high) else Err TooBig

-- what a box draws at this scale, or none where it is dropped
unfoldable pub box_at : Scale → BoxNumbers → Result (Option (List Point)) FaultKind
box_at scale b = if not (is_whole_box scale b) then Err OffGrid else box_between (is_flat b) (low_corner scale b) (high_corner scale b)

-- The bridged path of a shape's rings: one path round all of them, so that one polygon can draw the shape.
-- It goes round the first ring, and from that ring's first point out to each further one and back; so each of the ways
-- between rings is gone along twice, and doesn't count by parity. That further ways start at the first ring's first point
-- is this project's own.
-- Source: this project's own, for formats in which one polygon draws a shape by parity.
-- Checked on: the square 0 0, 0 40, 40 40, 40 0 with the hole 10 10, 10 30, 30 30, 30 10 gives 0 0,
-- 0 40, 40 40, 40 0, 0 0, 10 10, 10 30, 30 30, 30 10, 10 10; with a second ring that starts at 0 0
-- too, 0 0, 10 20, 20 10, it gives 0 0, 0 40, 40 40, 40 0, 0 0, 10 20, 20 10.
use Rattle.std.specs.Prelude.{List, [], ◌∷◌, ◌++◌}
use Rattle.lay_point.specs.declared.point.Point.{Point}
use Rattle.lay_point.specs.Rings.{closed, without_repeats}

-- round each of these rings, and back to the start between them
abbrev pub further : Point → List (List Point) → List Point
further start [] = []
further start (ring ∷ []) = closed ring
further start (ring ∷ next ∷ rings) = closed ring ++ start ∷ further start (next ∷ rings)

-- round the ring that begins with this point, then round the others
abbrev pub joined_behind : Point → List Point → List (List Point) → List Point
joined_behind start points [] = start ∷ points
joined_behind start points (ring ∷ rings) = closed (start ∷ points) ++ further start (ring ∷ rings)

-- round all rings; a ring has points
abbrev pub round_all : List (List Point) → List Point
round_all [] = []
round_all ([] ∷ rings) = []
round_all ((start ∷ points) ∷ rings) = joined_behind start points rings

-- the path, without points that equal the one before
unfoldable pub bridged : List (List Point) → List Point
bridged rings = without_repeats (round_all rings)

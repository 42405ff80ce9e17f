-- Turns: maps of points by a mirror, quarter turns and a shift.
-- Source: Caltech Intermediate Form 2.0, the transformations of a call: `M X`, `R` and `T`, in this order.
-- Checked on: a mirror and a shift by (20, 0), then one quarter turn, take (0, 0) to (0, 20),
-- (4, 0) to (0, 16) and (0, 2) to (-2, 20); composed they mirror, turn once and shift by (0, 20).
use Rattle.std.specs.Prelude.{ℤ, neg_ℤ, pos, ◌+ℤ◌, Bool, false, not, Option, None, Some, if◌then◌else◌}
use Rattle.lay_point.specs.declared.point.Point.{Point}
use Rattle.lay_point.specs.declared.turn.Quarter.{Quarter}
use Rattle.lay_point.specs.declared.turn.Quarter.TheVariants.{R0, R90, R180, R270}
use Rattle.lay_point.specs.declared.turn.Turn.{Turn}
use Rattle.lay_point.specs.Points.{is_in_range}

-- x, times -1 where there is a mirror
abbrev pub mirrored_x : Bool → ℤ → ℤ
mirrored_x mirror x = if mirror then neg_ℤ x else x

abbrev pub mirrored : Bool → Point → Point
mirrored mirror p = record { x = mirrored_x mirror p.x; y = p.y }

-- quarter turns anticlockwise round the origin
abbrev pub turned_by : Quarter → Point → Point
turned_by R0 p = p
turned_by R90 p = record { x = neg_ℤ p.y; y = p.x }
turned_by R180 p = record { x = neg_ℤ p.x; y = neg_ℤ p.y }
turned_by R270 p = record { x = p.y; y = neg_ℤ p.x }

abbrev pub shifted : Point → Point → Point
shifted shift p = record { x = p.x +ℤ shift.x; y = p.y +ℤ shift.y }

-- where a turn takes a point: x times -1 first where it mirrors, then the quarter turns, then the shift
unfoldable pub turned : Turn → Point → Point
turned turn p = shifted turn.shift (turned_by turn.quarter (mirrored turn.mirror p))

-- the turn that changes nothing
abbrev pub unturned : Turn
unturned = record { mirror = false; quarter = R0; shift = record { x = pos 0; y = pos 0 } }

-- one quarter turn more
abbrev pub next_quarter : Quarter → Quarter
next_quarter R0 = R90
next_quarter R90 = R180
next_quarter R180 = R270
next_quarter R270 = R0

-- quarter turns, and more behind them
abbrev pub quarters : Quarter → Quarter → Quarter
quarters first R0 = first
quarters first R90 = next_quarter first
quarters first R180 = next_quarter (next_quarter first)
quarters first R270 = next_quarter (next_quarter (next_quarter first))

-- as many quarter turns clockwise
abbrev pub opposite : Quarter → Quarter
opposite R0 = R0
opposite R90 = R270
opposite R180 = R180
opposite R270 = R90

-- the quarter turns of two turns: behind a mirror the first go the other way round
abbrev pub composed_quarter : Quarter → Turn → Quarter
composed_quarter first next = if next.mirror then quarters (opposite first) next.quarter else quarters first next.quarter

-- the first turn, then the next
unfoldable pub composed : Turn → Turn → Turn
composed first next = record {
  mirror = if next.mirror then not first.mirror else first.mirror;
  quarter = composed_quarter first.quarter next;
  shift = turned next first.shift;
}

-- the point, where it is in range
abbrev pub within_range : Point → Option Point
within_range p = if is_in_range p then Some p else None

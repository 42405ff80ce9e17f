-- How a call turns what it calls.
-- Source: Caltech Intermediate Form 2.0, transformations: made one after the other, from left to right. That directions are along
-- the axes, and that the turn stays in range, is this project's own.
use Rattle.std.specs.Prelude.{pos, Bool, true, false, not, List, [], ◌∷◌, Option, Some, None, Result, Ok, Err, if◌then◌else◌}
use Rattle.std.specs.List.{list_all, list_any}
use Rattle.lay_point.specs.declared.point.Point.{Point}
use Rattle.lay_point.specs.declared.turn.Quarter.{Quarter}
use Rattle.lay_point.specs.declared.turn.Quarter.TheVariants.{R0, R180, R270, R90}
use Rattle.lay_point.specs.declared.turn.Turn.{Turn}
use Rattle.lay_point.specs.Points.{is_in_range}
use Rattle.lay_point.specs.Turns.{composed, unturned}
use Rattle.byte_io.specs.Steps.{◌>>=◌}
use Rattle.cif_grammar.specs.declared.calls.Change.{Change}
use Rattle.cif_grammar.specs.declared.calls.Change.TheVariants.{Direction, MirrorX, MirrorY, Shift}
use Rattle.cif_grammar.specs.declared.definitions.Scale.{Scale}
use Rattle.cif_grammar.specs.declared.paths.Vertex.{Vertex}
use Rattle.cif_read.specs.declared.fault.FaultKind.{FaultKind}
use Rattle.cif_read.specs.declared.fault.FaultKind.TheVariants.{OffAxis, OffGrid, TooBig}
use Rattle.cif_read.specs.Boxes.{is_on_axis, is_zero}
use Rattle.cif_read.specs.Polygons.{is_too_big}
use Rattle.cif_read.specs.Scales.{is_whole_vertex, scaled_vertex}

-- the origin
abbrev pub origin : Point
origin = record { x = pos 0; y = pos 0 }

-- the quarter turns that take the x axis to a direction
abbrev pub quarter_to : Vertex → Quarter
quarter_to v = if is_zero v.y then (if v.x.negative then R180 else R0) else (if v.y.negative then R270 else R90)

-- a change as a turn
abbrev pub turn_of : Scale → Change → Turn
turn_of scale (Shift v) = record { mirror = false; quarter = R0; shift = scaled_vertex scale v }
turn_of scale MirrorX = record { mirror = true; quarter = R0; shift = origin }
turn_of scale MirrorY = record { mirror = true; quarter = R180; shift = origin }
turn_of scale (Direction v) = record { mirror = false; quarter = quarter_to v; shift = origin }

-- some number of a change is above all that a text may write
abbrev pub is_big_change : Change → Bool
is_big_change (Shift v) = is_too_big v
is_big_change MirrorX = false
is_big_change MirrorY = false
is_big_change (Direction v) = is_too_big v

-- a direction isn't along an axis
abbrev pub is_askew_change : Change → Bool
is_askew_change (Shift v) = false
is_askew_change MirrorX = false
is_askew_change MirrorY = false
is_askew_change (Direction v) = not (is_on_axis v)

-- its distances are whole
abbrev pub is_whole_change : Scale → Change → Bool
is_whole_change scale (Shift v) = is_whole_vertex scale v
is_whole_change scale MirrorX = true
is_whole_change scale MirrorY = true
is_whole_change scale (Direction v) = true

-- a turn, where it is in range
abbrev pub turn_in_range : Turn → Option Turn
turn_in_range turn = if is_in_range turn.shift then Some turn else None

-- the turn, changed by one change after the other; none where one of them leads out of range
unfoldable pub turn_changed_by : Scale → Turn → List Change → Option Turn
turn_changed_by scale turn [] = Some turn
turn_changed_by scale turn (c ∷ cs) = do
  next ← turn_in_range (composed turn (turn_of scale c))
  turn_changed_by scale next cs

abbrev pub turn_or_fault : Option Turn → Result Turn FaultKind
turn_or_fault None = Err TooBig
turn_or_fault (Some turn) = Ok turn

-- the turn of a call with these changes at this scale
unfoldable pub call_turn : Scale → List Change → Result Turn FaultKind
call_turn scale changes =
    if list_any is_askew_change changes then Err OffAxis
    else if not (list_all (is_whole_change scale) changes) then Err OffGrid
    else turn_or_fault (turn_changed_by scale unturned changes)

-- Which fault a command of the grammar has: that of the first check, in one order for all commands, that it doesn't pass.
-- Source: this project's own. Bytes that are no command are told apart before (Refusals).
-- Checked on: the rows of tests/jobs/cif-faults.table, each pair of neighbouring checks.
use Rattle.std.specs.Prelude.{◌≡◌, ℕ, nat_lt, List, [], ◌∷◌, length, map, Bool, false, not, ◌&&◌, Option, Some, None}
use Rattle.std.specs.Prelude.{Result, Ok, Err, if◌then◌else◌, is_some}
use Rattle.std.specs.List.{list_all, list_any}
use Rattle.lay_point.specs.declared.layer_name.TheConstants.{MAX_LAYER_NAME}
use Rattle.lay_point.specs.declared.ring.TheConstants.{MAX_RING_POINTS}
use Rattle.lay_point.specs.Points.{is_in_range}
use Rattle.lay_point.specs.Rings.{without_repeats}
use Rattle.lay_point.specs.Turns.{unturned}
use Rattle.lay_cells.specs.Symbols.{has_symbol}
use Rattle.cif_grammar.specs.declared.definitions.Scale.{Scale}
use Rattle.cif_grammar.specs.Commands.{Command}
use Rattle.cif_grammar.specs.Commands as command
use Rattle.cif_read.specs.declared.content.Content.{Content}
use Rattle.cif_read.specs.declared.fault.FaultKind.{FaultKind}
use Rattle.cif_read.specs.declared.fault.FaultKind.TheVariants.{
  LongName,
  NoLayer,
  OffAxis,
  OffGrid,
  Syntax,
  TooBig,
  TooMany,
  TwoSymbols,
  ZeroScale,
}
use Rattle.cif_read.specs.declared.file.TheConstants.{MAX_SYMBOLS}
use Rattle.cif_read.specs.Boxes.{high_corner, is_askew, is_big_box, is_whole_box, low_corner}
use Rattle.cif_read.specs.Calls.{is_askew_change, is_whole_change, turn_changed_by}
use Rattle.cif_read.specs.Content.{current_scale, effect_of, is_big_call, is_inside}
use Rattle.cif_read.specs.Polygons.{is_too_big}
use Rattle.cif_read.specs.Scales.{is_whole_vertex, scaled_vertex}
use Rattle.cif_read.specs.Symbols.{has_zero_scale, is_big_definition}

-- the scale of the distances where the command is
abbrev pub scale_in : Content → Scale
scale_in content = current_scale content.definition

-- a definition begins in another one, or none ends
abbrev pub is_misplaced : Content → Command → Bool
is_misplaced content (command.Start d) = is_inside content.definition
is_misplaced content command.Finish = not (is_inside content.definition)
is_misplaced content c = false

-- a layer's name is longer than a layer's may be
abbrev pub has_long_name : Command → Bool
has_long_name (command.Layer name) = nat_lt MAX_LAYER_NAME (length name)
has_long_name c = false

-- a written number, or that of a symbol, is above its limit
abbrev pub has_big_number : Command → Bool
has_big_number (command.Polygon vertices) = list_any is_too_big vertices
has_big_number (command.Box b) = is_big_box b
has_big_number (command.Start d) = is_big_definition d
has_big_number (command.Call symbol changes) = is_big_call symbol changes
has_big_number c = false

-- a number of a scale is zero
abbrev pub has_zero : Command → Bool
has_zero (command.Start d) = has_zero_scale d
has_zero c = false

-- the symbol was defined before
abbrev pub is_second : Content → Command → Bool
is_second content (command.Start d) = has_symbol content.symbols d.symbol
is_second content c = false

-- a direction isn't along an axis
abbrev pub is_off_axis : Command → Bool
is_off_axis (command.Box b) = is_askew b
is_off_axis (command.Call symbol changes) = list_any is_askew_change changes
is_off_axis c = false

-- something is drawn, and no layer is set
abbrev pub lacks_layer : Content → Command → Bool
lacks_layer content (command.Polygon vertices) = not (is_some content.layer)
lacks_layer content (command.Box b) = not (is_some content.layer)
lacks_layer content c = false

-- a distance isn't whole
abbrev pub is_off_grid : Content → Command → Bool
is_off_grid content (command.Polygon vertices) = not (list_all (is_whole_vertex (scale_in content)) vertices)
is_off_grid content (command.Box b) = not (is_whole_box (scale_in content) b)
is_off_grid content (command.Call symbol changes) = not (list_all (is_whole_change (scale_in content)) changes)
is_off_grid content c = false

-- a coordinate is out of range, or the turn of a call is after some of its changes
abbrev pub is_out_of_range : Content → Command → Bool
is_out_of_range content (command.Polygon vertices) = not (list_all is_in_range (map (scaled_vertex (scale_in content)) vertices))
is_out_of_range content (command.Box b) =
    not (is_in_range (low_corner (scale_in content) b) && is_in_range (high_corner (scale_in content) b))
is_out_of_range content (command.Call symbol changes) = not (is_some (turn_changed_by (scale_in content) unturned changes))
is_out_of_range content c = false

-- more points are left without repeats than a ring may have, or as many symbols are defined as may be
abbrev pub is_over_limit : Content → Command → Bool
is_over_limit content (command.Polygon vertices) =
    nat_lt MAX_RING_POINTS (length (without_repeats (map (scaled_vertex (scale_in content)) vertices)))
is_over_limit content (command.Start d) = not (nat_lt (length content.symbols) MAX_SYMBOLS)
is_over_limit content c = false

-- the checks of a command, in order: what it fails with, and whether it does
abbrev pub checks : Content → Command → List (FaultKind × Bool)
checks content c =
    (Syntax, is_misplaced content c)
    ∷ (LongName, has_long_name c)
    ∷ (TooBig, has_big_number c)
    ∷ (ZeroScale, has_zero c)
    ∷ (TwoSymbols, is_second content c)
    ∷ (OffAxis, is_off_axis c)
    ∷ (NoLayer, lacks_layer content c)
    ∷ (OffGrid, is_off_grid content c)
    ∷ (TooBig, is_out_of_range content c)
    ∷ (TooMany, is_over_limit content c)
    ∷ []

-- the kind of the first check that fails
abbrev pub first_failed : List (FaultKind × Bool) → Option FaultKind
first_failed [] = None
first_failed (check ∷ more) = if check.1 then Some check.0 else first_failed more

-- the fault of a result, if it has one
abbrev pub failed_with : {A : Type 0} → Result A FaultKind → Option FaultKind
failed_with (Ok x) = None
failed_with (Err kind) = Some kind

abbrev pub ChecksComeInOrder : Type 0
ChecksComeInOrder = (content : Content) (offset : ℕ) (c : Command) → failed_with (effect_of content offset c)
    ≡ first_failed (checks content c)

-- What the commands of a text mean, one after the other.
-- Source: Caltech Intermediate Form 2.0: figures are drawn on the layer that was set last, in the definition that they stand in.
-- A layer is unset where a definition begins, and set again as before where it ends.
-- The unit, the range and dropping are this project's own.
-- Checked on: `B 5 3 0 0` has the corners (-5,-3) and (5,3); `DS 7 25 2; L ND; B 8 24 3 1; DF` has
-- (-25,-275) and (175,325); `L A; B 0 4 1 1; P 0 0 5 5 0 0; E` has no element and two dropped;
-- `L A; P -536870912 0 536870912 0 0 536870912; E` is in range, and with 536870913 TooBig at 5. The
-- rows of tests/jobs/cif-layouts.table.
use Rattle.std.specs.Prelude.{ℕ, ◌+◌, nat_lt, List, [], ◌∷◌, ◌++◌, length, Bool, true, false, ◌||◌, Option, Some, None, Result, Ok, Err}
use Rattle.std.specs.Prelude.{if◌then◌else◌}
use Rattle.std.specs.List.{list_any}
use Rattle.lay_point.specs.declared.layer_name.TheConstants.{MAX_LAYER_NAME}
use Rattle.lay_point.specs.declared.point.Point.{Point}
use Rattle.lay_point.specs.declared.turn.Turn.{Turn}
use Rattle.lay_cells.specs.declared.cell_id.CellId.{CellId}
use Rattle.lay_cells.specs.declared.cell_id.CellId.TheVariants.{Symbol, Top}
use Rattle.lay_cells.specs.declared.cells.TheConstants.{MAX_SYMBOL}
use Rattle.cif_grammar.specs.declared.boxes.BoxNumbers.{BoxNumbers}
use Rattle.cif_grammar.specs.declared.calls.Change.{Change}
use Rattle.cif_grammar.specs.declared.definitions.Definition.{Definition}
use Rattle.cif_grammar.specs.declared.definitions.Scale.{Scale}
use Rattle.cif_grammar.specs.declared.paths.Vertex.{Vertex}
use Rattle.cif_grammar.specs.Commands.{Command}
use Rattle.cif_grammar.specs.Commands as command
use Rattle.cif_grammar.specs.Definitions.{plain_scale}
use Rattle.cif_read.specs.declared.content.Content.{Content}
use Rattle.cif_read.specs.declared.content.OpenDefinition.{OpenDefinition}
use Rattle.cif_read.specs.declared.element.Figure.{Figure}
use Rattle.cif_read.specs.declared.element.Figure.TheVariants.{Call, Polygon}
use Rattle.cif_read.specs.declared.fault.CifFault.{CifFault}
use Rattle.cif_read.specs.declared.fault.FaultKind.{FaultKind}
use Rattle.cif_read.specs.declared.fault.FaultKind.TheVariants.{LongName, NoLayer, OffAxis, Syntax, TooBig}
use Rattle.cif_read.specs.Boxes.{box_at, is_askew, is_big_box}
use Rattle.cif_read.specs.Calls.{call_turn, is_big_change}
use Rattle.cif_read.specs.Polygons.{is_too_big, polygon_at}
use Rattle.cif_read.specs.Steps.{and_then, at_offset}
use Rattle.cif_read.specs.Symbols.{definition_fault}

-- no layer is set, and nothing is defined or drawn
abbrev pub empty_content : Content
empty_content = record { layer = None; definition = None; symbols = []; elements = []; calls = []; extensions = 0; dropped = 0 }

abbrev pub is_inside : Option OpenDefinition → Bool
is_inside None = false
is_inside (Some o) = true

-- the cell that is drawn in
abbrev pub current_cell : Option OpenDefinition → CellId
current_cell None = Top
current_cell (Some o) = Symbol o.symbol

-- the scale of the distances
abbrev pub current_scale : Option OpenDefinition → Scale
current_scale None = plain_scale
current_scale (Some o) = o.scale

-- how many elements and extensions there were
abbrev pub content_size : Content → ℕ
content_size content = length content.elements + content.extensions + content.dropped

-- one element more
abbrev pub with_figure : Content → Figure → Content
with_figure content figure = record content {
  elements = content.elements ++ record { cell = current_cell content.definition; figure = figure } ∷ [];
}

-- one polygon more, or one more that is dropped
abbrev pub drawn : Content → List ℕ → Option (List Point) → Content
drawn content layer None = record content { dropped = content.dropped + 1 }
drawn content layer (Some ring) = with_figure content (Polygon layer ring)

-- what is drawn on the layer that is set
abbrev pub on_layer : Content → Option (List ℕ) → Result (Option (List Point)) FaultKind → Result Content FaultKind
on_layer content None drawing = Err NoLayer
on_layer content (Some layer) drawing = and_then drawing (λ ring. Ok (drawn content layer ring))

unfoldable pub after_polygon : Content → List Vertex → Result Content FaultKind
after_polygon content vertices =
    if list_any is_too_big vertices then Err TooBig
    else on_layer content content.layer (polygon_at (current_scale content.definition) vertices)

unfoldable pub after_box : Content → BoxNumbers → Result Content FaultKind
after_box content b =
    if is_big_box b then Err TooBig
    else if is_askew b then Err OffAxis
    else on_layer content content.layer (box_at (current_scale content.definition) b)

unfoldable pub after_layer : Content → List ℕ → Result Content FaultKind
after_layer content name = if nat_lt MAX_LAYER_NAME (length name) then Err LongName else Ok (record content { layer = Some name })

-- a definition begins where it has this fault, or none
abbrev pub definition_begun : Content → Definition → Option FaultKind → Result Content FaultKind
definition_begun content d (Some fault) = Err fault
definition_begun content d None = Ok (record content {
  layer = None;
  definition = Some (record { symbol = d.symbol; scale = d.scale; saved = content.layer });
  symbols = content.symbols ++ d.symbol ∷ [];
})

unfoldable pub after_start : Content → Definition → Result Content FaultKind
after_start content d = if is_inside content.definition then Err Syntax else definition_begun content d (definition_fault content.symbols d)

abbrev pub finished : Content → Option OpenDefinition → Result Content FaultKind
finished content None = Err Syntax
finished content (Some o) = Ok (record content { layer = o.saved; definition = None })

-- one call more, which stands at this offset
abbrev pub called : Content → ℕ → ℕ → Turn → Content
called content offset target turn = record (with_figure content (Call target turn)) {
  calls = content.calls ++ record { offset = offset; caller = current_cell content.definition; target = target } ∷ [];
}

-- some number of a call is above its limit
abbrev pub is_big_call : ℕ → List Change → Bool
is_big_call symbol changes = nat_lt MAX_SYMBOL symbol || list_any is_big_change changes

unfoldable pub after_call : Content → ℕ → ℕ → List Change → Result Content FaultKind
after_call content offset symbol changes =
    if is_big_call symbol changes then Err TooBig
    else and_then (call_turn (current_scale content.definition) changes) (λ turn. Ok (called content offset symbol turn))

-- what is meant after the command at this offset
abbrev pub effect_of : Content → ℕ → Command → Result Content FaultKind
effect_of content offset (command.Polygon vertices) = after_polygon content vertices
effect_of content offset (command.Box b) = after_box content b
effect_of content offset (command.Layer name) = after_layer content name
effect_of content offset (command.Start d) = after_start content d
effect_of content offset command.Finish = finished content content.definition
effect_of content offset (command.Call symbol changes) = after_call content offset symbol changes
effect_of content offset command.Extension = Ok (record content { extensions = content.extensions + 1 })
effect_of content offset command.Comment = Ok content

unfoldable pub after_command_at : Content → ℕ → Command → Result Content CifFault
after_command_at content offset c = at_offset offset (effect_of content offset c)

-- what is meant after commands with their offsets, or the first fault
unfoldable pub after_commands : Content → List (ℕ × Command) → Result Content CifFault
after_commands content [] = Ok content
after_commands content (c ∷ cs) = and_then (after_command_at content c.0 c.1) (λ next. after_commands next cs)

-- what the commands of a text mean, or the first fault
unfoldable pub content_of : List (ℕ × Command) → Result Content CifFault
content_of commands = after_commands empty_content commands

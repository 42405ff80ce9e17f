-- The command that bytes without their semicolon write.
use Rattle.std.specs.Prelude.{ℕ, ◌==◌, List, [], ◌∷◌, Option, Some, None, option_map, if◌then◌else◌}
use Rattle.std.specs.List.{list_all}
use Rattle.lay_point.specs.Names.{is_digit}
use Rattle.cif_grammar.specs.Bytes.{is_blank, skip}
use Rattle.byte_io.specs.Steps.{◌>>=◌}
use Rattle.cif_grammar.specs.Numbers.{integer_at}
use Rattle.cif_grammar.specs.Boxes.{box_of}
use Rattle.cif_grammar.specs.Calls.{changes_of}
use Rattle.cif_grammar.specs.Commands.{Box, Call, Command, Comment, Extension, Finish, Layer, Polygon, Start}
use Rattle.cif_grammar.specs.Comments.{is_comment}
use Rattle.cif_grammar.specs.Definitions.{definition_of}
use Rattle.cif_grammar.specs.Layers.{layer_of}
use Rattle.cif_grammar.specs.Paths.{path_of}

-- "S" and a definition, or "F" and blanks, behind the `D` and blanks
abbrev pub bracket_of : List ℕ → Option Command
bracket_of [] = None
bracket_of (b ∷ bs) =
    if b == 83 then option_map Start (definition_of bs)
    else if b == 70 then (if list_all is_blank bs then Some Finish else None)
    else None

-- integer { {blank} change } {blank}, behind the `C`
unfoldable pub call_of : List ℕ → Option Command
call_of bytes = do
  symbol ← integer_at bytes
  changes ← changes_of symbol.1
  Some (Call symbol.0 changes)

unfoldable pub command_of : List ℕ → Option Command
command_of [] = None
command_of (b ∷ bs) =
    if b == 80 then option_map Polygon (path_of bs)
    else if b == 66 then option_map Box (box_of bs)
    else if b == 76 then option_map Layer (layer_of bs)
    else if b == 68 then bracket_of (skip is_blank bs)
    else if b == 67 then call_of bs
    else if b == 40 then (if is_comment bs then Some Comment else None)
    else if is_digit b then Some Extension
    else None

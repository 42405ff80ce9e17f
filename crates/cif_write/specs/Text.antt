-- The text of a layout.
-- Source: Caltech Intermediate Form 2.0. The order of the lines is this project's own.
-- Checked on, with a slash for each newline: the layout of `L NM; B 40 20 0 0; E` is
-- `DS 1 1 2;/L NM;/P -40 -20 40 -20 40 20 -40 20;/DF;/C 1;/E/`; that of `E` is
-- `DS 1 1 2;/DF;/C 1;/E/`; two shapes on `A`, one on `B` and one on `A` again have three `L` lines.
use Rattle.std.specs.Prelude.{ℕ, List, [], ◌∷◌, ◌++◌, Bool, false, Option, None, Some, if◌then◌else◌}
use Rattle.std.specs.List.{flat_map}
use Rattle.lay_point.specs.declared.point.Point.{Point}
use Rattle.lay_point.specs.Bridges.{bridged}
use Rattle.lay_point.specs.Same.{names_eq}
use Rattle.lay_point.specs.Turns.{unturned}
use Rattle.lay_layouts.specs.declared.item.Item.{Item}
use Rattle.lay_layouts.specs.declared.item.Item.TheVariants.{Placed, Shape}
use Rattle.lay_layouts.specs.Layout.{Layout}
use Rattle.cif_write.specs.Lines.{Line, Start, OnLayer, Path, Finish, Call, End, lines_text}
use Rattle.cif_write.specs.Wrap.{Definition, Written, written}

-- whether this is the layer that is set
abbrev pub is_set : Option (List ℕ) → List ℕ → Bool
is_set None layer = false
is_set (Some name) layer = names_eq name layer

-- a path on a layer, where this layer is set, or none
abbrev pub path_lines : Option (List ℕ) → List ℕ → List Point → List Line
path_lines set layer path = if is_set set layer then Path path ∷ [] else OnLayer layer ∷ Path path ∷ []

-- what is written for an item where this layer is set, or none: a shape's layer unless it is set, then the one path of
-- its rings; or a call
abbrev pub item_lines : Option (List ℕ) → Item → List Line
item_lines set (Shape cell layer rings) = path_lines set layer (bridged rings)
item_lines set (Placed cell target turn) = Call target turn ∷ []

-- the layer that is set after an item; a call sets none
abbrev pub layer_after : Option (List ℕ) → Item → Option (List ℕ)
layer_after set (Shape cell layer rings) = Some layer
layer_after set (Placed cell target turn) = set

-- what is written for these items where this layer is set, or none
abbrev pub items_lines : Option (List ℕ) → List Item → List Line
items_lines set [] = []
items_lines set (item ∷ items) = item_lines set item ++ items_lines (layer_after set item) items

-- a definition begins with no layer set
abbrev pub definition_lines : Definition → List Line
definition_lines definition = Start definition.number ∷ items_lines None definition.items ++ Finish ∷ []

abbrev pub definitions_lines : List Definition → List Line
definitions_lines definitions = flat_map definition_lines definitions

-- the symbols, the top cell's call, and the end
abbrev pub file_lines : Written → List Line
file_lines file = definitions_lines file.definitions ++ Call file.called unturned ∷ End ∷ []

-- the text of a layout
unfoldable pub text : Layout → List ℕ
text layout = lines_text (file_lines (written layout))

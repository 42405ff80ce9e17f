-- What is kept beside a layout is no part of its text, and a label is where the reader has it.
use Rattle.std.specs.Prelude.{◌≡◌, ℕ, ◌*◌, ◌≤◌, ◌==◌, List, [], ◌∷◌, codes, flat_map, nat_eq, Bool, true, false, ◌||◌, not, IsTrue}
use Rattle.std.specs.Prelude.{Option, None, Some, option_map, Ok, ◌++◌, ◌⊎◌}
use Rattle.std.specs.Prelude.{if◌then◌else◌}
use Rattle.std.specs.List.{AllByRecursion, list_all, starts_with}
use Rattle.lay_point.specs.Names.{is_layer_name}
use Rattle.cif_grammar.specs.declared.number.Number.{Number}
use Rattle.cif_grammar.specs.declared.definitions.Scale.{Scale}
use Rattle.cif_grammar.specs.Grammar.{IsExtension}
use Rattle.cif_read.specs.declared.content.Content.{Content}
use Rattle.cif_read.specs.declared.content.OpenDefinition.{OpenDefinition}
use Rattle.cif_read.specs.Content.{current_scale, empty_content}
use Rattle.cif_read.specs.Meaning.{after_piece}
use Rattle.cif_names.specs.declared.names.Entry.{Entry}
use Rattle.cif_names.specs.declared.place.Place.{Place}
use Rattle.cif_names.specs.Entries.{limit_of, name_text, scaled_to_units}
use Rattle.byte_io.specs.Lines.{lines}
use Rattle.cif_names.specs.Names.{names_of}
use Rattle.cif_names.specs.Places.{outside, place_after}
use Rattle.cif_names.specs.Titles.{name_said_by}
use Rattle.cif_names.specs.Woven.{with_names}

abbrev pub is_empty : List ℕ → Bool
is_empty [] = true
is_empty (b ∷ bs) = false

-- one newline, and nothing behind it
abbrev pub is_line : List ℕ → Bool
is_line [] = false
is_line (b ∷ bs) = if b == 10 then is_empty bs else is_line bs

-- whether a line is one of a name or a label: only that of a label with a layer begins with a space
abbrev pub is_kept_line : List ℕ → Bool
is_kept_line line =
    starts_with nat_eq line (codes "9 ") || starts_with nat_eq line (codes "94 ") || starts_with nat_eq line (codes " ")

-- an entry is one line, and such a one
pub record IsKeptLine (entry : Entry) : Type 0 where
  pub one : IsTrue (is_line entry.line)
  pub kept : IsTrue (is_kept_line entry.line)

-- all that is kept of any text
abbrev pub KeptLinesAreLines : Type 0
KeptLinesAreLines = (text : List ℕ) → AllByRecursion IsKeptLine (names_of text).entries

-- an extension of the grammar, its semicolon and a newline
pub record IsExtensionLine (line : List ℕ) : Type 0 where
  pub extension : List ℕ
  pub parts : line ≡ extension ++ codes ";\n"
  pub is : IsExtension extension

-- the command of a layer, and behind it the line of an extension
pub record IsLayeredLine (line : List ℕ) : Type 0 where
  pub layer : List ℕ
  pub behind : List ℕ
  pub parts : line ≡ codes " L " ++ layer ++ codes "; " ++ behind
  pub named : IsTrue (is_layer_name layer)
  pub extension : IsExtensionLine behind

-- commands of the grammar: an extension, behind a layer's or behind nothing
abbrev pub IsCommands : Entry → Type 0
IsCommands entry = IsExtensionLine entry.line ⊎ IsLayeredLine entry.line

-- all that is kept of any text
abbrev pub KeptLinesAreCommands : Type 0
KeptLinesAreCommands = (text : List ℕ) → AllByRecursion IsCommands (names_of text).entries

-- the line, unless it is one of a name or a label
abbrev pub unless_kept : List ℕ → List ℕ
unless_kept line = if is_kept_line line then [] else line

-- the text without its lines of names and labels
abbrev pub without_names : List ℕ → List ℕ
without_names text = flat_map unless_kept (lines text)

-- no line of the text is one of a name or a label
abbrev pub HasNoNames : List ℕ → Type 0
HasNoNames text = IsTrue (list_all (λ line. not (is_kept_line line)) (lines text))

-- without these lines a text is what it was, whichever text they were taken from
abbrev pub TextIsTheSame : Type 0
TextIsTheSame = (text written : List ℕ) → HasNoNames written → without_names (with_names (names_of text) written) ≡ written

-- these database units are the written distance at this scale, with its sign, and have 32 bits
pub record IsDistanceInUnits (scale : Scale) (written units : Number) : Type 0 where
  pub distance : units.magnitude * scale.denominator ≡ 2 * written.magnitude * scale.numerator
  pub sign : units.negative ≡ written.negative
  pub bits : units.magnitude ≤ limit_of written.negative

-- a label's coordinate is these units, where there are such, and else the label is left out; a scale's second number of 0 has none
pub record LabelsAreScaled : Type 0 where
  pub kept : (scale : Scale) (written units : Number) → scaled_to_units scale written ≡ Some units → IsDistanceInUnits scale written units
  pub only : (scale : Scale) (written units : Number) → 1 ≤ scale.denominator → IsDistanceInUnits scale written units
      → scaled_to_units scale written ≡ Some units

-- the layer that the reader sets again where the definition ends that is open
abbrev pub saved_layer : Option OpenDefinition → Option (List ℕ)
saved_layer None = None
saved_layer (Some o) = o.saved

-- where the reader is: in which definition, at which scale, and with which layer set
abbrev pub place_in : Content → Place
place_in content = record {
  symbol = option_map (λ o. o.symbol) content.definition;
  scale = current_scale content.definition;
  layer = content.layer;
  saved = saved_layer content.definition;
}

-- the places of names and labels are the reader's: at a text's start, and behind each command that is read
pub record PlacesAreTheReaders : Type 0 where
  pub start : outside ≡ place_in empty_content
  pub step : (content next : Content) (offset : ℕ) (bytes : List ℕ) → after_piece content offset bytes ≡ Ok next
      → place_after (place_in content) bytes ≡ place_in next

-- what the line of a name says is the name
abbrev pub NamesComeBack : Type 0
NamesComeBack = (name : List ℕ) → name_said_by (name_text name) ≡ name

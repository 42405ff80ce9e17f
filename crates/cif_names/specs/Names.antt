-- What is kept of a text's names and labels.
-- Source: `9`, `91` and `94` are user extensions of layout editors, of cells' names, instances' names and labels; what is kept
-- of them is this project's own.
-- Checked on: in `DS 1 1 1;`, after `L M1;`, `94 A 10,-20 M1;` is ` L M1; 94 A 20 -40;`; in
-- `DS 7 1 4;`, `94 ON 2 4;` is `94 ON 1 2;`, `94 OFF 1 4;` is left out, and so is `91 inverter_0;`.
-- Checked on: after `L TXT;`, `94 A 1 2 0;` is ` L TXT; 94 A 2 4 0;`, and without a layer `94 A 1 2 M1;` is `94 A 2 4 M1;`.
use Rattle.std.specs.Prelude.{ℕ, ◌+◌, List, [], ◌∷◌, ◌++◌, codes, filter, Bool, true, Option, None, Some, option_map, if◌then◌else◌}
use Rattle.std.specs.Str.{bytes_eq}
use Rattle.lay_cells.specs.Symbols.{has_symbol}
use Rattle.cif_grammar.specs.Cutting.{cut}
use Rattle.cif_names.specs.declared.names.Entry.{Entry}
use Rattle.cif_names.specs.declared.names.Names.{Names}
use Rattle.cif_names.specs.declared.place.Place.{Place}
use Rattle.cif_names.specs.Entries.{label_of, label_text, name_text}
use Rattle.cif_names.specs.Places.{outside, place_after}
use Rattle.cif_names.specs.Words.{only_word, word_at}

-- nothing
abbrev pub nothing : Names
nothing = record { entries = []; left_out = 0 }

-- the line of a name, which stands in a definition
abbrev pub name_line : Option ℕ → List ℕ → Option (List ℕ)
name_line None bytes = None
name_line (Some symbol) bytes = option_map name_text (only_word bytes)

-- the line of a label
abbrev pub label_line : Place → List ℕ → Option (List ℕ)
label_line place bytes = option_map label_text (label_of place bytes)

-- one line more of this symbol, or one command more that is left out
abbrev pub with_line : Names → Option ℕ → Option (List ℕ) → Names
with_line kept symbol None = record { entries = kept.entries; left_out = kept.left_out + 1 }
with_line kept symbol (Some line) =
    record { entries = kept.entries ++ record { symbol = symbol; line = line } ∷ []; left_out = kept.left_out }

-- what is kept after a command with this first word, and these bytes behind it; an instance's name is left out
abbrev pub names_after : Names → Place → Option (List ℕ × List ℕ) → Names
names_after kept place None = kept
names_after kept place (Some word) =
    if bytes_eq word.0 (codes "9") then with_line kept place.symbol (name_line place.symbol word.1)
    else if bytes_eq word.0 (codes "94") then with_line kept place.symbol (label_line place word.1)
    else if bytes_eq word.0 (codes "91") then with_line kept place.symbol None
    else kept

-- what is kept after a command at this place
unfoldable pub kept_after : Names → Place → List ℕ → Names
kept_after kept place bytes = names_after kept place (word_at bytes)

-- what is kept after these commands, the first at this place
unfoldable pub names_from : Names → Place → List (ℕ × List ℕ) → Names
names_from kept place [] = kept
names_from kept place (p ∷ ps) = names_from (kept_after kept place p.1) (place_after place p.1) ps

-- what is kept of a text
unfoldable pub names_of : List ℕ → Names
names_of text = names_from nothing outside (cut text).pieces

-- whether this is one of the symbols, or none
abbrev pub is_there : List ℕ → Option ℕ → Bool
is_there symbols None = true
is_there symbols (Some symbol) = has_symbol symbols symbol

-- whether an entry is one of these symbols, or of none
abbrev pub is_of_symbols : List ℕ → Entry → Bool
is_of_symbols symbols e = is_there symbols e.symbol

-- those of these symbols, and those of no symbol
abbrev pub within : List ℕ → Names → Names
within symbols kept = record { entries = filter (is_of_symbols symbols) kept.entries; left_out = kept.left_out }

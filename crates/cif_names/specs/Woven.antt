-- A text with the lines of what is kept in it.
-- Source: this project's own: a symbol's lines stand behind the line that begins its definition. Those of no symbol are lines
-- of the one that the text's last call names. Lines that set no layer come first, so that none gets the layer of one before it.
-- Checked on: of ` L M1; 94 B 0 10;` of symbol 1 and `94 TOP 6 8;` of none, where 1 is called last, the second comes first.
use Rattle.std.specs.Prelude.{ℕ, ◌==◌, List, [], ◌∷◌, ◌++◌, codes, drop, flat_map, length, nat_eq, Bool, true, false, Option, None}
use Rattle.std.specs.Prelude.{Some, ◌&&◌, if◌then◌else◌}
use Rattle.std.specs.Bool.{beq}
use Rattle.std.specs.List.{list_any, starts_with}
use Rattle.cif_grammar.specs.Numbers.{integer_at}
use Rattle.cif_names.specs.declared.names.Entry.{Entry}
use Rattle.cif_names.specs.declared.names.Names.{Names}
use Rattle.byte_io.specs.Lines.{lines}

abbrev pub first_number : Option (ℕ × List ℕ) → Option ℕ
first_number None = None
first_number (Some p) = Some p.0

-- the number behind these bytes at the front of a line
unfoldable pub number_behind : List ℕ → List ℕ → Option ℕ
number_behind front line = if starts_with nat_eq line front then first_number (integer_at (drop (length front) line)) else None

-- whether a line has its newline
abbrev pub has_newline : List ℕ → Bool
has_newline line = list_any (λ b. b == 10) line

-- the symbol whose definition a line begins
unfoldable pub started : List ℕ → Option ℕ
started line = if has_newline line then number_behind (codes "DS ") line else None

-- this symbol, or where there is none, the other
abbrev pub symbol_or : Option ℕ → Option ℕ → Option ℕ
symbol_or other None = other
symbol_or other (Some symbol) = Some symbol

-- the symbol that the last call of the lines names, or where they call none, the one before
abbrev pub last_call : Option ℕ → List (List ℕ) → Option ℕ
last_call before [] = before
last_call before (line ∷ behind) = last_call (symbol_or before (number_behind (codes "C ") line)) behind

-- this is the symbol, and there is one
abbrev pub is_symbol : ℕ → Option ℕ → Bool
is_symbol n None = false
is_symbol n (Some m) = m == n

-- whether a line sets a layer: that of a label with one does, and begins with a space as no other
abbrev pub sets_layer : List ℕ → Bool
sets_layer line = starts_with nat_eq line (codes " ")

-- whether an entry's line, which sets a layer or doesn't, stands in this symbol's definition, where this one is called last
abbrev pub is_kept_in : Bool → Option ℕ → ℕ → Entry → Bool
is_kept_in layered called n e = is_symbol n (symbol_or called e.symbol) && beq layered (sets_layer e.line)

abbrev pub line_in : Bool → Option ℕ → ℕ → Entry → List ℕ
line_in layered called n e = if is_kept_in layered called n e then e.line else []

-- one after the other
abbrev pub lines_in : Bool → Option ℕ → ℕ → List Entry → List ℕ
lines_in layered called n entries = flat_map (line_in layered called n) entries

-- what stands in a symbol's definition behind its first line: its lines that set no layer, and then those that set one
abbrev pub heading : Option ℕ → List Entry → ℕ → List ℕ
heading called entries n = lines_in false called n entries ++ lines_in true called n entries

-- what stands behind a line, by the heading of each symbol
abbrev pub heading_of : (ℕ → List ℕ) → Option ℕ → List ℕ
heading_of headings None = []
heading_of headings (Some n) = headings n

-- a line, and what stands behind it
abbrev pub woven_line : (ℕ → List ℕ) → List ℕ → List ℕ
woven_line headings line = line ++ heading_of headings (started line)

abbrev pub woven : (ℕ → List ℕ) → List (List ℕ) → List ℕ
woven headings ls = flat_map (woven_line headings) ls

-- the text with the lines of what is kept in it
unfoldable pub with_names : Names → List ℕ → List ℕ
with_names kept written = woven (heading (last_call None (lines written)) kept.entries) (lines written)

-- The classes of bytes.
-- Source: Caltech Intermediate Form 2.0, the grammar's digit, upper-case letter, blank and separator.
-- That bytes from 128 on are no blanks is this project's own.
-- Checked on: `a` is a blank; `X` is a separator and no blank; `-` is neither; byte 128 is in no
-- class.
use Rattle.std.specs.Prelude.{ℕ, ◌==◌, nat_lt, Bool, ◌&&◌, ◌||◌, not, List, drop}
use Rattle.std.specs.List.{prefix_len}
use Rattle.lay_point.specs.Names.{is_digit, is_name_byte, is_upper}
use Rattle.cif_grammar.specs.declared.bytes.Class.{Class}
use Rattle.cif_grammar.specs.declared.bytes.Class.TheVariants.{Blank, Digit, Gap, Name, Separator}

-- `-`, `(`, `)` or `;`
unfoldable pub is_mark : ℕ → Bool
is_mark b = b == 45 || b == 40 || b == 41 || b == 59

-- an ASCII byte that is no digit, no upper-case letter and no mark
unfoldable pub is_blank : ℕ → Bool
is_blank b = nat_lt b 128 && not (is_name_byte b || is_mark b)

-- what may stand between numbers
unfoldable pub is_separator : ℕ → Bool
is_separator b = is_upper b || is_blank b

-- what is passed between commands: blanks, and the semicolons of empty commands
unfoldable pub is_gap : ℕ → Bool
is_gap b = b == 59 || is_blank b

-- what the class holds
abbrev pub is_in_class : Class → ℕ → Bool
is_in_class Blank = is_blank
is_in_class Separator = is_separator
is_in_class Gap = is_gap
is_in_class Name = is_name_byte
is_in_class Digit = is_digit

-- what stands behind the bytes at the front that pass
abbrev pub skip : (ℕ → Bool) → List ℕ → List ℕ
skip passes bytes = drop (prefix_len passes bytes) bytes

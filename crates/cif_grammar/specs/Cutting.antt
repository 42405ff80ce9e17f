-- How a text is cut into commands.
-- Source: Caltech Intermediate Form 2.0: a command ends with a semicolon, a comment's parentheses match, and the text ends
-- with an `E`. That a command behind a comment's closing parenthesis goes on to the next semicolon is this project's own.
-- Checked on: `L A; B 2 2 0 0;`: NoEnd at 15. The empty text: NoEnd at 0. `L A; B 2 2 0 0 E`: NoEnd
-- at 5. `(a (b;) c); E`: one command of 10 bytes. `(a (b;) c; E`: NoEnd at 0. `E X`: AfterEnd at 2.
-- `ELSE;` and `E;`: AfterEnd at 1.
use Rattle.std.specs.Prelude.{ℕ, zero, suc, ◌+◌, ◌-◌, ◌==◌, List, [], ◌∷◌, length, take, drop, ◌&&◌, Option, Some, None}
use Rattle.std.specs.Prelude.{if◌then◌else◌}
use Rattle.cif_grammar.specs.Bytes.{is_blank, is_gap, skip}

-- how deep in parentheses the place behind a byte is; outside all of them parentheses count for nothing
abbrev pub next_depth : ℕ → ℕ → ℕ
next_depth zero b = 0
next_depth (suc d) b = if b == 40 then suc (suc d) else if b == 41 then d else suc d

-- where the first semicolon outside parentheses stands, for bytes at this place and depth
unfoldable pub semicolon_from : ℕ → ℕ → List ℕ → Option ℕ
semicolon_from place depth [] = None
semicolon_from place depth (b ∷ bs) = if depth == 0 && b == 59 then Some place else semicolon_from (place + 1) (next_depth depth b) bs

-- how deep the place behind a command's first byte is
abbrev pub first_depth : ℕ → ℕ
first_depth b = if b == 40 then 1 else 0

-- how many bytes stand before the semicolon of the command at the front
unfoldable pub command_len : List ℕ → Option ℕ
command_len [] = None
command_len (b ∷ bs) = semicolon_from 1 (first_depth b) bs

-- how a text ends
pub data Ending : Type 0 where
  -- with an `E` at this offset; then blanks alone stand behind it, or another byte first at the second offset
  Ends : ℕ → Option ℕ → Ending
  -- it breaks off: no semicolon ends the command at this offset, or no byte stands there
  Breaks : ℕ → Ending

-- a rest of a text of this length stands at this offset
abbrev pub offset_of : ℕ → List ℕ → ℕ
offset_of total rest = total - length rest

-- where the first byte stands, if there is one
abbrev pub first_offset : ℕ → List ℕ → Option ℕ
first_offset total [] = None
first_offset total (b ∷ bs) = Some (offset_of total (b ∷ bs))

-- what stands at the front of a rest that doesn't begin with a gap: a command of this length, or the text's end
pub data Front : Type 0 where
  CommandOf : ℕ → Front
  EndOf : Ending → Front

abbrev pub cut_at : ℕ → Option ℕ → Front
cut_at offset None = EndOf (Breaks offset)
cut_at offset (Some len) = CommandOf len

unfoldable pub front_of : ℕ → List ℕ → Front
front_of total [] = EndOf (Breaks (offset_of total []))
front_of total (b ∷ bs) =
    if b == 69 then EndOf (Ends (offset_of total (b ∷ bs)) (first_offset total (skip is_blank bs)))
    else cut_at (offset_of total (b ∷ bs)) (command_len (b ∷ bs))

-- a text's commands without their semicolons, each with its offset, and how the text ends
pub record Cut : Type 0 where
  pub pieces : List (ℕ × List ℕ)
  pub ending : Ending

-- the cut of a rest with this front, further of what stands behind its command
abbrev pub cut_by : ℕ → List ℕ → Front → (ℕ → Cut) → Cut
cut_by total rest (EndOf ending) further = record { pieces = []; ending = ending }
cut_by total rest (CommandOf len) further = record {
  pieces = (offset_of total rest, take len rest) ∷ (further len).pieces;
  ending = (further len).ending;
}

-- what stands behind a command of this length, its semicolon and gaps
abbrev pub behind_command : ℕ → List ℕ → List ℕ
behind_command len rest = skip is_gap (drop (len + 1) rest)

-- the cut of a rest in as many steps at most; a rest's length and one more are enough
unfoldable pub cut_from : ℕ → ℕ → List ℕ → Cut
cut_from zero total rest = record { pieces = []; ending = Breaks (offset_of total rest) }
cut_from (suc steps) total rest = cut_by total rest (front_of total rest) (λ len. cut_from steps total (behind_command len rest))

-- the cut of a rest that doesn't begin with a gap
unfoldable pub cut_rest : ℕ → List ℕ → Cut
cut_rest total rest = cut_from (length rest + 1) total rest

-- the cut of a text
unfoldable pub cut : List ℕ → Cut
cut text = cut_rest (length text) (skip is_gap text)

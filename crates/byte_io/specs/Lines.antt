-- Lines of bytes. A line ends with a newline; the last may lack it.
-- Source: this project's own.
-- Checked on, with job_text/specs/Words.antt: `open` with one carriage return is `open`; with two
-- it is a word of five bytes, and a fault.
use Rattle.std.specs.Prelude.{◌≡◌, ℕ, ◌+◌, ◌-◌, option_map, unwrap_or, ◌<◌, List, [], ◌∷◌, ◌++◌, length, take, Bool, ◌&&◌, ◌==◌, nat_lt}
use Rattle.std.specs.Prelude.{slice_index, if◌then◌else◌}
use Rattle.std.specs.List.{position}

-- the byte in front of the first of the lines
abbrev pub in_front : ℕ → List (List ℕ) → List (List ℕ)
in_front b [] = (b ∷ []) ∷ []
in_front b (line ∷ behind) = (b ∷ line) ∷ behind

-- the lines of the bytes, each with its newline
abbrev pub lines : List ℕ → List (List ℕ)
lines [] = []
lines (b ∷ bytes) = if b == 10 then (b ∷ []) ∷ lines bytes else in_front b (lines bytes)

-- how many bytes the first line has, its newline included
abbrev pub first_len : List ℕ → ℕ
first_len bytes = unwrap_or (option_map (λ n. n + 1) (position (λ b. b == 10) bytes)) (length bytes)

-- the bytes begin with this line, and this stands behind it
pub record IsFirstLine (bytes line behind : List ℕ) : Type 0 where
  pub first : lines bytes ≡ line ∷ lines behind
  pub parts : bytes ≡ line ++ behind
  pub shorter : length behind < length bytes

-- whether the line ends with this byte
abbrev pub ends_with : ℕ → List ℕ → Bool
ends_with b line = nat_lt 0 (length line) && (slice_index line (length line - 1) == b)

-- the line without this byte at its end
abbrev pub without_last : ℕ → List ℕ → List ℕ
without_last b line = if ends_with b line then take (length line - 1) line else line

-- what a line says: all before its newline, and before one carriage return there
unfoldable pub content : List ℕ → List ℕ
content line = without_last 13 (without_last 10 line)

-- Places in a text of lines, each of which ends with a newline, the last perhaps without one.
use Rattle.std.specs.Prelude.{
  ◌≡◌,
  ◌≢◌,
  ◌⊎◌,
  ◌<◌,
  ◌≤◌,
  ◌+◌,
  ◌-◌,
  ◌++◌,
  ℕ,
  nat_eq,
  if◌then◌else◌,
  List,
  [],
  ◌∷◌,
  take,
  slice_index_or,
  codes,
  decimal,
}

-- how many lines end in these bytes
abbrev pub newlines : List ℕ → ℕ
newlines [] = 0
newlines (byte ∷ bytes) = if nat_eq byte 10 then newlines bytes + 1 else newlines bytes

-- how many lines end before the byte at this offset
abbrev pub lines_before : List ℕ → ℕ → ℕ
lines_before text offset = newlines (take offset text)

-- the line of the byte at this offset, or of the text's end, begins there
pub record IsLineStart (text : List ℕ) (offset start : ℕ) : Type 0 where
  pub before : start ≤ offset
  pub one : (i : ℕ) → start ≤ i → i < offset → slice_index_or text i 0 ≢ 10
  pub first : (start ≡ 0) ⊎ (slice_index_or text (start - 1) 0 ≡ 10)

-- how the lines begin that tell of a place
unfoldable pub heading_text : ℕ → ℕ → List ℕ
heading_text line column = codes "masklay: line " ++ decimal line ++ codes ", column " ++ decimal column ++ codes ": "

-- these lines tell the place of the byte at this offset: its line and its column, both counted from 1
abbrev pub TellsPlace : List ℕ → ℕ → List ℕ → Type 0
TellsPlace text offset lines =
    (start : ℕ) × IsLineStart text offset start
    × (rest : List ℕ) × (lines ≡ heading_text (1 + lines_before text offset) (1 + (offset - start)) ++ rest)

unfoldable pub text_line_text : ℕ → List ℕ
text_line_text line = codes "masklay: line " ++ decimal line ++ codes " of the CIF text"

-- how the lines begin that tell of a place in the CIF text of a job, by its line there and its line in the job
unfoldable pub text_heading_text : ℕ → ℕ → ℕ → List ℕ
text_heading_text line of_job column =
    (text_line_text line ++ (codes " (line " ++ decimal of_job ++ codes " of the job)"))
    ++ (codes ", column " ++ decimal column ++ codes ": ")

-- these lines tell the place of the byte at this offset of a job whose CIF text begins at `text`: its line in the text, which is
-- one more than the lines that end from there on before the byte, its line in the job, and its column
abbrev pub TellsTextPlace : List ℕ → ℕ → ℕ → List ℕ → Type 0
TellsTextPlace job text offset lines =
    (start : ℕ) × IsLineStart job offset start
    × (rest : List ℕ)
    × (lines ≡ text_heading_text (1 + (lines_before job offset - lines_before job text)) (1 + lines_before job offset)
    (1 + (offset - start)) ++ rest)

-- how the lines begin that tell of a line of a live run
unfoldable pub live_heading_text : ℕ → List ℕ
live_heading_text number = codes "masklay: line " ++ decimal number ++ codes " after `%live`: "

-- the second text begins with the first
abbrev pub HasStart : List ℕ → List ℕ → Type 0
HasStart start text = (rest : List ℕ) × (text ≡ start ++ rest)

-- How bytes are cut into lines, and a line into words.
use Rattle.std.specs.Prelude.{◌≡◌, ◌⊎◌, ℕ, ◌≤◌, List, [], ◌∷◌, ◌++◌, length, Bool, true, not, ◌==◌}
use Rattle.std.specs.List.{list_all}
use Rattle.byte_io.specs.Lines.{lines}
use Rattle.job_text.specs.Steps.{Word}
use Rattle.job_text.specs.Words.{is_word_end, is_word_separator, words}

-- a byte of a line, before its newline
abbrev pub is_line_byte : ℕ → Bool
is_line_byte b = not (b == 10)

-- a byte of a word
abbrev pub is_of_word : ℕ → Bool
is_of_word b = not (is_word_separator b)

-- the bytes begin with this line: what it says, and a newline, or else the end of the bytes
pub record BeginsWithLine (bytes line : List ℕ) : Type 0 where
  pub said : List ℕ
  pub rest : List ℕ
  pub parts : bytes ≡ line ++ rest
  pub whole : list_all is_line_byte said ≡ true
  pub ended : (line ≡ said ++ 10 ∷ []) ⊎ ((line ≡ said) × (1 ≤ length said) × (rest ≡ []))

-- the bytes are these lines
abbrev pub AreLines : List ℕ → List (List ℕ) → Type 0
AreLines bytes [] = bytes ≡ []
AreLines bytes (line ∷ more) = (first : BeginsWithLine bytes line) × AreLines first.rest more

-- spaces and tabs, and then this word, up to a space, a tab or the end
pub record BeginsWithWord (bytes : List ℕ) (word : Word) : Type 0 where
  pub gap : List ℕ
  pub rest : List ℕ
  pub parts : bytes ≡ gap ++ (word ++ rest)
  pub blank : list_all is_word_separator gap ≡ true
  pub some : 1 ≤ length word
  pub whole : list_all is_of_word word ≡ true
  pub ends : is_word_end rest ≡ true

-- the words of the bytes are these, and there is nothing else but spaces and tabs
abbrev pub AreWords : List ℕ → List Word → Type 0
AreWords bytes [] = list_all is_word_separator bytes ≡ true
AreWords bytes (word ∷ more) = (first : BeginsWithWord bytes word) × AreWords first.rest more

-- the bytes are their lines, and no others
abbrev pub LinesAreCut : Type 0
LinesAreCut = (bytes : List ℕ) → AreLines bytes (lines bytes) × ((all : List (List ℕ)) → AreLines bytes all → all ≡ lines bytes)

-- the words of the bytes are theirs, and no others
abbrev pub WordsAreCut : Type 0
WordsAreCut = (bytes : List ℕ) → AreWords bytes (words bytes) × ((all : List Word) → AreWords bytes all → all ≡ words bytes)

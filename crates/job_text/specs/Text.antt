-- Where the CIF text of a job ends.
use Rattle.std.specs.Prelude.{ℕ, ◌+◌, List, [], ◌∷◌, ◌++◌, codes, Bool, true, ◌||◌, ◌==◌, nat_eq, if◌then◌else◌}
use Rattle.std.specs.List.{starts_with}

-- lines of a job, and the number of the first of them, counted from 1
abbrev pub Place : Type 0
Place = ℕ × List (List ℕ)

-- whether the line ends the CIF text
abbrev pub is_section : List ℕ → Bool
is_section line = starts_with nat_eq line (codes "%session") || starts_with nat_eq line (codes "%order")

-- the lines before the first section, joined
abbrev pub text_of : List (List ℕ) → List ℕ
text_of [] = []
text_of (line ∷ behind) = if is_section line then [] else line ++ text_of behind

-- what stands from the first section on
abbrev pub sections_of : ℕ → List (List ℕ) → Place
sections_of number [] = (number, [])
sections_of number (line ∷ behind) = if is_section line then (number, line ∷ behind) else sections_of (number + 1) behind

-- whether the last line ends with a newline, or there is none
abbrev pub are_whole : List ℕ → Bool
are_whole [] = true
are_whole (b ∷ []) = b == 10
are_whole (b ∷ c ∷ bytes) = are_whole (c ∷ bytes)

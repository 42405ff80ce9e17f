-- The numbers in a text: what each run of digits spells.
use Rattle.std.specs.Prelude.{ℕ, List, [], ◌∷◌, Bool, false, if◌then◌else◌, map}
use Rattle.lay_point.specs.Names.{is_digit}
use Rattle.byte_io.specs.Decimal.{decimal_value}
use Rattle.byte_io.specs.Lines.{in_front}

-- whether the first of the bytes is a digit
abbrev pub is_digit_first : List ℕ → Bool
is_digit_first [] = false
is_digit_first (b ∷ bytes) = is_digit b

-- the runs of digits, from the first to the last
abbrev pub runs : List ℕ → List (List ℕ)
runs [] = []
runs (b ∷ bytes) =
    if is_digit b then (if is_digit_first bytes then in_front b (runs bytes) else (b ∷ []) ∷ runs bytes) else runs bytes

-- the numbers that they spell
abbrev pub numbers_in : List ℕ → List ℕ
numbers_in text = map decimal_value (runs text)

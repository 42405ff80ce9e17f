-- Numbers as a text writes them.
-- Source: Caltech Intermediate Form 2.0, the grammar's integer, signed integer and separator.
-- Checked on: in `B5X3Y-0Z0` the numbers are 5, 3, -0 and 0; in `B 2-2 0 0` no separator follows
-- the first number, so it is no box.
use Rattle.std.specs.Prelude.{ℕ, ◌==◌, List, [], ◌∷◌, Bool, true, false, Option, Some, None, if◌then◌else◌}
use Rattle.std.specs.List.{take_while}
use Rattle.lay_point.specs.Names.{is_digit}
use Rattle.byte_io.specs.Steps.{◌>>=◌}
use Rattle.cif_grammar.specs.declared.number.Number.{Number}
use Rattle.cif_grammar.specs.Bytes.{is_separator, skip}
use Rattle.cif_grammar.specs.ScanGrammar.{capped_magnitude}

-- a reader takes something from the start of the bytes, and gives what it is and what stands behind it
-- digits and what stands behind them, where there are digits
abbrev pub spelled_by : List ℕ → List ℕ → Option (ℕ × List ℕ)
spelled_by [] behind = None
spelled_by (d ∷ ds) behind = Some (capped_magnitude (d ∷ ds), behind)

-- digit {digit}
unfoldable pub digits_at : List ℕ → Option (ℕ × List ℕ)
digits_at bytes = spelled_by (take_while is_digit bytes) (skip is_digit bytes)

-- {separator} digit {digit}
unfoldable pub integer_at : List ℕ → Option (ℕ × List ℕ)
integer_at bytes = digits_at (skip is_separator bytes)

-- digit {digit}, the magnitude of a number with this sign
unfoldable pub magnitude_at : Bool → List ℕ → Option (Number × List ℕ)
magnitude_at negative bytes = do
  digits ← digits_at bytes
  Some (record { negative = negative; magnitude = digits.0 }, digits.1)

-- ["-"] digit {digit}
unfoldable pub sign_at : List ℕ → Option (Number × List ℕ)
sign_at [] = magnitude_at false []
sign_at (b ∷ bs) = if b == 45 then magnitude_at true bs else magnitude_at false (b ∷ bs)

-- {separator} ["-"] digit {digit}
unfoldable pub signed_at : List ℕ → Option (Number × List ℕ)
signed_at bytes = sign_at (skip is_separator bytes)

-- what stands behind the one separator at the start
unfoldable pub behind_separator : List ℕ → Option (List ℕ)
behind_separator [] = None
behind_separator (b ∷ bs) = if is_separator b then Some bs else None

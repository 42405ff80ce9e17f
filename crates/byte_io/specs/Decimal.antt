-- Integers in decimal digits, and the value of digits.
-- Checked on: `99999999999999999999` is kept as 2,147,483,648; `2147483647` as itself.
use Rattle.std.specs.Prelude.{ℕ, ℤ, ◌+◌, ◌-◌, ◌*◌, ◌++◌, List, codes, fold, min}
use Rattle.std.specs.Fmt.{signed_decimal}

-- the number that the digits spell; 0 where there are none
abbrev pub decimal_value : List ℕ → ℕ
decimal_value digits = fold (λ n d. 10 * n + (d - 48)) 0 digits

-- the value of the digits, or the cap where that is less
abbrev pub capped_decimal : ℕ → List ℕ → ℕ
capped_decimal cap digits = min (decimal_value digits) cap

-- two integers, a space before each
abbrev pub spaced_pair : ℤ → ℤ → List ℕ
spaced_pair first second = codes " " ++ signed_decimal first ++ codes " " ++ signed_decimal second

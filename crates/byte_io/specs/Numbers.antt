-- Numbers that words spell.
-- Source: this project's own.
-- Checked on, with job_text/specs/Words.antt: `007`, `-0`, `0.0` and `64.065535` are good; `+1`,
-- `1.`, `65.1`, `1.65536`, `1.1.1` and `2147483648` aren't.
use Rattle.std.specs.Prelude.{ℕ, List, length, nat_le, nat_lt, Bool, ◌&&◌, Option, None, Some, if◌then◌else◌}
use Rattle.std.specs.List.{list_all}
use Rattle.lay_point.specs.Names.{is_digit}
use Rattle.byte_io.specs.Decimal.{decimal_value}

-- a digit or more and nothing else
abbrev pub is_number : List ℕ → Bool
is_number word = nat_lt 0 (length word) && list_all is_digit word

-- the value of decimal digits, unless it is above the limit
abbrev pub value_up_to : ℕ → List ℕ → Option ℕ
value_up_to limit digits = if nat_le (decimal_value digits) limit then Some (decimal_value digits) else None

-- the number that the word spells, up to the limit; leading zeros are allowed, a sign isn't
unfoldable pub parsed_number : ℕ → List ℕ → Option ℕ
parsed_number limit word = if is_number word then value_up_to limit word else None

-- Coordinates as distances from the least one.
use Rattle.std.specs.Prelude.{ℕ, ℤ, pos, ◌+ℤ◌, ◌-ℤ◌, nat_abs}

-- how far a coordinate is from the least of all
abbrev pub from_least : ℤ → ℕ
from_least z = nat_abs (z +ℤ pos 2147483648)

-- the coordinate that is so far from the least of all
abbrev pub coordinate_from : ℕ → ℤ
coordinate_from n = pos n -ℤ pos 2147483648

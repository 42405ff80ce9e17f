-- Ranges of numbers that have nothing in common.
use Rattle.std.specs.Prelude.{◌⊎◌, ℤ, ◌<ℤ◌, ◌≤ℤ◌}

-- each of a and b is below each of c and d
abbrev pub IsPairBelow : ℤ → ℤ → ℤ → ℤ → Type 0
IsPairBelow a b c d = (a <ℤ c) × (a <ℤ d) × (b <ℤ c) × (b <ℤ d)

abbrev pub ArePairsApart : ℤ → ℤ → ℤ → ℤ → Type 0
ArePairsApart a b c d = IsPairBelow a b c d ⊎ IsPairBelow c d a b

-- m is one of a and b, or between them
abbrev pub IsWithinEnds : ℤ → ℤ → ℤ → Type 0
IsWithinEnds m a b = ((a ≤ℤ m) × (m ≤ℤ b)) ⊎ ((b ≤ℤ m) × (m ≤ℤ a))

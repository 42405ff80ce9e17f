-- What holds of all whole numbers: the laws of an integral domain, and rounding.
-- Source: van der Waerden, Algebra, 1930, on rings; Euclid's division for rounding.
use Rattle.std.specs.Prelude.{◌≡◌, ◌⊎◌, ℤ, pos, ◌+ℤ◌, ◌*ℤ◌, ◌≤ℤ◌, ◌<ℤ◌}

abbrev pub ProductsCommute : Type 0
ProductsCommute = (a b : ℤ) → a *ℤ b ≡ b *ℤ a

abbrev pub ProductsAssociate : Type 0
ProductsAssociate = (a b c : ℤ) → (a *ℤ b) *ℤ c ≡ a *ℤ (b *ℤ c)

abbrev pub ProductsDistribute : Type 0
ProductsDistribute = (a b c : ℤ) → a *ℤ (b +ℤ c) ≡ (a *ℤ b) +ℤ (a *ℤ c)

abbrev pub OnlyZeroGivesZero : Type 0
OnlyZeroGivesZero = (a b : ℤ) → a *ℤ b ≡ pos 0 → (a ≡ pos 0) ⊎ (b ≡ pos 0)

-- each fraction a / k is in the unit interval round a whole number: the lower end counts, the upper doesn't
abbrev pub FractionsRound : Type 0
FractionsRound = (a k : ℤ) → pos 1 ≤ℤ k → (c : ℤ) × ((pos 2 *ℤ c *ℤ k) ≤ℤ (pos 2 *ℤ a +ℤ k)) × ((pos 2 *ℤ a) <ℤ (pos 2 *ℤ c *ℤ k +ℤ k))

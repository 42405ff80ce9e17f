-- The least number that no symbol has, by what it is.
use Rattle.std.specs.Prelude.{◌≡◌, ℕ, ◌≤◌, ◌<◌, List, true, false}
use Rattle.lay_cells.specs.Symbols.{has_symbol}

-- it is positive, no symbol has it, and some symbol has each lesser one
pub record IsLeastUnused (numbers : List ℕ) (number : ℕ) : Type 0 where
  pub positive : 1 ≤ number
  pub unused : has_symbol numbers number ≡ false
  pub least : (m : ℕ) → 1 ≤ m → m < number → has_symbol numbers m ≡ true

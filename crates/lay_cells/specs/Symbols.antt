-- The symbols of a layout: a list of their numbers.
-- Source: Caltech Intermediate Form 2.0, symbol definitions and calls.
use Rattle.std.specs.Prelude.{ℕ, Bool, true, nat_eq, List, [], ◌∷◌, ◌++◌, if◌then◌else◌}
use Rattle.std.specs.List.{list_any}
use Rattle.lay_cells.specs.declared.cell_id.CellId.{CellId}
use Rattle.lay_cells.specs.declared.cell_id.CellId.TheVariants.{Top, Symbol}

-- the symbol of this number is there
abbrev pub has_symbol : List ℕ → ℕ → Bool
has_symbol symbols number = list_any (nat_eq number) symbols

-- the symbols, and the one of this number behind them where it is new
abbrev pub with_symbol : List ℕ → ℕ → List ℕ
with_symbol symbols number = if has_symbol symbols number then symbols else symbols ++ number ∷ []

-- the cell is the top cell or one of the symbols
abbrev pub has_cell : List ℕ → CellId → Bool
has_cell symbols Top = true
has_cell symbols (Symbol number) = has_symbol symbols number

-- The search for the symbols to which calls lead: each is entered once, the first that is pending first.
use Rattle.std.specs.Prelude.{ℕ, zero, suc, ◌+◌, List, [], ◌∷◌, ◌++◌, length, map, Option, None, Some, if◌then◌else◌, unwrap_or}
use Rattle.lay_cells.specs.declared.cell_id.CellId.{CellId}
use Rattle.lay_cells.specs.declared.cell_id.CellId.TheVariants.{Symbol, Top}
use Rattle.lay_cells.specs.Symbols.{has_symbol}
use Rattle.lay_layouts.specs.Calls.{calls_of}
use Rattle.lay_layouts.specs.Layout.{Layout}
use Rattle.lay_layouts.specs.Lent.{LentCall, calls_in}

abbrev pub search_target : LentCall → ℕ
search_target call = call.1

-- the symbols that are called in a cell, in order of the calls
abbrev pub called_in : Layout → CellId → List ℕ
called_in layout cell = map search_target (calls_in layout cell)

-- in a symbol
abbrev pub called_by : Layout → ℕ → List ℕ
called_by layout number = called_in layout (Symbol number)

-- the symbol that the cell is, or those that the top cell calls
abbrev pub first_in : Layout → CellId → List ℕ
first_in layout Top = called_in layout Top
first_in layout (Symbol number) = number ∷ []

-- the symbols found, and behind them the pending ones and those that they lead to, each once; None where there are more
-- steps than counted
abbrev pub searched : (ℕ → List ℕ) → ℕ → List ℕ → List ℕ → Option (List ℕ)
searched step steps [] found = Some found
searched step zero (number ∷ pending) found = None
searched step (suc steps) (number ∷ pending) found =
    if has_symbol found number then searched step steps pending found
    else searched step steps (step number ++ pending) (found ++ number ∷ [])

-- those of a layout that a cell leads to, itself first where it is one: each call is looked at once
unfoldable pub symbols_from : Layout → CellId → List ℕ
symbols_from layout from =
    unwrap_or (searched (called_by layout) (length (first_in layout from) + length (calls_of layout)) (first_in layout from) []) []

-- the top cell, where it is that
abbrev pub top_in : CellId → List CellId
top_in Top = Top ∷ []
top_in (Symbol number) = []

-- the cells that a cell leads to, itself first
abbrev pub cells_from : Layout → CellId → List CellId
cells_from layout from = top_in from ++ map Symbol (symbols_from layout from)

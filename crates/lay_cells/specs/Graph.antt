-- How a call graph is kept: for each cell the cells that it calls, by position.
use Rattle.std.specs.Prelude.{◌≡◌, ℕ, ◌+◌, ◌<◌, List, nat_eq, length, map, Contains, IsTrue, slice_index_or, slice_set, [], ◌∷◌, ◌++◌}
use Rattle.std.specs.Global.{Vec}
use Rattle.std.specs.List.{position_or_len}
use Rattle.lay_cells.specs.declared.cell_id.CellId.{CellId}
use Rattle.lay_cells.specs.declared.cell_id.CellId.TheVariants.{Top, Symbol}
use Rattle.lay_cells.specs.Symbols.{has_cell}
use Rattle.lay_cells.specs.WalkLists.{calls_standing_in}

-- the position of a cell: a symbol's among the symbols, and the top cell's behind them
abbrev pub position_of : List ℕ → CellId → ℕ
position_of symbols Top = length symbols
position_of symbols (Symbol number) = position_or_len (nat_eq number) symbols

-- the rows as lists
abbrev pub rows_of : List (Vec ℕ) → List (List ℕ)
rows_of rows = map (λ (v : Vec ℕ). v.items) rows

-- the positions that the cell at this one calls
abbrev pub row : List (List ℕ) → ℕ → List ℕ
row rows position = slice_index_or rows position []

-- the rows, one target more behind those of the cell at this position
abbrev pub with_target : List (List ℕ) → ℕ → ℕ → List (List ℕ)
with_target rows position target = slice_set rows position (row rows position ++ target ∷ [])

-- some call stands in the cell at this position, and calls the cell at that one
abbrev pub HasCall : List ℕ → List (CellId × ℕ) → ℕ → ℕ → Type 0
HasCall symbols calls p q = (caller : CellId) × (target : ℕ) × Contains calls (caller, target) × (position_of symbols caller ≡ p)
    × (position_of symbols (Symbol target) ≡ q)

-- each call is between cells, and the rows are the calls, by position
pub record AreRowsOf (symbols : List ℕ) (calls : List (CellId × ℕ)) (rows : List (List ℕ)) : Type 0 where
  pub whole : length rows ≡ length symbols + 1
  pub callers : (caller : CellId) (target : ℕ) → Contains calls (caller, target) → IsTrue (has_cell symbols caller)
  pub targets : (caller : CellId) (target : ℕ) → Contains calls (caller, target) → IsTrue (has_cell symbols (Symbol target))
  pub kept : (caller : CellId) (target : ℕ) → Contains calls (caller, target)
      → Contains (row rows (position_of symbols caller)) (position_of symbols (Symbol target))
  pub sound : (p q : ℕ) → Contains (row rows p) q → HasCall symbols calls p q
  pub listed : (cell : CellId) → IsTrue (has_cell symbols cell)
      → row rows (position_of symbols cell) ≡ map (λ call. position_of symbols (Symbol call.1)) (calls_standing_in calls cell)

-- each target is among the rows
abbrev pub AreWithin : List (List ℕ) → Type 0
AreWithin rows = (p q : ℕ) → Contains (row rows p) q → q < length rows

-- The calls of the cells that a cell leads to, as a graph.
use Rattle.std.specs.Prelude.{◌≡◌, ℕ, List, [], ◌∷◌, ◌++◌, Some, IsTrue, flat_map, map, nat_eq, slice_get}
use Rattle.std.specs.List.{AllByRecursion, IsDistinct}
use Rattle.lay_cells.specs.declared.cell_id.CellId.{CellId}
use Rattle.lay_cells.specs.declared.cell_id.CellId.TheVariants.{Symbol, Top}
use Rattle.lay_cells.specs.Symbols.{has_symbol, with_symbol}
use Rattle.lay_cells.specs.Walks.{Calls}
use Rattle.lay_layouts.specs.Layout.{Layout}
use Rattle.lay_layouts.specs.Lent.{LentCall, calls_in}

-- a call that stands in a cell, in a graph
abbrev pub in_graph : CellId → LentCall → CellId × ℕ
in_graph cell call = (cell, call.1)

-- the calls that stand in a cell, in a graph
abbrev pub graph_calls : Layout → CellId → List (CellId × ℕ)
graph_calls layout cell = map (in_graph cell) (calls_in layout cell)

-- those of these symbols
abbrev pub symbol_calls : Layout → List ℕ → List (CellId × ℕ)
symbol_calls layout symbols = flat_map (λ number. graph_calls layout (Symbol number)) symbols

-- those of the top cell, where it is this cell
abbrev pub top_calls : Layout → CellId → List (CellId × ℕ)
top_calls layout Top = graph_calls layout Top
top_calls layout (Symbol number) = []

-- the symbols, and those that these calls call where they are new
abbrev pub with_called : List ℕ → List LentCall → List ℕ
with_called symbols [] = symbols
with_called symbols (call ∷ calls) = with_called (with_symbol symbols call.1) calls

-- the symbol that the cell is, or those that the top cell calls
abbrev pub first_symbols : Layout → CellId → List ℕ
first_symbols layout Top = with_called [] (calls_in layout Top)
first_symbols layout (Symbol number) = number ∷ []

-- each of these calls calls one of the symbols
abbrev pub AreCallsTo : List ℕ → List LentCall → Type 0
AreCallsTo symbols calls = AllByRecursion (λ call. IsTrue (has_symbol symbols call.1)) calls

-- the cell is one of the symbols, or is the top cell and calls them
abbrev pub BeginsIn : Layout → CellId → List ℕ → Type 0
BeginsIn layout Top symbols = AreCallsTo symbols (calls_in layout Top)
BeginsIn layout (Symbol number) symbols = IsTrue (has_symbol symbols number)

-- the symbols call only each other
abbrev pub AreClosed : Layout → List ℕ → Type 0
AreClosed layout symbols = (i number : ℕ) → slice_get symbols i ≡ Some number → AreCallsTo symbols (calls_in layout (Symbol number))

-- the symbols, each once, have the cell and all that it leads to
pub record CoverReached (layout : Layout) (cell : CellId) (symbols : List ℕ) : Type 0 where
  pub begins : BeginsIn layout cell symbols
  pub closed : AreClosed layout symbols
  pub distinct : IsDistinct nat_eq symbols

-- the graph has the calls of the cell and of all that it leads to
pub record IsGraphFrom (layout : Layout) (cell : CellId) (graph : Calls) : Type 0 where
  pub reached : CoverReached layout cell graph.symbols
  pub calls : graph.calls ≡ top_calls layout cell ++ symbol_calls layout graph.symbols

-- Walks of calls from cell to cell.
-- Source: Caltech Intermediate Form 2.0, symbol definitions and calls.
-- Checked on: two symbols that call each other lead to each other; in a chain of 65 the first leads
-- to the last, and not the last to the first. Of the calls 9→1, 2→4, 2→1, 1→2 the third is the
-- first that closes a cycle; 9→1, 9→2, 1→4, 2→4 have none.
use Rattle.std.specs.Prelude.{ℕ, ◌<◌, List, Contains, length, slice_index_or}
use Rattle.lay_cells.specs.declared.cell_id.CellId.{CellId}
use Rattle.lay_cells.specs.declared.cell_id.CellId.TheVariants.{Top, Symbol}

-- the symbols, and the calls in order: each the cell that it stands in, and the number of the symbol that it calls
pub record Calls : Type 0 where
  pub symbols : List ℕ
  pub calls : List (CellId × ℕ)

-- a walk leads from a cell to itself by no call, or by a call that stands in the cell and a walk from the called symbol
pub data Walks (calls : List (CellId × ℕ)) : CellId → CellId → Type 0 where
  stays : {cell : CellId} → Walks calls cell cell
  goes : {from to : CellId} {target : ℕ} → Contains calls (from, target) → Walks calls (Symbol target) to → Walks calls from to

-- no walk of one or more calls comes back to the cell that it began in
abbrev pub IsAcyclic : List (CellId × ℕ) → Type 0
IsAcyclic calls = (cell : CellId) (target : ℕ) → Contains calls (cell, target) → ¬ (Walks calls (Symbol target) cell)

-- the call at this index of the list
abbrev pub call_at : List (CellId × ℕ) → ℕ → CellId × ℕ
call_at calls index = slice_index_or calls index (Top, 0)

-- a walk leads back from the symbol that is called to the cell that the call stands in
abbrev pub ClosesCycle : List (CellId × ℕ) → CellId × ℕ → Type 0
ClosesCycle calls call = Walks calls (Symbol call.1) call.0

-- the call at this index closes a cycle, and none before it does
pub record IsFirstCycle (calls : List (CellId × ℕ)) (index : ℕ) : Type 0 where
  pub within : index < length calls
  pub closes : ClosesCycle calls (call_at calls index)
  pub before : (i : ℕ) → i < index → ¬ (ClosesCycle calls (call_at calls i))

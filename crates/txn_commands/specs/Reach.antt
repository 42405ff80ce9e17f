-- The cells to which calls lead.
-- Source: Caltech Intermediate Form 2.0, symbol definitions and calls.
use Rattle.std.specs.Prelude.{ℕ, zero, suc, ◌+◌, List, [], ◌∷◌, ◌++◌, length, Option, None, Some, Bool, if◌then◌else◌}
use Rattle.std.specs.Prelude.{option_map, unwrap_or}
use Rattle.std.specs.List.{filter_map, list_any}
use Rattle.lay_cells.specs.declared.cell_id.CellId.{CellId}
use Rattle.lay_cells.specs.declared.cell_id.CellId.TheVariants.{Symbol}
use Rattle.lay_cells.specs.SameCell.{cell_eq}
use Rattle.lay_layouts.specs.Calls.{Call, calls_of}
use Rattle.lay_layouts.specs.Layout.{Layout}

-- the cell is one of these
abbrev pub is_among : CellId → List CellId → Bool
is_among cell cells = list_any (cell_eq cell) cells

-- the symbol that a call leads to, where it stands in the cell
abbrev pub target_in : CellId → Call → Option CellId
target_in cell call = if cell_eq cell call.0 then Some (Symbol call.1) else None

-- the symbols that are called in a cell
abbrev pub targets : List Call → CellId → List CellId
targets calls cell = filter_map (target_in cell) calls

-- the pending cells and those that they lead to, each once, but for those seen before; None where there are more steps
-- than counted
abbrev pub explored : (CellId → List CellId) → ℕ → List CellId → List CellId → Option (List CellId)
explored step steps [] seen = Some []
explored step zero (cell ∷ pending) seen = None
explored step (suc steps) (cell ∷ pending) seen =
    if is_among cell seen then explored step steps pending seen
    else option_map (λ found. cell ∷ found) (explored step steps (step cell ++ pending) (cell ∷ seen))

-- the cells to which calls lead from a cell, itself included: each call is looked at once
unfoldable pub reached_by : List Call → CellId → List CellId
reached_by calls cell = unwrap_or (explored (targets calls) (1 + length calls) (cell ∷ []) []) []

-- those of a layout
abbrev pub reached : Layout → CellId → List CellId
reached layout cell = reached_by (calls_of layout) cell

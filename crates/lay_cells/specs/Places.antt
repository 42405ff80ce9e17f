-- Places of cells, in an order in which no call goes to an earlier cell.
use Rattle.std.specs.Prelude.{◌≡◌, ◌↔◌, ℕ, ◌<◌, Bool, List, Contains, true, nat_le, nat_lt, slice_index_or}
use Rattle.std.specs.List.{list_all}
use Rattle.lay_cells.specs.declared.cell_id.CellId.{CellId}
use Rattle.lay_cells.specs.declared.cell_id.CellId.TheVariants.{Symbol}
use Rattle.lay_cells.specs.Graph.{position_of}
use Rattle.lay_cells.specs.Walks.{Calls}

-- the place of a cell, from a list by position; 0 where the list has none
abbrev pub cell_place : List ℕ → List ℕ → CellId → ℕ
cell_place symbols places cell = slice_index_or places (position_of symbols cell) 0

-- the call goes to no earlier place
abbrev pub keeps_order : List ℕ → List ℕ → CellId × ℕ → Bool
keeps_order symbols places call = nat_le (cell_place symbols places call.0) (cell_place symbols places (Symbol call.1))

-- the call goes to a later place
abbrev pub goes_later : List ℕ → List ℕ → CellId × ℕ → Bool
goes_later symbols places call = nat_lt (cell_place symbols places call.0) (cell_place symbols places (Symbol call.1))

-- no call goes to an earlier place
abbrev pub AreOrdered : Calls → List ℕ → Type 0
AreOrdered graph places = list_all (keeps_order graph.symbols places) graph.calls ≡ true

-- the positions are below this one
abbrev pub AreBelow : List ℕ → ℕ → Type 0
AreBelow positions end = (q : ℕ) → Contains positions q → q < end

-- they are the positions below this one
abbrev pub ArePositions : List ℕ → ℕ → Type 0
ArePositions positions end = (q : ℕ) → Contains positions q ↔ (q < end)

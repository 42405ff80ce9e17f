-- All walks from a cell, each the list of its calls.
-- Source: Caltech Intermediate Form 2.0, symbol definitions and calls.
--
-- The calls are of any kind: `standing` has those that stand in a cell, in order, and `target` the number of the symbol
-- that one calls. So a layout's calls, which have ids and turns, have the same walks as their graph.
use Rattle.std.specs.Prelude.{ℕ, ◌↔◌, zero, suc, List, [], ◌∷◌, Contains, filter, flat_map, length, map, max}
use Rattle.lay_cells.specs.declared.cell_id.CellId.{CellId}
use Rattle.lay_cells.specs.declared.cell_id.CellId.TheVariants.{Symbol}
use Rattle.lay_cells.specs.SameCell.{cell_eq}

-- the first call stands in the cell, and each further one in the cell that the one before calls
abbrev pub IsWalk : {C : Type 0} → (CellId → List C) → (C → ℕ) → CellId → List C → Type 0
IsWalk standing target cell [] = Unit {0}
IsWalk standing target cell (call ∷ walk) = Contains (standing cell) call × IsWalk standing target (Symbol (target call)) walk

-- the walks of at most so many calls: the empty one, then by their first call those that go on
unfoldable pub walks_within : {C : Type 0} → (CellId → List C) → (C → ℕ) → ℕ → CellId → List (List C)
walks_within standing target zero cell = [] ∷ []
walks_within standing target (suc n) cell =
    [] ∷ flat_map (λ call. map (λ walk. call ∷ walk) (walks_within standing target n (Symbol (target call)))) (standing cell)

-- the calls of the longest of these walks
abbrev pub longest : {C : Type 0} → List (List C) → ℕ
longest [] = 0
longest (walk ∷ walks) = max (length walk) (longest walks)

-- a graph's calls that stand in a cell, in order
abbrev pub calls_standing_in : List (CellId × ℕ) → CellId → List (CellId × ℕ)
calls_standing_in calls cell = filter (λ call. cell_eq call.0 cell) calls

-- the number of the symbol that a call calls
abbrev pub called_symbol : CellId × ℕ → ℕ
called_symbol call = call.1

-- the walks from a cell; where there is no cycle none has more calls than the graph
unfoldable pub walks_from : List (CellId × ℕ) → CellId → List (List (CellId × ℕ))
walks_from calls cell = walks_within (calls_standing_in calls) called_symbol (length calls) cell

-- each walk is listed, and nothing else is
abbrev pub AreAllWalks : List (CellId × ℕ) → CellId → List (List (CellId × ℕ)) → Type 0
AreAllWalks calls cell walks = (walk : List (CellId × ℕ)) → Contains walks walk ↔ IsWalk (calls_standing_in calls) called_symbol cell walk

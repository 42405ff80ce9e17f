-- Where the walks of a layout's calls end, and what they do to the points there.
-- Source: Caltech Intermediate Form 2.0, calls of symbols: what a symbol holds is transformed as its call says.
-- Checked on: `DS 1; L A; P 0 0 2 0 0 1; DF; DS 2; C 1 M X T 10 0; DF; C 2 R 0 1; C 1; E` has the
-- points (0,0), (4,0), (0,2) twice below Top: first turned to (0,20), (0,16), (-2,20), then not
-- turned.
use Rattle.std.specs.Prelude.{ℕ, zero, suc, List, [], ◌∷◌, Option, None, Some, flat_map, if◌then◌else◌, length}
use Rattle.lay_point.specs.declared.turn.Turn.{Turn}
use Rattle.lay_point.specs.Points.{is_in_range}
use Rattle.lay_point.specs.Turns.{composed}
use Rattle.lay_cells.specs.declared.cell_id.CellId.{CellId}
use Rattle.lay_cells.specs.declared.cell_id.CellId.TheVariants.{Symbol}
use Rattle.lay_cells.specs.WalkLists.{walks_within}
use Rattle.lay_layouts.specs.Calls.{calls_of}
use Rattle.lay_layouts.specs.Layout.{Layout}
use Rattle.lay_layouts.specs.Lent.{LentCall, calls_in}
use Rattle.lay_flat.specs.declared.ends.End.{End}

-- the number of the symbol that a call calls
abbrev pub target_of : LentCall → ℕ
target_of call = call.1

-- the walks from a cell; as no symbol contains itself, none has more calls than the layout
unfoldable pub walks_of : Layout → CellId → List (List LentCall)
walks_of layout cell = walks_within (calls_in layout) target_of (length (calls_of layout)) cell

-- the cell in which a walk ends
abbrev pub end_of : CellId → List LentCall → CellId
end_of cell [] = cell
end_of cell (call ∷ walk) = end_of (Symbol call.1) walk

-- the turn of a call and then this one, where that is in range
abbrev pub turn_after : Option Turn → Turn → Option Turn
turn_after None call = None
turn_after (Some turn) call = if is_in_range (composed call turn).shift then Some (composed call turn) else None

-- the turn of a walk behind calls with this one: that of its last call comes first, and none may be out of range
abbrev pub turn_along : Option Turn → List LentCall → Option Turn
turn_along turn [] = turn
turn_along turn (call ∷ walk) = turn_along (turn_after turn call.2) walk

-- a walk's end: the cell and the turn
abbrev pub end_along : CellId → Option Turn → List LentCall → End
end_along cell turn walk = record { cell = end_of cell walk; turn = turn_along turn walk }

-- the ends of the walks of at most so many calls: the cell itself, then what its calls lead to, in order
unfoldable pub ends_within : Layout → ℕ → CellId → Option Turn → List End
ends_within layout zero cell turn = record { cell = cell; turn = turn } ∷ []
ends_within layout (suc n) cell turn =
    record { cell = cell; turn = turn } ∷ flat_map (λ call. ends_within layout n (Symbol call.1) (turn_after turn call.2))
    (calls_in layout cell)

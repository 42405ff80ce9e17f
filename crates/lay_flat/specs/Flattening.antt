-- What a flattening has.
-- Source: Caltech Intermediate Form 2.0, symbol definitions and calls; the limits and the refusals are this project's own.
use Rattle.std.specs.Prelude.{◌↔◌, ◌||◌, ℕ, ◌+◌, List, [], ◌∷◌, ◌++◌, Some, Result, Ok, Err}
use Rattle.std.specs.Prelude.{Contains, if◌then◌else◌, is_none, length, map, nat_lt, not, unwrap_or}
use Rattle.std.specs.List.{flat_map, list_all, list_any}
use Rattle.lay_point.specs.declared.point.Point.{Point}
use Rattle.lay_point.specs.declared.turn.Turn.{Turn}
use Rattle.lay_point.specs.Turns.{unturned}
use Rattle.lay_cells.specs.declared.cell_id.CellId.{CellId}
use Rattle.lay_cells.specs.WalkLists.{IsWalk, longest}
use Rattle.lay_layouts.specs.Layout.{Layout, is_cell}
use Rattle.lay_layouts.specs.Lent.{LentCall, calls_in, shapes_in}
use Rattle.lay_flat.specs.declared.ends.End.{End}
use Rattle.lay_flat.specs.declared.fault.FlatFault.{FlatFault}
use Rattle.lay_flat.specs.declared.fault.FlatFault.TheVariants.{NoCell, OutOfRange, TooDeep, TooMany}
use Rattle.lay_flat.specs.declared.flat.TheConstants.{MAX_DEPTH, MAX_RINGS}
use Rattle.lay_flat.specs.Ends.{end_along, target_of, walks_of}
use Rattle.lay_flat.specs.Flat.{FlatRing, is_within}

-- a shape at the end of a walk: the walk's turn, and the shape's rings
abbrev pub Drawn : Type 0
Drawn = Turn × List (List Point)

-- the shapes on a layer at an end; where its turn is out of range there is no flattening, whatever stands here for it
abbrev pub drawn_at : Layout → List ℕ → End → List Drawn
drawn_at layout layer end = map (λ shape. (unwrap_or end.turn unturned, shape.1)) (shapes_in layout end.cell layer)

-- the rings of a shape with this number
abbrev pub rings_of : ℕ → Drawn → List FlatRing
rings_of number shape = map (λ ring. (ring, shape.0, number)) shape.1

-- the rings of shapes, numbered from this number on
abbrev pub rings_from : ℕ → List Drawn → List FlatRing
rings_from number [] = []
rings_from number (shape ∷ shapes) = rings_of number shape ++ rings_from (number + 1) shapes

-- the rings at these ends
abbrev pub rings_at : Layout → List ℕ → List End → List FlatRing
rings_at layout layer ends = rings_from 0 (flat_map (drawn_at layout layer) ends)

-- the ends of all walks from a cell
unfoldable pub ends_of : Layout → CellId → List End
ends_of layout cell = map (end_along cell (Some unturned)) (walks_of layout cell)

-- whether there are too many calls in a walk, or too many walks
unfoldable pub tested : Layout → CellId → Result (Unit {0}) FlatFault
tested layout cell =
    if nat_lt MAX_DEPTH (longest (walks_of layout cell))
    then Err TooDeep
    else (if nat_lt MAX_RINGS (length (walks_of layout cell)) then Err TooMany else Ok tt)

-- the rings at these ends, where they are few and all is in range
unfoldable pub flat_at : List End → List FlatRing → Result (List FlatRing) FlatFault
flat_at ends rings =
    if nat_lt MAX_RINGS (length rings)
    then Err TooMany
    else (if list_any (λ end. is_none end.turn) ends || not (list_all is_within rings) then Err OutOfRange else Ok rings)

abbrev pub on_success : {A B E : Type 0} → Result A E → (A → Result B E) → Result B E
on_success (Ok x) f = f x
on_success (Err e) f = Err e

-- all pairs of a walk from the cell and a shape on the layer in its last cell, in order: their rings, or why there are none
unfoldable pub flat_of : Layout → CellId → List ℕ → Result (List FlatRing) FlatFault
flat_of layout cell layer =
    if is_cell layout cell
    then on_success (tested layout cell) (λ _. flat_at (ends_of layout cell) (rings_at layout layer (ends_of layout cell)))
    else Err NoCell

-- a walk is among those of the definition exactly where each call stands in the cell that the one before calls
abbrev pub AreWalks : Layout → CellId → Type 0
AreWalks layout cell = (walk : List LentCall) → Contains (walks_of layout cell) walk ↔ IsWalk (calls_in layout) target_of cell walk

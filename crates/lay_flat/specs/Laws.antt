-- What a flattening reads of a layout: the calls, and the shapes on its layer, of the cells that walks from its cell lead to.
-- Source: Caltech Intermediate Form 2.0, symbol definitions and calls.
use Rattle.std.specs.Prelude.{◌≡◌, ℕ, List}
use Rattle.lay_cells.specs.declared.cell_id.CellId.{CellId}
use Rattle.lay_cells.specs.WalkLists.{IsWalk}
use Rattle.lay_layouts.specs.Layout.{Layout, is_cell}
use Rattle.lay_layouts.specs.Lent.{LentCall, calls_in, shapes_in}
use Rattle.lay_layouts.specs.Sound.{IsSound}
use Rattle.lay_flat.specs.Ends.{end_of, target_of}
use Rattle.lay_flat.specs.Flattening.{flat_of}

-- below the cell two layouts have the same calls, and the same shapes on the layer, wherever a walk of the first ends
pub record HaveSameBelow (l m : Layout) (cell : CellId) (layer : List ℕ) : Type 0 where
  pub there : is_cell l cell ≡ is_cell m cell
  pub calls : (walk : List LentCall) → IsWalk (calls_in l) target_of cell walk
      → calls_in l (end_of cell walk) ≡ calls_in m (end_of cell walk)
  pub shapes : (walk : List LentCall) → IsWalk (calls_in l) target_of cell walk
      → shapes_in l (end_of cell walk) layer ≡ shapes_in m (end_of cell walk) layer

-- so they have the same flattening, or the same refusal, whatever else they hold
abbrev pub FlatteningReadsWhatIsBelow : Type 0
FlatteningReadsWhatIsBelow = (l m : Layout) → IsSound l → IsSound m → (cell : CellId) (layer : List ℕ) → HaveSameBelow l m cell layer
    → flat_of l cell layer ≡ flat_of m cell layer

-- Walks that are listed: where they begin, and their ends.
-- Source: this project's own.
use Rattle.std.specs.Prelude.{◌≡◌, Bool, true, List, Result, Ok, Err, if◌then◌else◌, is_none, refl}
use Rattle.std.specs.Coded.{Coded, code_by, coded×}
use Rattle.std.specs.List.{list_any}
use Rattle.lay_cells.specs.declared.cell_id.CellId.{CellId}
use Rattle.lay_cells.specs.contracts.cell_id.CellId as cell_id
use Rattle.lay_layouts.specs.Layout.{Layout, coded_layout, is_cell}
use Rattle.lay_flat.specs.declared.ends.End.{End}
use Rattle.lay_flat.specs.declared.fault.FlatFault.{FlatFault}
use Rattle.lay_flat.specs.declared.fault.FlatFault.TheVariants.{NoCell}
use Rattle.lay_flat.specs.Flattening.{ends_of, on_success, tested}

-- where walks begin: a cell of a layout
pub record Start : Type 0 where
  pub layout : Layout
  pub cell : CellId

-- it is stored as the pair of both
abbrev pub coded_start : Coded Start
coded_start =
    code_by (Layout × CellId) (coded× coded_layout cell_id.the_row.coded) (λ s. (s.layout, s.cell))
    (λ p. record { layout = p.0; cell = p.1 }) (λ _. refl)

-- the cell, where it is there and its walks pass the test, or the first refusal
unfoldable pub walked : Layout → CellId → Result Start FlatFault
walked layout cell =
    if is_cell layout cell
    then on_success (tested layout cell) (λ _. Ok (record { layout = layout; cell = cell }))
    else Err NoCell

-- the cell is there, its walks passed the test, and have these ends; and that is whether the turn of one is out of range
pub record AreListed (layout : Layout) (cell : CellId) (ends : List End) (outside : Bool) : Type 0 where
  pub there : is_cell layout cell ≡ true
  pub passed : tested layout cell ≡ Ok tt
  pub all : ends ≡ ends_of layout cell
  pub turns : outside ≡ list_any (λ end. is_none end.turn) ends

-- The symbols of a layout that no symbol calls.
use Rattle.std.specs.Prelude.{ℕ, Bool, List, filter, nat_eq, not}
use Rattle.std.specs.List.{list_any}
use Rattle.lay_cells.specs.declared.cell_id.CellId.TheVariants.{Symbol}
use Rattle.lay_layouts.specs.Layout.{Layout}
use Rattle.lay_layouts.specs.Lent.{calls_in}
use Rattle.lay_layouts.specs.SlotOrder.{in_slot_order}

-- a symbol calls the symbol of this number
abbrev pub is_called_by : Layout → ℕ → ℕ → Bool
is_called_by layout number caller = list_any (λ call. nat_eq number call.1) (calls_in layout (Symbol caller))

-- one of the symbols does
abbrev pub is_called : Layout → ℕ → Bool
is_called layout number = list_any (is_called_by layout number) (in_slot_order layout.symbols)

-- the symbols that none calls, in the order of their slots
abbrev pub uncalled_symbols : Layout → List ℕ
uncalled_symbols layout = filter (λ number. not (is_called layout number)) (in_slot_order layout.symbols)

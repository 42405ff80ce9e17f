-- The layout that is written: all that the top cell holds goes into a symbol, which it calls.
-- Source: this project's own; Caltech Intermediate Form 2.0 for symbols and calls.
-- Checked on: of no symbols and two shapes the wrapping symbol is 1; of symbols 4, 2 and 1 it is 3;
-- Top with one plain call of 3 stays, and Top with two such calls, or with one that is mirrored, is
-- wrapped.
use Rattle.std.specs.Prelude.{ℕ, zero, suc, ◌+◌, List, [], ◌∷◌, ◌++◌, length, map, Option, None, Some, if◌then◌else◌}
use Rattle.std.specs.List.{flat_map}
use Rattle.lay_point.specs.Bridges.{bridged}
use Rattle.lay_point.specs.SameTurn.{turn_eq}
use Rattle.lay_point.specs.Turns.{unturned}
use Rattle.lay_cells.specs.declared.cell_id.CellId.{CellId}
use Rattle.lay_cells.specs.declared.cell_id.CellId.TheVariants.{Symbol, Top}
use Rattle.lay_cells.specs.Symbols.{has_symbol}
use Rattle.lay_layouts.specs.declared.id.ItemId.{ItemId}
use Rattle.lay_layouts.specs.declared.item.Item.{Item}
use Rattle.lay_layouts.specs.declared.item.Item.TheVariants.{Placed, Shape}
use Rattle.lay_layouts.specs.Items.{items_in}
use Rattle.lay_layouts.specs.Layout.{Layout}
use Rattle.lay_layouts.specs.LayoutWith.{layout_with}
use Rattle.lay_layouts.specs.SlotOrder.{in_slot_order}

-- a symbol as it is written: its number, and its items in order of their ids
pub record Definition : Type 0 where
  pub number : ℕ
  pub items : List Item

-- what is written: the symbols in order, and the number of the one that the top cell calls
pub record Written : Type 0 where
  pub definitions : List Definition
  pub called : ℕ

abbrev pub entry_item : ItemId × Item → Item
entry_item entry = entry.1

-- the items of a cell, in order of their ids
abbrev pub held_in : Layout → CellId → List Item
held_in layout cell = map entry_item (items_in layout cell)

abbrev pub written_definition : Layout → ℕ → Definition
written_definition layout number = record { number = number; items = held_in layout (Symbol number) }

-- the layout's own symbols, in the order of their slots
abbrev pub own_definitions : Layout → List Definition
own_definitions layout = map (written_definition layout) (in_slot_order layout.symbols)

-- the first of so many numbers, from this one on, that no symbol has, or the one behind them
abbrev pub unused_from : ℕ → ℕ → List ℕ → ℕ
unused_from zero number numbers = number
unused_from (suc count) number numbers = if has_symbol numbers number then unused_from count (number + 1) numbers else number

-- the least positive number that no symbol has: n symbols leave one of 1 to n + 1
abbrev pub least_unused : List ℕ → ℕ
least_unused numbers = unused_from (length numbers) 1 numbers

-- the symbol that these items call, where they are one call with no mirror, turn or shift
abbrev pub plain_target : List Item → Option ℕ
plain_target (Placed cell target turn ∷ []) = if turn_eq turn unturned then Some target else None
plain_target _ = None

-- the top cell's one plain call stays; else its items are in a symbol of this number, which comes last
abbrev pub written_with : List Definition → List Item → ℕ → Option ℕ → Written
written_with definitions top unused (Some target) = record { definitions = definitions; called = target }
written_with definitions top unused None =
    record { definitions = definitions ++ record { number = unused; items = top } ∷ []; called = unused }

-- the symbol that the top cell's items are wrapped in, if they are, and the one that the top cell calls
abbrev pub wrapping : Layout → Written
wrapping layout =
    written_with [] (held_in layout Top) (least_unused (in_slot_order layout.symbols)) (plain_target (held_in layout Top))

-- what is written of a layout
unfoldable pub written : Layout → Written
written layout =
    written_with (own_definitions layout) (held_in layout Top) (least_unused (in_slot_order layout.symbols))
    (plain_target (held_in layout Top))

-- an item as it is written in the symbol of this number: a shape with the one path of its rings
abbrev pub as_written : ℕ → Item → Item
as_written number (Shape cell layer rings) = Shape (Symbol number) layer (bridged rings ∷ [])
as_written number (Placed cell target turn) = Placed (Symbol number) target turn

-- all items in the order in which they are written: symbol by symbol, then the top cell's call
abbrev pub items_written : Written → List Item
items_written file =
    flat_map (λ definition. map (as_written definition.number) definition.items) file.definitions
    ++ Placed Top file.called unturned ∷ []

-- the layout that is written of a layout
abbrev pub wrap : Layout → Layout
wrap layout = layout_with (map (λ definition. definition.number) (written layout).definitions) (items_written (written layout))

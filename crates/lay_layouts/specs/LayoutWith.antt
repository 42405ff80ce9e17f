-- The layout of a list of symbols and a list of items.
-- Source: this project's own.
-- Checked on: the symbols 9, 2 and two items give 9 the place 1, 2 the place 2, and the items 0.0.1
-- and 0.0.2.
use Rattle.std.specs.Prelude.{ℕ, ◌+◌, List, [], ◌∷◌}
use Rattle.lay_layouts.specs.declared.id.ItemId.{ItemId}
use Rattle.lay_layouts.specs.declared.item.Item.{Item}
use Rattle.lay_layouts.specs.declared.slot.CellSlot.{CellSlot}
use Rattle.lay_layouts.specs.declared.slot.CellSlot.TheVariants.{Base}
use Rattle.lay_layouts.specs.Layout.{Layout, map_of_items, symbols_of}

-- the symbols of these numbers with slots of a text, from this place on
abbrev pub placed_from : ℕ → List ℕ → List (ℕ × CellSlot)
placed_from place [] = []
placed_from place (number ∷ numbers) = (number, Base place) ∷ placed_from (place + 1) numbers

-- the id of item q of a text
abbrev pub text_id : ℕ → ItemId
text_id seq = record { session = 0; txn = 0; seq = seq }

-- the items under such ids, from this number on
abbrev pub numbered_from : ℕ → List Item → List (ItemId × Item)
numbered_from seq [] = []
numbered_from seq (item ∷ items) = (text_id seq, item) ∷ numbered_from (seq + 1) items

-- the symbols of these numbers in this order, and item q under 0.0.q
abbrev pub layout_with : List ℕ → List Item → Layout
layout_with numbers items = record { symbols = symbols_of (placed_from 1 numbers); items = map_of_items (numbered_from 1 items) }

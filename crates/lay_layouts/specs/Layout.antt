-- Layouts: symbols and items.
-- Source: Caltech Intermediate Form 2.0 has symbols by number and the elements of each; slots, items and
-- their ids are this project's own.
-- Checked on: of two items one replaced and one taken out leaves the one replaced; taking out an id
-- that isn't there changes nothing; symbol 9 is no cell.
use Rattle.std.specs.Prelude.{◌≡◌, ℕ, List, [], ◌∷◌, Option, None, Some, Bool, true, is_some, refl}
use Rattle.std.specs.declared.cmp.Ordering.{Ordering}
use Rattle.std.specs.declared.cmp.Ordering.TheVariants.{Less}
use Rattle.std.specs.Ordering.{nat_cmp}
use Rattle.std.specs.FinMap as map
use Rattle.std.specs.FinMap.{FinMap}
use Rattle.std.specs.Coded.{Coded, code_by, coded×, coded_ℕ}
use Rattle.lay_cells.specs.declared.cell_id.CellId.{CellId}
use Rattle.lay_cells.specs.declared.cell_id.CellId.TheVariants.{Top, Symbol}
use Rattle.lay_layouts.specs.declared.id.ItemId.{ItemId}
use Rattle.lay_layouts.specs.declared.item.Item.{Item}
use Rattle.lay_layouts.specs.declared.slot.CellSlot.{CellSlot}
use Rattle.lay_layouts.specs.contracts.item.Item as item
use Rattle.lay_layouts.specs.contracts.slot.CellSlot as slot
use Rattle.lay_layouts.specs.Ids.{coded_id, id_cmp}

-- the symbols by their numbers, and the items by their ids
pub record Layout : Type 0 where
  pub symbols : FinMap nat_cmp CellSlot
  pub items : FinMap id_cmp Item

-- a layout is stored as its two maps
abbrev pub coded_layout : Coded Layout
coded_layout =
    code_by (FinMap nat_cmp CellSlot × FinMap id_cmp Item) (coded× (map.code coded_ℕ slot.the_row.coded)
    (map.code coded_id item.the_row.coded))
    (λ l. (l.symbols, l.items)) (λ p. record { symbols = p.0; items = p.1 }) (λ _. refl)

-- no symbol and no item
abbrev pub no_items : Layout
no_items = record { symbols = map.empty; items = map.empty }

-- the symbols of a list of numbers and slots
abbrev pub symbols_of : List (ℕ × CellSlot) → FinMap nat_cmp CellSlot
symbols_of entries = map.from_entries entries

-- the items of a list of ids and items
abbrev pub map_of_items : List (ItemId × Item) → FinMap id_cmp Item
map_of_items entries = map.from_entries entries

-- the item of this id
abbrev pub item_at : Layout → ItemId → Option Item
item_at layout id = map.get layout.items id

-- the top cell is there, and each symbol
abbrev pub is_cell : Layout → CellId → Bool
is_cell layout Top = true
is_cell layout (Symbol number) = is_some (map.get layout.symbols number)

-- a write of an item: under the id stands this item from then on, or none
abbrev pub Write : Type 0
Write = ItemId × Option Item

-- a write of a symbol: it has this slot from then on, or is there no more
abbrev pub SymbolWrite : Type 0
SymbolWrite = ℕ × Option CellSlot

-- what is written: items and symbols
pub record Writes : Type 0 where
  pub items : List Write
  pub symbols : List SymbolWrite

-- a map after a write
abbrev pub put : {K X : Type 0} {R : K → K → Ordering} → FinMap R X → K → Option X → FinMap R X
put entries key None = map.remove entries key
put entries key (Some value) = map.insert entries key value

-- a map after these writes, the first of them first
abbrev pub put_all : {K X : Type 0} {R : K → K → Ordering} → FinMap R X → List (K × Option X) → FinMap R X
put_all entries [] = entries
put_all entries (write ∷ writes) = put_all (put entries write.0 write.1) writes

-- the layout after these writes
abbrev pub changed : Layout → Writes → Layout
changed layout writes = record { symbols = put_all layout.symbols writes.symbols; items = put_all layout.items writes.items }

-- each key is above the one before it
abbrev pub AreRising : {K X : Type 0} → (K → K → Ordering) → List (K × X) → Type 0
AreRising cmp [] = Unit {0}
AreRising cmp (w ∷ []) = Unit {0}
AreRising cmp (w ∷ v ∷ writes) = (cmp w.0 v.0 ≡ Less) × AreRising cmp (v ∷ writes)

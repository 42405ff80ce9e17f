-- Items that come one after another under the ids of a text.
use Rattle.std.specs.Prelude.{◌≡◌, ℕ, List, length, map}
use Rattle.lay_layouts.specs.declared.id.ItemId.{ItemId}
use Rattle.lay_layouts.specs.declared.item.Item.{Item}
use Rattle.lay_layouts.specs.LayoutWith.{numbered_from}

-- the items of these entries
abbrev pub items_under : List (ItemId × Item) → List Item
items_under entries = map (λ entry. entry.1) entries

-- so many entries, the q-th of which has the id 0.0.q
pub record AreNumbered (entries : List (ItemId × Item)) (count : ℕ) : Type 0 where
  pub ids : entries ≡ numbered_from 1 (items_under entries)
  pub all : length entries ≡ count

-- What is written is touched.
use Rattle.std.specs.Prelude.{◌≡◌, ℕ, Bool, true, false, List}
use Rattle.std.specs.FinMap as map
use Rattle.std.specs.FinSet as set
use Rattle.std.specs.List.{AllByRecursion, list_any}
use Rattle.std.specs.Ordering.{eq_by_cmp}
use Rattle.lay_layouts.specs.declared.id.ItemId.{ItemId}
use Rattle.lay_layouts.specs.Layout.{Layout, item_at}
use Rattle.txn_commands.specs.declared.element.Element.{Element}
use Rattle.txn_commands.specs.declared.element.Element.TheVariants.{Cell, Item}
use Rattle.txn_commands.specs.Acts.{Act}
use Rattle.txn_commands.specs.Elements.{Touched, element_cmp}

-- the element is one of these
abbrev pub has : Element → List Element → Bool
has e elements = list_any (eq_by_cmp element_cmp e) elements

-- what an act writes is among what it touches
pub record IsCovered (act : Act) : Type 0 where
  pub items : AllByRecursion (λ w. has (Item w.0) act.elements ≡ true) act.items
  pub symbols : AllByRecursion (λ w. has (Cell w.0) act.elements ≡ true) act.symbols

-- items and symbols that aren't touched stay as they are
pub record LeavesAlone (old new : Layout) (touched : Touched) : Type 0 where
  pub items : (id : ItemId) → set.contains touched (Item id) ≡ false → item_at new id ≡ item_at old id
  pub symbols : (number : ℕ) → set.contains touched (Cell number) ≡ false → map.get new.symbols number ≡ map.get old.symbols number

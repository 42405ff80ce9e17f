-- A layout has the same as itself in each element.
use Rattle.std.proofs.Common.{◌≡◌, true, List, [], ◌∷◌, refl}
use Rattle.std.specs.Cmp.Lexicographic.{pointwise}
use Rattle.std.specs.FinMap.{entries, get}
use Rattle.std.specs.FinSet as set
use Rattle.std.specs.List.{list_all}
use Rattle.lay_layouts.specs.declared.id.ItemId.{ItemId}
use Rattle.lay_layouts.specs.declared.item.Item as item
use Rattle.lay_layouts.specs.Layout.{Layout, item_at}
use Rattle.lay_layouts.specs.Same.{item_eq-Decides, option_item_eq-Decides}
use Rattle.lay_layouts.specs.SameLayout.{id_eq-Decides}
use Rattle.txn_commands.specs.declared.element.Element.{Element}
use Rattle.txn_commands.specs.declared.element.Element.TheVariants.{Calls, Cell, Content, Item, Layer, Uses}
use Rattle.txn_commands.specs.Compared.{agrees, entry_eq, lying, same_in}
use Rattle.txn_commands.specs.Elements.{Touched}
use Rattle.txn_commands.proofs.Steps.{option_slot_eq-Decides}

same_entries : (xs : List (ItemId × item.Item)) → pointwise entry_eq xs xs ≡ true
same_entries [] = refl
same_entries (x ∷ xs) = rw ((id_eq-Decides x.0 x.0).1 refl, (item_eq-Decides x.1 x.1).1 refl) (same_entries xs)

same-itself : (l : Layout) (e : Element) → same_in l l e ≡ true
same-itself l (Item id) = (option_item_eq-Decides (item_at l id) (item_at l id)).1 refl
same-itself l (Layer c x) = same_entries (lying (Layer c x) (entries l.items))
same-itself l (Calls c) = same_entries (lying (Calls c) (entries l.items))
same-itself l (Cell n) = (option_slot_eq-Decides (get l.symbols n) (get l.symbols n)).1 refl
same-itself l (Content n) = same_entries (lying (Content n) (entries l.items))
same-itself l (Uses n) = same_entries (lying (Uses n) (entries l.items))

-- a layout agrees with itself on every footprint
pub agrees-itself : (l : Layout) (touched : Touched) → agrees l l touched ≡ true
unfolding agrees
agrees-itself l touched = all (set.items touched) where
  all : (es : List Element) → list_all (same_in l l) es ≡ true
  all [] = refl
  all (e ∷ es) = rw (same-itself l e) (all es)

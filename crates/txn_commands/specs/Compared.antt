-- Whether two layouts have the same in an element, and in each element of a footprint.
use Rattle.std.specs.Prelude.{List, Bool, ◌&&◌, filter}
use Rattle.std.specs.Cmp.Lexicographic.{pointwise}
use Rattle.std.specs.FinMap as map
use Rattle.std.specs.FinSet as set
use Rattle.std.specs.List.{list_all}
use Rattle.lay_layouts.specs.declared.id.ItemId.{ItemId}
use Rattle.lay_layouts.specs.declared.item.Item as items
use Rattle.lay_layouts.specs.Layout.{Layout, item_at}
use Rattle.lay_layouts.specs.Same.{item_eq, option_item_eq}
use Rattle.lay_layouts.specs.SameLayout.{id_eq}
use Rattle.txn_commands.specs.declared.element.Element.{Element}
use Rattle.txn_commands.specs.declared.element.Element.TheVariants.{Calls, Cell, Content, Item, Layer, Uses}
use Rattle.txn_commands.specs.Elements.{Touched}
use Rattle.txn_commands.specs.Lies.{lies}
use Rattle.txn_commands.specs.Records.{option_slot_eq}

-- those of these items that lie in the element
abbrev pub lying : Element → List (ItemId × items.Item) → List (ItemId × items.Item)
lying e entries = filter (λ entry. lies e entry.0 entry.1) entries

-- the same item under the same id
abbrev pub entry_eq : ItemId × items.Item → ItemId × items.Item → Bool
entry_eq a b = id_eq a.0 b.0 && item_eq a.1 b.1

-- the same of two layouts' items lie in the element
abbrev pub same_lying : Element → Layout → Layout → Bool
same_lying e l m = pointwise entry_eq (lying e (map.entries l.items)) (lying e (map.entries m.items))

-- two layouts have the same item of this id, the same shapes of the cell on the layer, the same calls in the cell, the
-- same slot of the symbol, the same items in the symbol, the same calls of the symbol
abbrev pub same_in : Layout → Layout → Element → Bool
same_in l m (Item id) = option_item_eq (item_at l id) (item_at m id)
same_in l m (Layer cell layer) = same_lying (Layer cell layer) l m
same_in l m (Calls cell) = same_lying (Calls cell) l m
same_in l m (Cell number) = option_slot_eq (map.get l.symbols number) (map.get m.symbols number)
same_in l m (Content number) = same_lying (Content number) l m
same_in l m (Uses number) = same_lying (Uses number) l m

-- they have the same in each element of the footprint
unfoldable pub agrees : Layout → Layout → Touched → Bool
agrees l m touched = list_all (same_in l m) (set.items touched)

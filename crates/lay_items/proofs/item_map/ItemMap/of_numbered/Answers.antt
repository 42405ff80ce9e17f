use Rattle.std.proofs.Common.{List, subst, sym}
use Rattle.std.specs.List.Sorted.{IsStrictlySortedBy}
use Rattle.std.specs.Map.{keys_of}
use Rattle.lay_layouts.specs.declared.id.ItemId.{ItemId}
use Rattle.lay_layouts.specs.declared.item.Item.{Item}
use Rattle.lay_layouts.specs.Ids.{id_cmp}
use Rattle.lay_items.proofs.NumberedLemmas.{numbered_sorted}
use Rattle.lay_items.proofs.item_map.ItemMap.of_numbered.Goals as goal

-- numbers rise
pub of-requires : goal.of-requires
of-requires c =
    subst (λ (es : List (ItemId × Item)). IsStrictlySortedBy id_cmp (keys_of es)) (sym c.entries.ensures) (numbered_sorted 1 c.args.items)

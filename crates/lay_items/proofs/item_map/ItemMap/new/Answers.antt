use Rattle.std.proofs.Common.{List, sym, subst}
use Rattle.lay_layouts.specs.declared.id.ItemId.{ItemId}
use Rattle.lay_layouts.specs.declared.item.Item.{Item}
use Rattle.lay_items.specs.Runs.{AreHeld}
use Rattle.lay_items.proofs.item_map.ItemMap.new.Goals as goal

pub invariant_of-result : goal.invariant_of-result
invariant_of-result c =
    subst (λ (es : List (ItemId × Item)). AreHeld es c.new-2.result.cells c.new-2.result.layers) (sym c.new.ensures) c.new-2.ensures

use Rattle.std.proofs.Common.{◌∙◌, ap, sym}
use Rattle.std.specs.FinMap as map
use Rattle.std.specs.FinMap.{FinMap, get-from_entries}
use Rattle.lay_layouts.specs.declared.item.Item.{Item}
use Rattle.lay_layouts.specs.IdOrder.{ids_total}
use Rattle.lay_layouts.specs.Ids.{id_cmp}
use Rattle.lay_items.proofs.item_map.ItemMap.get.Goals as goal

pub returns : goal.returns
returns c =
    c.get.ensures ∙ sym (get-from_entries ids_total c.self.inside.items c.args.id)
    ∙ ap (λ (m : FinMap id_cmp Item). map.get m c.args.id) c.self.view_is

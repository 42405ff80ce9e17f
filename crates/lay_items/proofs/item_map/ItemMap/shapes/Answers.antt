use Rattle.std.proofs.Common.{◌∙◌, ap, sym}
use Rattle.std.specs.FinMap.{FinMap, entries}
use Rattle.lay_layouts.specs.declared.item.Item.{Item}
use Rattle.lay_layouts.specs.IdOrder.{ids_total}
use Rattle.lay_layouts.specs.Ids.{id_cmp}
use Rattle.lay_layouts.specs.Items.{standing_in}
use Rattle.lay_layouts.specs.Lent.{shapes_among}
use Rattle.lay_layouts.proofs.MapLemmas.{entries_again}
use Rattle.lay_items.proofs.item_map.ItemMap.shapes.Goals as goal

pub returns : goal.returns
returns c =
    c.new.ensures
    ∙ ap (λ es. shapes_among c.args.layer (standing_in c.args.cell es))
    (sym (entries_again id_cmp ids_total c.self.inside.items c.self.invariant.ids))
    ∙ ap (λ (m : FinMap id_cmp Item). shapes_among c.args.layer (standing_in c.args.cell (entries m))) c.self.view_is

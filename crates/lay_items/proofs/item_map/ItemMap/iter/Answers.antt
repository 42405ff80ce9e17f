use Rattle.std.proofs.Common.{◌∙◌, ap, sym}
use Rattle.std.specs.FinMap.{entries}
use Rattle.lay_layouts.specs.IdOrder.{ids_total}
use Rattle.lay_layouts.specs.Ids.{id_cmp}
use Rattle.lay_layouts.proofs.MapLemmas.{entries_again}
use Rattle.lay_items.proofs.item_map.ItemMap.iter.Goals as goal

pub returns : goal.returns
returns c =
    c.new.ensures ∙ c.iter.ensures.entries ∙ sym (entries_again id_cmp ids_total c.self.inside.items c.self.invariant.ids)
    ∙ ap entries c.self.view_is

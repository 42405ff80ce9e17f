use Rattle.std.proofs.Common.{◌∙◌, ap, sym, length}
use Rattle.std.specs.FinMap.{from_entries, len, len-entries}
use Rattle.lay_layouts.specs.IdOrder.{ids_total}
use Rattle.lay_layouts.specs.Ids.{id_cmp}
use Rattle.lay_layouts.proofs.MapLemmas.{entries_again}
use Rattle.lay_items.proofs.item_map.ItemMap.len.Goals as goal

pub returns : goal.returns
returns c =
    c.len.ensures.count ∙
    sym (ap length (entries_again id_cmp ids_total c.self.inside.items c.self.invariant.ids))
    ∙ sym (len-entries (from_entries {R = id_cmp} c.self.inside.items)) ∙ ap len c.self.view_is

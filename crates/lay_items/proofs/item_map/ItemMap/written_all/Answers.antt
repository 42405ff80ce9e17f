use Rattle.std.proofs.Common.{◌∙◌, ap}
use Rattle.std.specs.FinMap.{FinMap}
use Rattle.lay_layouts.specs.declared.item.Item.{Item}
use Rattle.lay_layouts.specs.IdOrder.{ids_exact, ids_total}
use Rattle.lay_layouts.specs.Ids.{id_cmp}
use Rattle.lay_layouts.specs.Layout.{map_of_items, put_all}
use Rattle.lay_layouts.proofs.PutLemmas.{put_all-written}
use Rattle.lay_items.proofs.RisingLemmas.{rising_sorted}
use Rattle.lay_items.proofs.item_map.ItemMap.written_all.Goals as goal

pub with_rising-requires : goal.with_rising-requires
with_rising-requires c = rising_sorted c.args.writes.now c.requires

pub with_all-requires-clause-rising : goal.with_all-requires-clause-rising
with_all-requires-clause-rising c = rising_sorted c.args.writes.now c.requires

pub returns : goal.returns
returns c =
    ap map_of_items c.in_ok-items.ensures.entries ∙ put_all-written ids_total ids_exact c.self.inside.items c.args.writes.now
    ∙ ap (λ (m : FinMap id_cmp Item). put_all m c.args.writes.now) c.self.view_is

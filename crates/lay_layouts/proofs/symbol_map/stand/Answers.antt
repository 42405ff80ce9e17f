use Rattle.std.proofs.Common.{◌∙◌, ap}
use Rattle.std.specs.FinMap.{from_entries, insert}
use Rattle.lay_layouts.specs.SlotOrder.{standing_cmp}
use Rattle.lay_layouts.proofs.MapLemmas.{one_inserted}
use Rattle.lay_layouts.proofs.SlotLemmas.{standings_exact, standings_total}
use Rattle.lay_layouts.proofs.symbol_map.stand.Goals as goal

pub returns : goal.returns
returns c =
    one_inserted standings_total standings_exact c.args.standings.now.entries c.insert.new.self.entries (c.rank.result, c.args.number)
    c.args.number c.in_ok-insert.ensures.updates.0
    ∙ ap (λ r. insert (from_entries {R = standing_cmp} c.args.standings.now.entries) (r, c.args.number) c.args.number) c.rank.ensures

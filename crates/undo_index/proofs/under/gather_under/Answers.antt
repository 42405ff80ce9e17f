use Rattle.lay_layouts.specs.IdOrder.{ids_exact, ids_total}
use Rattle.undo_index.proofs.UnderLemmas.{forward}
use Rattle.undo_index.proofs.under.gather_under.Goals as goal

pub range-pair-items-requires : goal.range-pair-items-requires
range-pair-items-requires c = forward ids_total ids_exact c.args.id c.args.below

use Rattle.undo_index.proofs.ApartLemmas.{order_has, order_rises}
use Rattle.undo_index.proofs.places.Places.of.Goals as goal

pub invariant_of-result : goal.invariant_of-result
invariant_of-result c =
    order_rises c.in_order-kept.result.items c.dedup.new.self.items c.in_order-kept.ensures.sorted c.dedup.ensures.filtered

pub returns : goal.returns
returns c =
    order_has c.args.places.items c.in_order-kept.result.items c.dedup.new.self.items c.in_order-kept.ensures.permutation
    c.dedup.ensures.filtered

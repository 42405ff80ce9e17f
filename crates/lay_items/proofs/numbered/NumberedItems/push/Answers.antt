use Rattle.lay_items.proofs.NumberedLemmas.{numbered-more}
use Rattle.lay_items.proofs.numbered.NumberedItems.push.Goals as goal

pub invariant_of-self : goal.invariant_of-self
invariant_of-self c =
    numbered-more c.self.inside.items c.push.new.self c.self.inside.count c.in_ok-count.count c.text_id.result c.args.item
    c.self.invariant c.in_ok-count.ensures c.text_id.ensures c.in-Ok.ensures

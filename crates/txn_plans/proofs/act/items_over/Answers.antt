use Rattle.std.proofs.Common.{◌≡◌, ◌∙◌, List, [], ap, drop, rules}
use Rattle.lay_layouts.specs.Layout.{Write}
use Rattle.txn_commands.specs.Writing.{rewritten}
use Rattle.txn_plans.proofs.RisingWrites.{rewritten_parts}
use Rattle.txn_plans.proofs.act.items_over.Goals as goal

-- the writes that are left
pub loop-rest-preserved : goal.loop-rest-preserved
loop-rest-preserved c =
    let rest = c.loop-rest.rest.now in
    let count = c.rising_len.result in
    let made : c.in_ok-new-2.new ≡ rewritten c.loop-rest.new c.split_at.result.0.now [] = search rules in
    (λ i. rewritten (made i) (c.split_at.ensures.back i) [])
    ∙ ap (λ (front : List Write). rewritten (rewritten c.loop-rest.new front []) (drop count rest) []) c.split_at.ensures.front
    ∙ rewritten_parts c.loop-rest.new count rest ∙ c.loop-rest.invariant

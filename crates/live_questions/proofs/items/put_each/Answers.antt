use Rattle.std.proofs.Common.{◌≡◌, ◌∷◌, ap, rules}
use Rattle.std.specs.List.{flat_map}
use Rattle.live_questions.specs.Answers.{item_line}
use Rattle.cif_write.proofs.BegunLemmas.{Begun-then}
use Rattle.live_questions.proofs.items.put_each.Goals as goal

pub loop-id-preserved : goal.loop-id-preserved
loop-id-preserved g c =
    let first : c.loop-id.id-iterator ≡ (c.in-Some.id, c.in-Some.item.now) ∷ c.next.new.self = search rules in
    Begun-then _ c.loop-id.invariant c.put_item.ensures (ap (flat_map item_line) first)

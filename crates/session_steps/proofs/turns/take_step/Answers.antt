use Rattle.std.proofs.Common.{◌≡◌, ◌-◌, ◌<◌, [], length, slice_index_or, rules, ◌∙◌}
use Rattle.std.proofs.lemmas.List.{get_or_default}
use Rattle.session_steps.proofs.TurnLemmas.{took}
use Rattle.session_steps.proofs.turns.take_step.Goals as goal

pub returns : goal.returns
returns c =
    let at : c.saturating_sub-place.result ≡ c.args.session - 1 = search rules in
    let inside : c.saturating_sub-place.result < length c.args.left.now.items = search rules in
    let is : c.index_mut.result.now ≡ slice_index_or c.args.left.now.items c.saturating_sub-place.result [] =
    c.index_mut.ensures.value ∙ get_or_default c.args.left.now.items c.saturating_sub-place.result c.index_mut.result.now [] inside in
    λ more. took c.args.session c.saturating_sub-place.result c.args.left.now.items c.index_mut.result.now c.next.new.self
    c.next.result more at is
    c.next.ensures

use Rattle.std.proofs.Common.{◌∙◌}
use Rattle.face_rings.specs.Joining.{AreCoversJoined, AreJoinedUp, Grows}
use Rattle.face_rings.proofs.CoverLemmas.{covers_joined}
use Rattle.face_rings.proofs.JoinLemmas.{grows_on, on_both, on_ok}
use Rattle.face_rings.proofs.covering.join_covering.Goals as goal

pub returns-clause-grows : goal.returns-clause-grows
returns-clause-grows c =
    let boxes = c.args.boxes.now in
    let old = c.args.parents.now in
    let mid = c.join_down.new.parents in
    let new = c.join_up.new.parents in
    on_ok c.join_up.result (Grows boxes mid new) (Grows boxes old new) (grows_on boxes old mid new c.in_ok-join_down.ensures.grows)
    c.join_up.ensures.grows

pub returns-clause-joined : goal.returns-clause-joined
returns-clause-joined c =
    let boxes = c.args.boxes.now in
    let s = c.args.stretch in
    let numbers = c.args.numbers.now in
    let mid = c.join_down.new.parents in
    let new = c.join_up.new.parents in
    on_both c.join_up.result (Grows boxes mid new) (AreJoinedUp boxes s numbers new) (AreCoversJoined boxes s numbers new)
    (λ more up. covers_joined boxes s numbers mid new (c.in_ok-join_down.ensures.grows.each ∙ c.requires.each) more
    c.in_ok-join_down.ensures.joined up) c.join_up.ensures.grows c.join_up.ensures.joined

use Rattle.face_rings.proofs.JoinLemmas.{finest_of_roots}
use Rattle.face_rings.proofs.joining.find_heads.Goals as goal

pub returns : goal.returns
returns c =
    finest_of_roots c.args.boxes.now c.args.parents.now c.join_all.new.parents c.settle.new.parents c.requires.each c.requires.lone
    c.in_ok-numbers.numbers.items c.in_ok-numbers.ensures.all c.in_ok-join_all.ensures c.settle.auto.parents c.settle.ensures

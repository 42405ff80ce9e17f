use Rattle.std.proofs.Common.{rules, subst}
use Rattle.lay_oriented.specs.Net.{AreJoinedRings}
use Rattle.lay_oriented.proofs.OrientedLemmas.{oriented_joined}
use Rattle.lay_oriented.proofs.orienting.in_one.Goals as goal

pub returns-in-Some : goal.returns-in-Some
returns-in-Some c =
    let one : AreJoinedRings c.in-Some.one.items c.as_slice.result.now = search rules in
    oriented_joined c.args._rings.now c.args.new.items c.in-Some.one.items c.requires
    (subst (AreJoinedRings c.in-Some.one.items) c.as_slice.ensures.value one)

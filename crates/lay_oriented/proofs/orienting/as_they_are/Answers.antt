use Rattle.std.proofs.Common.{rules}
use Rattle.lay_oriented.specs.Net.{AreJoinedRings}
use Rattle.lay_oriented.proofs.OrientedLemmas.{oriented_joined}
use Rattle.lay_oriented.proofs.orienting.as_they_are.Goals as goal

pub returns-in-Some : goal.returns-in-Some
returns-in-Some c =
    let one : AreJoinedRings c.in-Some.one.items c.args.rings.now = search rules in
    oriented_joined c.args.rings.now c.args.rings.now c.in-Some.one.items c.requires one

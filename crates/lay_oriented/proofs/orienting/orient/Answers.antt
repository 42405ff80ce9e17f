use Rattle.std.proofs.Common.{◌≡◌, refl, true, rules}
use Rattle.lay_oriented.proofs.OrientedLemmas.{oriented_by_once}
use Rattle.lay_oriented.proofs.orienting.orient.Goals as goal

pub as_they_are-requires : goal.as_they_are-requires
as_they_are-requires c =
    let flag : c.in_ok-wind_once.field-0 ≡ true = search rules in
    oriented_by_once c.args.rings.now c.args.rings.now c.are_rings.ensures (c.in_ok-wind_once.ensures flag) (λ test either. refl)

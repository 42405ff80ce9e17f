use Rattle.snap_pixels.proofs.RoundLemmas.{IsNearest-quotient}
use Rattle.snap_pixels.proofs.rounding.nearest.Goals as goal

pub overflow_cast-result : goal.overflow_cast-result
overflow_cast-result c =
    let r = c.requires in
    (IsNearest-quotient c.args.place c.args.scale c.div_euclid.result r.whole r.small r.low r.high c.div_euclid.ensures).fits

pub returns : goal.returns
returns c =
    let r = c.requires in
    (IsNearest-quotient c.args.place c.args.scale c.div_euclid.result r.whole r.small r.low r.high c.div_euclid.ensures).rounded

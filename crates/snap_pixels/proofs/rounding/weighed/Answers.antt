use Rattle.std.proofs.Common.{arith}
use Rattle.std.proofs.lemmas.Int.{ints}
use Rattle.snap_pixels.proofs.RoundLemmas.{IsWeighed-product}
use Rattle.snap_pixels.proofs.rounding.weighed.Goals as goal

pub returns : goal.returns
returns c =
    let r = c.requires in
    let w = IsWeighed-product c.args.coordinate c.from.result c.args.weight (omega (arith, ints)) c.ranges.coordinate r.whole r.small in
    record { value = w.value; low = w.low; high = w.high }

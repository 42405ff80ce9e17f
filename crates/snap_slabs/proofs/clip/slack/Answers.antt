use Rattle.std.proofs.Common.{arith}
use Rattle.std.proofs.lemmas.Int.{ints}
use Rattle.snap_slabs.proofs.clip.slack.Goals as goal

pub returns : goal.returns
returns c =
    let d = c.distance.ensures in
    let e = c.distance-2.ensures in
    record {
      up_up = omega (arith, ints, d.up, d.low, d.high, e.up, e.low, e.high, c.from.ensures);
      up_down = omega (arith, ints, d.up, d.low, d.high, e.down, e.low, e.high, c.from.ensures);
      down_up = omega (arith, ints, d.down, d.low, d.high, e.up, e.low, e.high, c.from.ensures);
      down_down = omega (arith, ints, d.down, d.low, d.high, e.down, e.low, e.high, c.from.ensures);
    }

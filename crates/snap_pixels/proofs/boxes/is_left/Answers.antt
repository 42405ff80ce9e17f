use Rattle.std.proofs.Common.{◌<ℤ◌, arith}
use Rattle.std.proofs.lemmas.Int.{ints}
use Rattle.snap_pixels.proofs.boxes.is_left.Goals as goal

pub returns : goal.returns
returns c = λ e.
    let lt : c.max.result <ℤ c.min.result = grind (arith, ints) in
    let m = c.max.ensures in
    let n = c.min.ensures in (
      omega (arith, ints, m.self_bound, n.self_bound),
      omega (arith, ints, m.self_bound, n.other_bound),
      omega (arith, ints, m.other_bound, n.self_bound),
      omega (arith, ints, m.other_bound, n.other_bound),
    )

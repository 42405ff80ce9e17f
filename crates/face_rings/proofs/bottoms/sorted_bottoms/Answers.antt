use Rattle.std.proofs.Common.{◌≡◌, length, arith}
use Rattle.face_rings.proofs.BottomLemmas.{are_bottoms}
use Rattle.face_rings.proofs.bottoms.sorted_bottoms.Goals as goal

pub returns : goal.returns
returns c =
    let boxes = c.args.boxes.now in
    let all = c.loop-number.bottoms.items in
    let each : length all ≡ length boxes = omega (arith, c.loop-number.invariant.0, c.loop-number-test.false, c.loop-number.invariant.2) in
    are_bottoms boxes all c.sort_unstable.new.self.items each
    (λ k d lt. c.loop-number.invariant.1 k d (omega (arith, each, c.loop-number.invariant.0))) c.sort_unstable.ensures.permutation
    c.sort_unstable.ensures.sorted

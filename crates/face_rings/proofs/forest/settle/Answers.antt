use Rattle.std.proofs.Common.{refl, arith, get_or}
use Rattle.std.proofs.Math.ListN.{length-set}
use Rattle.face_rings.proofs.ForestLemmas.{settled_next}
use Rattle.face_rings.proofs.forest.settle.Goals as goal

pub loop-number-preserved : goal.loop-number-preserved
loop-number-preserved c =
    let now = c.loop-number.parents in
    let n = c.loop-number.number in
    let x = get_or now (get_or now n 0) 0 in
    settled_next c.args.parents.now now _ n x c.requires c.loop-number.invariant
    (omega (arith, c.loop-number-test.true, c.loop-number.invariant.each, c.loop-number.auto.parents)) (length-set now n x) refl refl

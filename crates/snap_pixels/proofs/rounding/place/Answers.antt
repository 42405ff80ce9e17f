use Rattle.std.proofs.Common.{arith, w32}
use Rattle.std.proofs.lemmas.Int.{ints, to_z-of_z}
use Rattle.snap_pixels.proofs.RoundLemmas.{IsPlace-sum}
use Rattle.snap_pixels.proofs.rounding.place.Goals as goal

pub overflow_add-result : goal.overflow_add-result
overflow_add-result c =
    let p = c.weighed.ensures in
    let q = c.weighed-2.ensures in
    let r = c.requires in
    (IsPlace-sum c.args.from c.args.to c.args.scale c.args.part _ _ c.weighed.result _ _ c.weighed-2.result
    (record { value = p.value; low = p.low; high = p.high }) (record { value = q.value; low = q.low; high = q.high })
    (to_z-of_z w32 c.args.from c.ranges.from) (omega (arith, ints)) (to_z-of_z w32 c.args.to c.ranges.to) (omega (arith, ints))
    r.fraction.low r.fraction.high r.small).fits

pub returns : goal.returns
returns c =
    let p = c.weighed.ensures in
    let q = c.weighed-2.ensures in
    let r = c.requires in
    let s = IsPlace-sum c.args.from c.args.to c.args.scale c.args.part _ _ c.weighed.result _ _ c.weighed-2.result
    (record { value = p.value; low = p.low; high = p.high }) (record { value = q.value; low = q.low; high = q.high })
    (to_z-of_z w32 c.args.from c.ranges.from) (omega (arith, ints)) (to_z-of_z w32 c.args.to c.ranges.to) (omega (arith, ints))
    r.fraction.low r.fraction.high r.small in
    record { value = s.value; low = s.low; high = s.high }

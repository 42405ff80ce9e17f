use Rattle.std.proofs.Common.{◌≡◌, ◌*ℤ◌, arith}
use Rattle.std.proofs.lemmas.Int.{ints}
use Rattle.face_rows.proofs.ProductLemmas.{product_is, weighed_is}
use Rattle.face_rows.proofs.crossing.weighed.Goals as goal

pub overflow_add-result : goal.overflow_add-result
overflow_add-result c = omega (arith, ints, c.scaled.ensures.low, c.scaled.ensures.high, c.scaled-2.ensures.low, c.scaled-2.ensures.high)

pub returns : goal.returns
returns c =
    let r = c.requires in
    let first : c.scaled.result ≡ c.args.first_weight *ℤ c.args.first =
    product_is c.args.first_weight c.args.first c.from.result _ c.ranges.first_weight (omega (arith, ints))
    (omega (arith, ints)) c.scaled.ensures.value in
    let second : c.scaled-2.result ≡ c.args.second_weight *ℤ c.args.second =
    product_is c.args.second_weight c.args.second c.from-2.result _ c.ranges.second_weight (omega (arith, ints)) (omega (arith, ints))
    c.scaled-2.ensures.value in
    let w = weighed_is c.args.first_weight c.args.first c.args.second_weight c.args.second c.scaled.result c.scaled-2.result
    r.first r.first_small r.second r.second_small c.ranges.first c.ranges.second first second in
    record { value = w.value; low = w.low; high = w.high }

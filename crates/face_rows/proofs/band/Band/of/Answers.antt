use Rattle.std.proofs.Common.{◌≡◌, pos, ◌+ℤ◌, to_z, of_z, w32, w64, ap, ◌∙◌, arith, rules}
use Rattle.std.proofs.lemmas.Int.{ints, to_z-of_z}
use Rattle.lay_point.proofs.Signs.{linear}
use Rattle.lay_point.specs.declared.point.Point.{Point}
use Rattle.face_rows.specs.declared.band.Band.{Band}
use Rattle.face_rows.specs.Rows.{upward}
use Rattle.face_rows.proofs.BandLemmas.{begin_more}
use Rattle.face_rows.proofs.band.Band.of.Goals as goal

pub loop-edge-preserved : goal.loop-edge-preserved
loop-edge-preserved c =
    let old = c.loop-edge.band in
    let e = c.edge-item.result in
    let new : Band = record { low = to_z w64 (of_z w64 c.min.result); high = to_z w64 (of_z w64 c.max.result) } in
    let y : to_z w32 (of_z w32 c.upward.result.0.y) ≡ (upward e).0.y =
    to_z-of_z w32 c.upward.result.0.y (search rules) ∙ ap (λ (f : Point × Point). f.0.y) c.upward.ensures.value in
    let low : to_z w64 (of_z w64 c.min.result) ≡ c.min.result = to_z-of_z w64 c.min.result (search rules) in
    let high : to_z w64 (of_z w64 c.max.result) ≡ c.max.result = to_z-of_z w64 c.max.result (search rules) in
    let old_low : to_z w64 (of_z w64 old.low) ≡ old.low = to_z-of_z w64 old.low (search rules) in
    let old_high : to_z w64 (of_z w64 old.high) ≡ old.high = to_z-of_z w64 old.high (search rules) in
    let wide : to_z w64 (of_z w64 c.from-y.result) ≡ c.from-y.result = to_z-of_z w64 c.from-y.result (search rules) in
    let next : to_z w64 (of_z w64 (to_z w64 (of_z w64 c.from-y.result) +ℤ pos 1)) ≡ c.from-y.result +ℤ pos 1 =
    omega (arith, ints, c.from-y.ensures) in
    begin_more old new c.args.edges.now c.loop-edge.edge-index e c.loop-edge-test.true c.edge-item.is
    (omega (arith, linear, low, old_low, c.min.ensures.self_bound)) (omega (arith, linear, high, old_high, c.max.ensures.self_bound))
    (omega (arith, linear, low, wide, y, c.from-y.ensures, c.min.ensures.other_bound))
    (omega (arith, linear, high, next, y, c.from-y.ensures, c.max.ensures.other_bound)) c.loop-edge.invariant

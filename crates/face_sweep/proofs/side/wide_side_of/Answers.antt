-- Both products are those of the ways.
use Rattle.std.proofs.Common.{rules, ◌∙◌, ◌-ℤ◌}
use Rattle.std.specs.Ordering.{int_cmp}
use Rattle.face_sweep.proofs.WayLemmas.{way_is, wide_is}
use Rattle.face_sweep.proofs.side.wide_side_of.Goals as goal

pub returns : goal.returns
returns c =
    let p = c.args.point in
    let a = c.args.low in
    let b = c.args.high in
    let px = way_is p.x a.x c.wide_way.result (search rules) (search rules) (search rules) c.wide_way.ensures.value in
    let by = way_is b.y a.y c.wide_way-2.result (search rules) (search rules) (search rules) c.wide_way-2.ensures.value in
    let py = way_is p.y a.y c.wide_way-3.result (search rules) (search rules) (search rules) c.wide_way-3.ensures.value in
    let bx = way_is b.x a.x c.wide_way-4.result (search rules) (search rules) (search rules) c.wide_way-4.ensures.value in
    let across = wide_is c.wide_product-across.result c.wide_way.result c.wide_way-2.result (p.x -ℤ a.x) (b.y -ℤ a.y) (search rules)
    c.wide_product-across.ensures px by in
    let along = wide_is c.wide_product-along.result c.wide_way-3.result c.wide_way-4.result (p.y -ℤ a.y) (b.x -ℤ a.x) (search rules)
    c.wide_product-along.ensures py bx in
    c.cmp.ensures ∙ (λ i. int_cmp (across i) (along i))

-- The product across is the greater one.
use Rattle.std.proofs.Common.{ap, ◌∙◌, ◌-ℤ◌, ◌*ℤ◌}
use Rattle.std.specs.Ordering.{int_cmp, is_gt}
use Rattle.lay_point.specs.declared.point.Point.{Point}
use Rattle.face_rows.specs.Rows.{upward}
use Rattle.face_sweep.proofs.WayLemmas.{greater, left_by_products}
use Rattle.face_sweep.proofs.side.is_left_of.Goals as goal

pub returns : goal.returns
returns c =
    let p = c.args.point in
    let e = upward c.args.edge in
    c.is_gt.ensures ∙ ap is_gt (c.wide_side_of.ensures
    ∙ ap (λ (f : Point × Point). int_cmp ((p.x -ℤ f.0.x) *ℤ (f.1.y -ℤ f.0.y)) ((p.y -ℤ f.0.y) *ℤ (f.1.x -ℤ f.0.x))) c.upward.ensures.value)
    ∙ greater ((p.x -ℤ e.0.x) *ℤ (e.1.y -ℤ e.0.y)) ((p.y -ℤ e.0.y) *ℤ (e.1.x -ℤ e.0.x))
    ∙ left_by_products p e.0 e.1

use Rattle.std.proofs.Common.{rules, ap, sym, ◌∙◌, ◌+ℤ◌}
use Rattle.snap_pixels.specs.declared.measure.Measure.{Measure}
use Rattle.snap_pixels.specs.Strips.{reach}
use Rattle.snap_pixels.proofs.BoundLemmas.{product_is, sum_of_products}
use Rattle.snap_pixels.proofs.measure.Measure.of.Goals as goal

pub returns-in-Slanted : goal.returns-in-Slanted
returns-in-Slanted c =
    let one = c.times.ensures in
    let other = c.times-in-Slanted.ensures in
    let d = c.in-Slanted.direction in
    let one_is = product_is d.x c.args.point.x _ (search rules) (search rules) one.value in
    let other_is = product_is d.y c.args.point.y _ (search rules) (search rules) other.value in
    sum_of_products _ _ (record { low = one.low; high = one.high }) (record { low = other.low; high = other.high })
    ∙ (λ i. one_is i +ℤ other_is i) ∙ ap (λ (m : Measure). reach m c.args.point) (sym c.in-Slanted.is)

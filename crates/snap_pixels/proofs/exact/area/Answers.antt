use Rattle.std.proofs.Common.{arith, rules, ◌∙◌, ◌-ℤ◌, ◌*ℤ◌}
use Rattle.std.proofs.lemmas.Int.{ints}
use Rattle.snap_pixels.proofs.BoundLemmas.{IsProduct-differences, IsArea-products, difference_is}
use Rattle.snap_pixels.proofs.exact.area.Goals as goal

pub overflow_sub-result : goal.overflow_sub-result
overflow_sub-result c =
    let d = c.difference.ensures in let e = c.difference-2.ensures in let f = c.difference-3.ensures in let g = c.difference-4.ensures in
    let rising = IsProduct-differences _ _ _ d.low d.high e.low e.high c.product-rising.ensures in
    let falling = IsProduct-differences _ _ _ f.low f.high g.low g.high c.product-falling.ensures in
    omega (arith, ints, rising.small.low, rising.small.high, falling.small.low, falling.small.high)

pub returns : goal.returns
returns c =
    let d = c.difference.ensures in let e = c.difference-2.ensures in let f = c.difference-3.ensures in let g = c.difference-4.ensures in
    let rising = IsProduct-differences _ _ _ d.low d.high e.low e.high c.product-rising.ensures in
    let falling = IsProduct-differences _ _ _ f.low f.high g.low g.high c.product-falling.ensures in
    let area = IsArea-products _ _ rising.small falling.small in
    let ab_x = difference_is c.args.a.x c.args.b.x _ (search rules) (search rules) d.value in
    let cd_y = difference_is c.args.c.y c.args.d.y _ (search rules) (search rules) e.value in
    let ab_y = difference_is c.args.a.y c.args.b.y _ (search rules) (search rules) f.value in
    let cd_x = difference_is c.args.c.x c.args.d.x _ (search rules) (search rules) g.value in
    record {
      value = area.is ∙ (λ i. rising.is i -ℤ falling.is i) ∙ (λ i. ab_x i *ℤ cd_y i -ℤ ab_y i *ℤ cd_x i);
      low = area.small.low;
      high = area.small.high;
    }

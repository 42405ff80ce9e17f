-- The weights are how far the ends are from the row.
use Rattle.std.proofs.Common.{◌≡◌, ℤ, pos, ◌<ℤ◌, ◌+ℤ◌, ◌-ℤ◌, ◌*ℤ◌, to_z, of_z, w32, w64, ap, ◌∙◌, arith, rules}
use Rattle.std.specs.Int.{w128}
use Rattle.std.proofs.lemmas.Int.{ints, to_z-of_z}
use Rattle.lay_point.specs.declared.point.Point.{Point}
use Rattle.lay_point.proofs.Signs.{linear}
use Rattle.face_side_laws.proofs.Rows.{rises_in}
use Rattle.face_rows.specs.Rows.{upward}
use Rattle.face_rows.proofs.RowLemmas.{spans_of}
use Rattle.face_rows.proofs.crossing.Crossing.new.Goals as goal

pub weighed-requires-clause-first : goal.weighed-requires-clause-first
weighed-requires-clause-first c =
    let s = spans_of c.args.row c.args.edge c.requires in
    let hy : c.upward.result.1.y ≡ (upward c.args.edge).1.y = ap (λ (e : Point × Point). e.1.y) c.upward.ensures.value in
    omega (arith, ints, s.high, hy, c.above.ensures.value)

pub weighed-requires-clause-second : goal.weighed-requires-clause-second
weighed-requires-clause-second c =
    let s = spans_of c.args.row c.args.edge c.requires in
    let ly : c.upward.result.0.y ≡ (upward c.args.edge).0.y = ap (λ (e : Point × Point). e.0.y) c.upward.ensures.value in
    omega (arith, ints, s.low, ly, c.below.ensures.value)

positive_way : (a b t : ℤ) → a <ℤ b → t ≡ pos 2 *ℤ (b -ℤ a) → pos 0 <ℤ t
positive_way a b t h e = omega (arith, linear)

pub invariant_of-result : goal.invariant_of-result
invariant_of-result c =
    let s = spans_of c.args.row c.args.edge c.requires in
    let e = upward c.args.edge in
    let ly : to_z w32 (of_z w32 c.upward.result.0.y) ≡ e.0.y =
    to_z-of_z w32 c.upward.result.0.y (search rules) ∙ ap (λ (f : Point × Point). f.0.y) c.upward.ensures.value in
    let hy : to_z w32 (of_z w32 c.upward.result.1.y) ≡ e.1.y =
    to_z-of_z w32 c.upward.result.1.y (search rules) ∙ ap (λ (f : Point × Point). f.1.y) c.upward.ensures.value in
    let t = c.twice.ensures in
    let whole : to_z w64 (of_z w64 c.twice.result) ≡ c.twice.result = omega (arith, ints, t.low, t.high) in
    let same : to_z w64 (of_z w64 c.twice.result) ≡ pos 2 *ℤ (e.1.y -ℤ e.0.y) = whole ∙ t.value ∙ (λ i. pos 2 *ℤ (hy i -ℤ ly i)) in
    let w = c.weighed.ensures in
    record {
      positive = positive_way e.0.y e.1.y _ (rises_in c.args.row e s) same;
      small = omega (arith, ints, t.low, t.high);
      low = omega (arith, ints, w.low, w.high);
      high = omega (arith, ints, w.low, w.high);
    }

pub returns-clause-x : goal.returns-clause-x
returns-clause-x c =
    let e = upward c.args.edge in
    let row = c.args.row in
    let whole : to_z w128 (of_z w128 c.weighed.result) ≡ c.weighed.result =
    omega (arith, ints, c.weighed.ensures.low, c.weighed.ensures.high) in
    let lx : to_z w32 (of_z w32 c.upward.result.0.x) ≡ e.0.x =
    to_z-of_z w32 c.upward.result.0.x (search rules) ∙ ap (λ (f : Point × Point). f.0.x) c.upward.ensures.value in
    let hx : to_z w32 (of_z w32 c.upward.result.1.x) ≡ e.1.x =
    to_z-of_z w32 c.upward.result.1.x (search rules) ∙ ap (λ (f : Point × Point). f.1.x) c.upward.ensures.value in
    let ly : to_z w32 (of_z w32 c.upward.result.0.y) ≡ e.0.y =
    to_z-of_z w32 c.upward.result.0.y (search rules) ∙ ap (λ (f : Point × Point). f.0.y) c.upward.ensures.value in
    let hy : to_z w32 (of_z w32 c.upward.result.1.y) ≡ e.1.y =
    to_z-of_z w32 c.upward.result.1.y (search rules) ∙ ap (λ (f : Point × Point). f.1.y) c.upward.ensures.value in
    let at : to_z w32 (of_z w32 row) ≡ row = to_z-of_z w32 row c.ranges.row in
    let first : to_z w64 (of_z w64 c.above.result) ≡ pos 2 *ℤ e.1.y -ℤ (pos 2 *ℤ row +ℤ pos 1) =
    to_z-of_z w64 c.above.result (search rules) ∙ c.above.ensures.value ∙ (λ i. pos 2 *ℤ hy i -ℤ (pos 2 *ℤ at i +ℤ pos 1)) in
    let second : to_z w64 (of_z w64 c.below.result) ≡ (pos 2 *ℤ row +ℤ pos 1) -ℤ pos 2 *ℤ e.0.y =
    to_z-of_z w64 c.below.result (search rules) ∙ c.below.ensures.value ∙ (λ i. (pos 2 *ℤ at i +ℤ pos 1) -ℤ pos 2 *ℤ ly i) in
    whole ∙ c.weighed.ensures.value ∙ (λ i. first i *ℤ lx i +ℤ second i *ℤ hx i)

pub returns-clause-rise : goal.returns-clause-rise
returns-clause-rise c =
    let e = upward c.args.edge in
    let ly : to_z w32 (of_z w32 c.upward.result.0.y) ≡ e.0.y =
    to_z-of_z w32 c.upward.result.0.y (search rules) ∙ ap (λ (f : Point × Point). f.0.y) c.upward.ensures.value in
    let hy : to_z w32 (of_z w32 c.upward.result.1.y) ≡ e.1.y =
    to_z-of_z w32 c.upward.result.1.y (search rules) ∙ ap (λ (f : Point × Point). f.1.y) c.upward.ensures.value in
    let t = c.twice.ensures in
    let whole : to_z w64 (of_z w64 c.twice.result) ≡ c.twice.result = omega (arith, ints, t.low, t.high) in
    let same : to_z w64 (of_z w64 c.twice.result) ≡ pos 2 *ℤ (e.1.y -ℤ e.0.y) = whole ∙ t.value ∙ (λ i. pos 2 *ℤ (hy i -ℤ ly i)) in
    same

use Rattle.std.proofs.Common.{◌≡◌, ◌∙◌, ap, arith, rules, ℤ, ◌+ℤ◌, ◌-ℤ◌, ◌*ℤ◌, to_z, of_z, w32, w64}
use Rattle.std.specs.Int.{int_signum}
use Rattle.std.proofs.lemmas.Int.{ints, to_z-of_z}
use Rattle.lay_point.specs.declared.point.Point.{Point}
use Rattle.snap_chains.proofs.chains.key.Goals as goal

passed : ℤ → ℤ
passed x = to_z w32 (of_z w32 x)

pub overflow_add-result : goal.overflow_add-result
overflow_add-result c =
    omega (arith, ints, c.advance.ensures.low, c.advance.ensures.high, c.advance-2.ensures.low, c.advance-2.ensures.high)

pub returns : goal.returns
unfolding passed
returns c =
    let s = c.args.segment.now in
    let a = c.a-a.result in
    let b = c.b-b.result in
    let m = c.args.centre in
    let ax : passed a.x ≡ s.a.x = to_z-of_z w32 a.x (search rules) ∙ ap (λ (p : Point). p.x) c.a-a.ensures in
    let bx : passed b.x ≡ s.b.x = to_z-of_z w32 b.x (search rules) ∙ ap (λ (p : Point). p.x) c.b-b.ensures in
    let ay : passed a.y ≡ s.a.y = to_z-of_z w32 a.y (search rules) ∙ ap (λ (p : Point). p.y) c.a-a.ensures in
    let by : passed b.y ≡ s.b.y = to_z-of_z w32 b.y (search rules) ∙ ap (λ (p : Point). p.y) c.b-b.ensures in
    let mx : passed m.x ≡ m.x = to_z-of_z w32 m.x (search rules) in
    let my : passed m.y ≡ m.y = to_z-of_z w32 m.y (search rules) in
    let sum : to_z w64 (of_z w64 (to_z w64 (of_z w64 c.advance.result) +ℤ to_z w64 (of_z w64 c.advance-2.result)))
    ≡ c.advance.result +ℤ c.advance-2.result =
    omega (arith, ints, c.advance.ensures.low, c.advance.ensures.high, c.advance-2.ensures.low, c.advance-2.ensures.high) in
    sum ∙ (λ i. c.advance.ensures.value i +ℤ c.advance-2.ensures.value i)
    ∙ (λ i. int_signum (bx i -ℤ ax i) *ℤ mx i +ℤ int_signum (by i -ℤ ay i) *ℤ my i)

use Rattle.std.proofs.Common.{◌≡◌, ℤ, ◌∙◌, ap, rules, to_z, of_z, w32}
use Rattle.std.proofs.lemmas.Int.{to_z-of_z}
use Rattle.lay_point.specs.declared.point.Point.{Point}
use Rattle.std.proofs.lemmas.Bool.{false≢true}
use Rattle.snap_pixels.specs.Segments.{Meets}
use Rattle.snap_pixels.proofs.BoxLemmas.{Meets-apart}
use Rattle.snap_pixels.proofs.SideLemmas.{Meets-by_spans}
use Rattle.snap_pixels.proofs.meeting.meets.Goals as goal

passed : ℤ → ℤ
passed x = to_z w32 (of_z w32 x)

pub returns-then-boxes_are_apart : goal.returns-then-boxes_are_apart
returns-then-boxes_are_apart c =
    let apart = Meets-apart c.a-a.result c.b-b.result c.args.centre (c.boxes_are_apart.ensures c.if-boxes_are_apart.true) in (
      (λ e. absurd (false≢true e)),
      (λ met. absurd (apart (coe 1 0 (i. Meets (c.a-a.ensures i) (c.b-b.ensures i) c.args.centre) met))),
    )

pub returns : goal.returns
unfolding passed
returns c =
    let s = c.args.segment.now in
    let a = c.a-a.result in
    let b = c.b-b.result in
    let m = c.args.centre in
    let ax : passed a.x ≡ s.a.x = to_z-of_z w32 a.x (search rules) ∙ ap (λ (p : Point). p.x) c.a-a.ensures in
    let bx : passed b.x ≡ s.b.x = to_z-of_z w32 b.x (search rules) ∙ ap (λ (p : Point). p.x) c.b-b.ensures in
    let ay : passed a.y ≡ s.a.y = to_z-of_z w32 a.y (search rules) ∙ ap (λ (p : Point). p.y) c.a-a.ensures in
    let by : passed b.y ≡ s.b.y = to_z-of_z w32 b.y (search rules) ∙ ap (λ (p : Point). p.y) c.b-b.ensures in
    Meets-by_spans s.a s.b m (passed a.x) (passed b.x) (passed m.x) (passed a.y) (passed b.y) (passed m.y)
    c.whole.result c.cut-columns.result c.cut.result c.holds_some.result
    ax bx (to_z-of_z w32 m.x (search rules)) ay by (to_z-of_z w32 m.y (search rules))
    c.whole.ensures c.cut-columns.ensures c.cut.ensures c.holds_some.ensures

use Rattle.std.proofs.Common.{◌≡◌, ◌↔◌, ◌⊎◌, Contains, subst, sym, rules}
use Rattle.lay_point.specs.declared.point.Point.{Point}
use Rattle.snap_pixels.proofs.MarkLemmas.{HoldsAnEnd-step, HoldsAnEnd-whole}
use Rattle.snap_pixels.proofs.search.add_ends.Goals as goal

pub loop-segment-preserved : goal.loop-segment-preserved
loop-segment-preserved c =
    let s = c.segment-item.result in
    HoldsAnEnd-step s c.args.segments.now c.loop-segment.segment-index c.args.centres.now c.loop-segment.centres c.push.new.self
    c.push-in-loop-segment.new.self (search rules) (sym c.segment-item.is)
    (subst (λ (p : Point). (q : Point) → Contains c.push.new.self q ↔ (Contains c.loop-segment.centres q ⊎ (p ≡ q))) c.a.ensures
    c.in_ok-push.ensures)
    (subst (λ (p : Point). (q : Point) → Contains c.push-in-loop-segment.new.self q ↔ (Contains c.push.new.self q ⊎ (p ≡ q))) c.b.ensures
    c.in_ok-push-2.ensures)
    c.loop-segment.invariant

pub returns : goal.returns
returns c =
    HoldsAnEnd-whole c.args.segments.now c.args.centres.now c.loop-segment.centres c.loop-segment.segment-index (search rules)
    c.loop-segment.invariant

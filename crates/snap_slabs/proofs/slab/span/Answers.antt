use Rattle.std.proofs.Common.{rules, ◌≤ℤ◌, Contains, List, get_or, pos, subst}
use Rattle.std.proofs.lemmas.List.{take_all, get_or_default}
use mir.Syntax.{w32}
use mir.Val.{to_z}
use Rattle.lay_point.specs.declared.point.Point.{Point}
use Rattle.snap_slabs.proofs.ClipLemmas.{between_more}
use Rattle.snap_slabs.proofs.slab.span.Goals as goal

pub loop-centre-preserved : goal.loop-centre-preserved
loop-centre-preserved c =
    let cs = c.args.centres.now in
    let i = c.loop-centre.centre-index in
    let origin : Point = record { x = pos 0; y = pos 0 } in
    let x = get_or cs i origin in
    between_more cs i x (to_z w32 c.loop-centre.low-bits) (to_z w32 c.loop-centre.high-bits) _ _ c.loop-centre-test.true
    (get_or_default cs i _ origin c.loop-centre-test.true) c.loop-centre.invariant (search rules) (search rules) (search rules)
    (search rules)

pub returns : goal.returns
returns c =
    let all = take_all c.loop-centre.centre-index c.args.centres.now (search rules) in
    let low = to_z w32 c.loop-centre.low-bits in
    let high = to_z w32 c.loop-centre.high-bits in
    subst (λ (l : List Point). (p : Point) → Contains l p → (low ≤ℤ p.y) × (p.y ≤ℤ high)) all c.loop-centre.invariant

use Rattle.std.proofs.Common.{List, refl, rules, subst, Contains}
use Rattle.std.proofs.lemmas.List.{take_all}
use Rattle.lay_point.specs.declared.point.Point.{Point}
use Rattle.snap_pixels.specs.Order.{transposed}
use Rattle.snap_pixels.specs.Segments.{Meets}
use Rattle.snap_slabs.specs.Slabs.{points_in}
use Rattle.snap_slabs.proofs.SlabLemmas.{gathered}
use Rattle.snap_slabs.proofs.Sorted.{ArePassed, none_passed}
use Rattle.snap_slabs.proofs.slabs.add_met_in_each.Goals as goal

pub loop-slab-init : goal.loop-slab-init
loop-slab-init c = none_passed (Meets c.args.segment.now.a c.args.segment.now.b) transposed c.args.points.now.items

pub loop-slab-preserved : goal.loop-slab-preserved
loop-slab-preserved c =
    let s = c.args.segment.now in
    gathered (λ (v : List Point). v) (Meets s.a s.b) (Contains c.args.points.now.items) transposed c.args.slabs.now c.loop-slab.slab-index
    c.slab-item.result c.slab-item.result c.near.result.now c.loop-slab.points.items _ c.loop-slab-test.true c.slab-item.is
    refl c.near.ensures.inside c.near.ensures.all c.loop-slab.invariant c.in_ok-add_met_turned.ensures

pub returns : goal.returns
returns c =
    let all = take_all c.loop-slab.slab-index c.args.slabs.now (search rules) in
    subst (λ (l : List (List Point)). ArePassed (Meets c.args.segment.now.a c.args.segment.now.b)
    (Contains c.args.points.now.items) transposed
    (points_in l) c.loop-slab.points.items)
    all c.loop-slab.invariant

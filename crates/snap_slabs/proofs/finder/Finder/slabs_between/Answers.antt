use Rattle.std.proofs.Common.{rules, ◌≤◌, ◌+◌, ◌/◌, List, length, refl, sym, subst, Contains}
use Rattle.std.specs.Prelude.{slice_range}
use Rattle.lay_point.specs.declared.point.Point.{Point}
use Rattle.snap_pixels.specs.Order.{transposed}
use Rattle.snap_slabs.specs.Slabs.{AreSlabs, HoldPlaces}
use Rattle.snap_slabs.proofs.SlabLemmas.{range_holds, range_inside}
use Rattle.snap_slabs.proofs.finder.Finder.slabs_between.Goals as goal

pub returns-clause-inside : goal.returns-clause-inside
returns-clause-inside c = λ p m.
    let size = c.self.inside.size in
    let first = c.args.from / size in
    let end = c.args.to / size + 1 in
    let slabs = c.deref.result.now in
    let are = subst (AreSlabs size c.self.inside.hot.now) (sym c.deref.ensures.value) c.self.invariant.1 in
    let inside : end ≤ length slabs = search rules in
    subst (λ (l : List Point). Contains l (transposed p)) c.self.view_is
    (range_inside size c.self.inside.hot.now slabs are first end inside p m)

pub returns-clause-all : goal.returns-clause-all
returns-clause-all c =
    let size = c.self.inside.size in
    let first = c.args.from / size in
    let end = c.args.to / size + 1 in
    let slabs = c.deref.result.now in
    let are = subst (AreSlabs size c.self.inside.hot.now) (sym c.deref.ensures.value) c.self.invariant.1 in
    let inside : end ≤ length slabs = search rules in
    subst (λ (l : List Point). HoldPlaces l c.args.from c.args.to (slice_range slabs first end)) c.self.view_is
    (range_holds size c.self.inside.hot.now slabs are first end inside c.self.invariant.0 c.args.from c.args.to refl refl)

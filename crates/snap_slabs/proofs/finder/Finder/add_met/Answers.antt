use Rattle.std.proofs.Common.{Contains, List, ◌↔◌, ◌⊎◌, ◌∙◌, ◌-◌, subst}
use Rattle.std.specs.Prelude.{slice_range}
use Rattle.lay_point.specs.declared.point.Point.{Point}
use Rattle.snap_pixels.specs.Order.{transposed}
use Rattle.snap_pixels.specs.Segments.{Meets}
use Rattle.snap_slabs.specs.Columns.{HoldMet}
use Rattle.snap_slabs.specs.Slabs.{points_in}
use Rattle.snap_slabs.proofs.ColumnLemmas.{columns_have_all, met_in_columns}
use Rattle.snap_slabs.proofs.SlabLemmas.{in_whole, met_in_slabs}
use Rattle.snap_slabs.proofs.Sorted.{ArePassed}
use Rattle.snap_slabs.proofs.finder.Finder.add_met.Goals as goal

pub returns-in-Some : goal.returns-in-Some
returns-in-Some c =
    let s = c.args.segment.now in
    let old = c.args.points.now.items in
    let new = c.add_met_in_each.new.points.items in
    let slabs = c.in-Some.slabs.now in
    let held = subst (λ (l : List Point). HoldMet l s.a s.b c.places_near-from.result) (c.centres.ensures.value ∙ c.self.view_is)
    c.places_near-from.ensures.all in
    let are_met = coe 0 1 (i. ArePassed (Meets (c.turned.ensures.a i) (c.turned.ensures.b i)) (Contains old) transposed
    (points_in slabs) new)
    c.in_ok-add_met_in_each.ensures in
    met_in_slabs c.args.self.now old new slabs s.a s.b c.places_near-from.result.0 c.places_near-from.result.1 held
    c.in-Some.ensures.inside c.in-Some.ensures.all are_met

pub returns : goal.returns
returns c =
    let s = c.args.segment.now in
    let old = c.args.points.now.items in
    let new = c.add_met.new.points.items in
    let from = c.places_near-from.result.0 in
    let to = c.places_near-from.result.1 in
    let hot = c.args.self.now in
    let held = subst (λ (l : List Point). HoldMet l s.a s.b c.places_near-from.result) (c.centres.ensures.value ∙ c.self.view_is)
    c.places_near-from.ensures.all in
    let are_met = subst (λ (l : List Point). (p : Point)
    → Contains new p ↔ (Contains old p ⊎ (Contains (slice_range l from to) p × Meets s.a s.b p)))
    (c.centres-2.ensures.value ∙ c.self.view_is) c.in_ok-add_met.ensures in
    met_in_columns hot (slice_range hot from to) old new s.a s.b (in_whole (to - from) from hot)
    (columns_have_all hot s.a s.b c.places_near-from.result held) are_met

use Rattle.std.proofs.Common.{◌≡◌, ◌∙◌, ◌∷◌, List, Some, map, rules, sym, ap, subst, Contains}
use Rattle.std.specs.Prelude.{slice_get}
use Rattle.lay_point.specs.declared.point.Point.{Point}
use Rattle.lay_point.specs.Rising.{pairs}
use Rattle.snap_edge_laws.specs.Rounding.{closed_walk}
use Rattle.snap_slabs.proofs.KeyOrder.{rising_points}
use Rattle.snap_chains.specs.declared.owner.Owner.{Owner}
use Rattle.snap_chains.specs.Passes.{IsSideAdded}
use Rattle.snap_chains.specs.Sides.{segment_ends}
use Rattle.snap_chains.proofs.PathPasses.{end_is_hot, no_side_yet, side_more, sides_end, start_is_hot, starts_at}
use Rattle.snap_chains.proofs.passes.add_ring.Goals as goal

pub number-from-requires : goal.number-from-requires
number-from-requires c =
    let segments = c.args._segments.now in
    let hot = c.args.centres.now in
    let ring = c.args.ring.now.1 in
    let first = c.in-Some.first.now in
    let rest = c.in-Some.field-0-1.now in
    let points = ap (λ (r : Owner × List Point). r.1) c.ring.view_is in
    let lent : c.ring.inside.points.now ≡ first ∷ rest = search rules in
    let whole : ring ≡ first ∷ rest = sym points ∙ lent in
    subst (λ l. Contains l first) (sym c.centres.view_is)
    (start_is_hot segments hot ring c.put_sides.new.sides.items c.requires.hot c.requires.sides
    (c.in_ok-put_sides.ensures ∙ ap (λ l. pairs (closed_walk l)) points) first rest whole)

pub loop-side-init : goal.loop-side-init
loop-side-init c = λ p ps e.
    let segments = c.args._segments.now in
    let hot = c.args.centres.now in
    let ring = c.args.ring.now.1 in
    let first = c.in-Some.first.now in
    let rest = c.in-Some.field-0-1.now in
    let points = ap (λ (r : Owner × List Point). r.1) c.ring.view_is in
    let lent : c.ring.inside.points.now ≡ first ∷ rest = search rules in
    let whole : ring ≡ first ∷ rest = sym points ∙ lent in
    let same : first ∷ rest ≡ p ∷ ps = sym whole ∙ e in
    let is_first : first ≡ p = cc in
    no_side_yet segments hot c.args.ring.now.0 p c.args.passes.now.items c.number-from.result
    (ap (λ l. slice_get l c.number-from.result) (sym c.centres.view_is) ∙ c.number-from.ensures ∙ ap Some is_first)

pub number-to-requires : goal.number-to-requires
number-to-requires c =
    let segments = c.args._segments.now in
    let hot = c.args.centres.now in
    let ring = c.args.ring.now.1 in
    let first = c.in-Some.first.now in
    let rest = c.in-Some.field-0-1.now in
    let points = ap (λ (r : Owner × List Point). r.1) c.ring.view_is in
    let lent : c.ring.inside.points.now ≡ first ∷ rest = search rules in
    let whole : ring ≡ first ∷ rest = sym points ∙ lent in
    let sides = c.as_slice-side-items.result.now in
    let are_sides = ap (map segment_ends) c.as_slice-side-items.ensures.value ∙ c.in_ok-put_sides.ensures
    ∙ ap (λ l. pairs (closed_walk l)) points in
    subst (λ l. Contains l c.b.result) (sym c.centres.view_is)
    (subst (Contains hot) (sym c.b.ensures)
    (end_is_hot segments hot ring sides c.requires.hot c.requires.sides are_sides first rest whole c.loop-side.side-index c.side-item.result
    c.loop-side-test.true c.side-item.is))

pub add_side-requires-clause-rising : goal.add_side-requires-clause-rising
add_side-requires-clause-rising c = rising_points c.args.centres.now c.requires.hot.rising

pub add_side-requires-clause-side : goal.add_side-requires-clause-side
add_side-requires-clause-side c =
    let segments = c.args._segments.now in
    let hot = c.args.centres.now in
    let ring = c.args.ring.now.1 in
    let first = c.in-Some.first.now in
    let rest = c.in-Some.field-0-1.now in
    let points = ap (λ (r : Owner × List Point). r.1) c.ring.view_is in
    let lent : c.ring.inside.points.now ≡ first ∷ rest = search rules in
    let whole : ring ≡ first ∷ rest = sym points ∙ lent in
    let sides = c.as_slice-side-items.result.now in
    let are_sides = ap (map segment_ends) c.as_slice-side-items.ensures.value ∙ c.in_ok-put_sides.ensures
    ∙ ap (λ l. pairs (closed_walk l)) points in (
      (c.loop-side.invariant first rest whole).at
          ∙ ap Some (starts_at segments hot ring sides c.requires.hot c.requires.sides are_sides first rest whole
          c.loop-side.side-index c.side-item.result c.loop-side-test.true c.side-item.is),
      ap (λ l. slice_get l c.number-to.result) (sym c.centres.view_is) ∙ c.number-to.ensures ∙ ap Some c.b.ensures,
    )

pub loop-side-preserved : goal.loop-side-preserved
loop-side-preserved c = λ p ps e.
    let segments = c.args._segments.now in
    let hot = c.args.centres.now in
    let ring = c.args.ring.now.1 in
    let first = c.in-Some.first.now in
    let rest = c.in-Some.field-0-1.now in
    let points = ap (λ (r : Owner × List Point). r.1) c.ring.view_is in
    let lent : c.ring.inside.points.now ≡ first ∷ rest = search rules in
    let whole : ring ≡ first ∷ rest = sym points ∙ lent in
    let sides = c.as_slice-side-items.result.now in
    let are_sides = ap (map segment_ends) c.as_slice-side-items.ensures.value ∙ c.in_ok-put_sides.ensures
    ∙ ap (λ l. pairs (closed_walk l)) points in
    let owner = ap (λ (r : Owner × List Point). r.0) c.ring.view_is in
    let there = ap (λ l. slice_get l c.number-to.result) (sym c.centres.view_is) ∙ c.number-to.ensures ∙ ap Some c.b.ensures in
    let added = subst (λ o. IsSideAdded hot c.side-item.result o c.loop-side.passes.items c.add_side.new.passes.items) owner
    c.in_ok-add_side.ensures in
    side_more segments hot ring sides c.requires.hot c.requires.sides are_sides p ps e c.loop-side.side-index c.side-item.result
    c.loop-side-test.true c.side-item.is c.args.ring.now.0 c.args.passes.now.items c.loop-side.passes.items c.add_side.new.passes.items
    c.loop-side.from c.number-to.result (c.loop-side.invariant p ps e) there added

pub returns : goal.returns
returns c =
    let segments = c.args._segments.now in
    let hot = c.args.centres.now in
    let ring = c.args.ring.now.1 in
    let first = c.in-Some.first.now in
    let rest = c.in-Some.field-0-1.now in
    let points = ap (λ (r : Owner × List Point). r.1) c.ring.view_is in
    let lent : c.ring.inside.points.now ≡ first ∷ rest = search rules in
    let whole : ring ≡ first ∷ rest = sym points ∙ lent in
    let sides = c.as_slice-side-items.result.now in
    let are_sides = ap (map segment_ends) c.as_slice-side-items.ensures.value ∙ c.in_ok-put_sides.ensures
    ∙ ap (λ l. pairs (closed_walk l)) points in
    sides_end segments hot ring sides c.requires.hot c.requires.sides are_sides first rest whole c.args.ring.now.0 c.args.passes.now.items
    c.loop-side.passes.items c.loop-side.from c.loop-side.side-index c.loop-side-test.false (c.loop-side.invariant first rest whole)

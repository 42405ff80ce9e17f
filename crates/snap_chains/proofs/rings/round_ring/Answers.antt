use Rattle.std.proofs.Common.{◌≡◌, [], ◌∷◌, ◌++◌, ◌+◌, map, take, rules, sym, ap, ◌∙◌, subst}
use Rattle.snap_edge_laws.specs.Rounding.{IsRoundedPath, point, tail}
use Rattle.snap_chains.specs.Sides.{segment_ends}
use Rattle.snap_chains.proofs.PathLemmas.{next_side, whole_ring}
use Rattle.snap_chains.proofs.rings.round_ring.Goals as goal

pub loop-side-init : goal.loop-side-init
loop-side-init c = λ p ps e.
    let whole : c.args.ring.now ≡ c.in-Some.first.now ∷ c.in-Some.field-0-1.now = search rules in
    let same : c.in-Some.first.now ∷ c.in-Some.field-0-1.now ≡ p ∷ ps = sym whole ∙ e in
    let first : c.in-Some.first.now ≡ p = cc in
    let items : c.push.new.self.items ≡ p ∷ [] = c.in_ok-push.ensures.items ∙ (λ i. c.new-walk.ensures.items i ++ first i ∷ []) in
    subst (IsRoundedPath c.args._segments.now (p ∷ [])) (sym items) (point p)

pub loop-side-preserved : goal.loop-side-preserved
loop-side-preserved c = λ p ps e.
    let s = c.side-item.result in
    let sides = c.as_slice-side-items.result.now in
    let are_sides = ap (map segment_ends) c.as_slice-side-items.ensures.value ∙ c.in_ok-sides.ensures in
    let walked = c.in_ok-extend_by_rest.ensures ∙ ap (λ l. c.loop-side.walk.items ++ tail l) c.as_slice.ensures.value in
    subst (IsRoundedPath c.args._segments.now (p ∷ map (λ t. t.b) (take (c.loop-side.side-index + 1) sides))) (sym walked)
    (next_side c.args._segments.now c.args.hot.now c.args.ring.now c.loop-side.walk.items c.in_ok-points.points.items sides
    c.loop-side.side-index s
    c.requires.hot c.requires.sides are_sides c.loop-side-test.true c.side-item.is c.in_ok-points.ensures p ps e
    (c.loop-side.invariant p ps e))

pub returns : goal.returns
returns c =
    let whole : c.args.ring.now ≡ c.in-Some.first.now ∷ c.in-Some.field-0-1.now = search rules in
    let are_sides = ap (map segment_ends) c.as_slice-side-items.ensures.value ∙ c.in_ok-sides.ensures in
    whole_ring c.args._segments.now c.args.ring.now c.loop-side.walk.items c.as_slice-side-items.result.now c.loop-side.side-index
    c.in-Some.first.now c.in-Some.field-0-1.now c.loop-side-test.false whole are_sides (c.loop-side.invariant _ _ whole)

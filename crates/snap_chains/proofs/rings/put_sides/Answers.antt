use Rattle.std.proofs.Common.{◌≡◌, [], ◌∷◌, ◌++◌, map, get_or, take, pos, rules, sym, ap, ◌∙◌, subst}
use Rattle.std.proofs.lemmas.List.{take_all, take_more}
use Rattle.lay_point.specs.declared.point.Point.{Point}
use Rattle.lay_point.specs.Rings.{NeighboursDiffer}
use Rattle.lay_point.specs.Rising.{last, pairs}
use Rattle.snap_edge_laws.specs.Rounding.{closed_walk}
use Rattle.snap_chains.specs.Sides.{segment_ends}
use Rattle.snap_chains.proofs.OwnerLemmas.{map-push}
use Rattle.snap_chains.proofs.PathLemmas.{differ_at, differ_last, last-push, pairs-push}
use Rattle.snap_chains.proofs.rings.put_sides.Goals as goal

pub side_between-requires : goal.side_between-requires
side_between-requires c =
    let first = c.in-Some.first.now in
    let later = c.in-Some.later.now in
    let whole : c.args.ring.now ≡ first ∷ later = search rules in
    λ e. differ_at first first later (subst (λ r. NeighboursDiffer (closed_walk r)) whole c.requires)
    c.loop-to.to-index _ c.loop-to-test.true
    (sym c.loop-to.invariant.at ∙ e)

pub loop-to-preserved : goal.loop-to-preserved
loop-to-preserved c =
    let first = c.in-Some.first.now in
    let later = c.in-Some.later.now in
    let so_far = take c.loop-to.to-index later in
    let origin : Point = record { x = pos 0; y = pos 0 } in
    let next = get_or later c.loop-to.to-index origin in
    let more = take_more later c.loop-to.to-index origin c.loop-to-test.true in
    record {
      sides = ap (map segment_ends) c.in_ok-push.ensures.items ∙ map-push segment_ends _ _
          ∙ (λ i. c.loop-to.invariant.sides i ++ c.side_between.ensures i ∷ [])
          ∙ ap (λ v. pairs (first ∷ so_far) ++ (v, next) ∷ []) c.loop-to.invariant.at ∙ sym (pairs-push first so_far next)
          ∙ ap (λ l. pairs (first ∷ l)) (sym more);
      at = sym (last-push first so_far next) ∙ ap (last first) (sym more);
    }

pub side_between-requires-2 : goal.side_between-requires-2
side_between-requires-2 c =
    let first = c.in-Some.first.now in
    let later = c.in-Some.later.now in
    let whole : c.args.ring.now ≡ first ∷ later = search rules in
    let all = take_all c.loop-to.to-index later (search rules) in
    λ e. differ_last first first later (subst (λ r. NeighboursDiffer (closed_walk r)) whole c.requires)
    (sym (c.loop-to.invariant.at ∙ ap (last first) all) ∙ e)

pub returns : goal.returns
returns c =
    let first = c.in-Some.first.now in
    let later = c.in-Some.later.now in
    let whole : c.args.ring.now ≡ first ∷ later = search rules in
    let all = take_all c.loop-to.to-index later (search rules) in
    ap (map segment_ends) c.in_ok-push-2.ensures.items ∙ map-push segment_ends _ _
    ∙ (λ i. c.loop-to.invariant.sides i ++ c.side_between-2.ensures i ∷ [])
    ∙ (λ i. pairs (first ∷ all i) ++ ((c.loop-to.invariant.at ∙ ap (last first) all) i, first) ∷ [])
    ∙ sym (pairs-push first later first) ∙ ap (λ r. pairs (closed_walk r)) (sym whole)

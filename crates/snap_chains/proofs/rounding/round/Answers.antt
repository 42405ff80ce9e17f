use Rattle.std.proofs.Common.{◌∙◌, sym, subst}
use Rattle.std.specs.List.{AllZip}
use Rattle.lay_point.specs.Points.{IsBefore}
use Rattle.lay_point.specs.Rising.{IsRising}
use Rattle.snap_slabs.specs.Runs.{AreRanked}
use Rattle.snap_chains.specs.Passes.{HasCentres}
use Rattle.snap_chains.proofs.RoundLemmas.{round_is_clean, round_is_rounded, round_of_passes}
use Rattle.snap_chains.specs.RowOrder.{IsSpanBy}
use Rattle.snap_chains.proofs.SpanLemmas.{spans_ordered}
use Rattle.snap_chains.proofs.rounding.round.Goals as goal

pub read-requires-clause-inside : goal.read-requires-clause-inside
read-requires-clause-inside g c κs within = λ p m.
    subst (λ l. HasCentres l p) (c.in_ok-centres.ensures ∙ sym c.centres-2.ensures.value) (c.in_ok-passes.ensures.inside p m)

pub read-requires-clause-rising : goal.read-requires-clause-rising
read-requires-clause-rising g c κs within =
    subst (IsRising IsBefore) (c.in_ok-centres.ensures ∙ sym c.centres-2.ensures.value) c.in_ok-points.ensures.rising

pub invariant_of-rounded : goal.invariant_of-rounded
invariant_of-rounded g c =
    let made = round_of_passes c.args.rings.now c.in_ok-segments.segments.items c.deref-3.result.now c.in_ok-centres.centres
    c.centres-2.result.now c.in_ok-passes.passes.items c.in_ok-edges.edges.items c.in_ok-edges.owners
    c.in_ok-segments.ensures c.deref-3.ensures.value (c.centres-2.ensures.value ∙ sym c.in_ok-centres.ensures) c.in_ok-passes.ensures
    c.in_ok-edges.ensures.view in
    round_is_rounded c.args.rings.now _ _ made

pub invariant_of-result : goal.invariant_of-result
invariant_of-result g c =
    let made = round_of_passes c.args.rings.now c.in_ok-segments.segments.items c.deref-3.result.now c.in_ok-centres.centres
    c.centres-2.result.now c.in_ok-passes.passes.items c.in_ok-edges.edges.items c.in_ok-edges.owners
    c.in_ok-segments.ensures c.deref-3.ensures.value (c.centres-2.ensures.value ∙ sym c.in_ok-centres.ensures) c.in_ok-passes.ensures
    c.in_ok-edges.ensures.view in
    let hot = c.centres-2.result.now in
    let points = c.in_ok-points.points.items in
    let ranks = c.in_ok-points.ranks.items in
    let ranked = subst (λ l. AreRanked l points ranks) (c.in_ok-centres.ensures ∙ sym c.centres-2.ensures.value)
    c.in_ok-points.ensures.ranked in (
      round_is_clean c.args.rings.now _ _ made,
      spans_ordered hot points ranks c.in_ok-edges.edges.items c.in_ok-edges.spans.items ranked
          (subst (λ rs. AllZip (IsSpanBy hot rs) c.in_ok-edges.edges.items c.in_ok-edges.spans.items) c.deref-4.ensures.value
          c.in_ok-edges.ensures.spans),
    )

pub returns : goal.returns
returns g c =
    round_of_passes c.args.rings.now c.in_ok-segments.segments.items c.deref-3.result.now c.in_ok-centres.centres
    c.centres-2.result.now c.in_ok-passes.passes.items c.in_ok-edges.edges.items c.in_ok-edges.owners
    c.in_ok-segments.ensures c.deref-3.ensures.value (c.centres-2.ensures.value ∙ sym c.in_ok-centres.ensures) c.in_ok-passes.ensures
    c.in_ok-edges.ensures.view

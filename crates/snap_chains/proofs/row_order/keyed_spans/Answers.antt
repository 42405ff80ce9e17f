use Rattle.std.proofs.Common.{◌≡◌, ℕ, ◌+◌, ◌<◌, [], ◌∷◌, ◌++◌, ◌∙◌, ap, get_or, length, map, subst, sym}
use Rattle.std.proofs.lemmas.List.{length_push}
use Rattle.lay_point.specs.declared.point.Point.{Point}
use Rattle.snap_chains.specs.RowOrder.{HasKeys, IsSpanOf, keyed_point}
use Rattle.snap_chains.specs.declared.row_order.Span.{Span}
use Rattle.snap_chains.proofs.RowOrderLemmas.{spans_more}
use Rattle.snap_chains.proofs.row_order.keyed_spans.Goals as goal

pub keyed_span-requires-clause-keyed : goal.keyed_span-requires-clause-keyed
keyed_span-requires-clause-keyed c =
    let e = c.edge-item.result in
    subst (HasKeys c.args.keys.now) (sym c.edge-item.is) (c.requires.keyed c.loop-edge.edge-index e c.loop-edge-test.true)

pub loop-edge-preserved : goal.loop-edge-preserved
loop-edge-preserved c =
    let points = map keyed_point c.args.keys.now in
    let edges = c.args.edges.now in
    let n = c.loop-edge.edge-index in
    let old = c.loop-edge.spans.items in
    let new = c.keyed_span.result in
    let pushed : c.push.new.self.items ≡ old ++ new ∷ [] = c.in_ok-push.ensures.items in
    record {
      as_many = ap length pushed ∙ length_push old new ∙ ap (λ m. m + 1) c.loop-edge.invariant.as_many;
      spans = subst
          (λ spans. (k : ℕ) (d : Point × Point) (s : Span) → k < n + 1 → IsSpanOf points (get_or edges k d) (get_or spans k s))
          (sym pushed)
          (spans_more points edges old n c.edge-item.result new c.loop-edge-test.true c.loop-edge.invariant.as_many c.edge-item.is
          c.keyed_span.ensures c.loop-edge.invariant.spans);
    }

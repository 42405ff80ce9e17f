use Rattle.std.proofs.Common.{◌≡◌, ℕ, ◌+◌, ◌<◌, [], ◌∷◌, ◌++◌, ◌∙◌, ap, arith, get_or, subst, sym}
use Rattle.lay_point.specs.declared.point.Point.{Point}
use Rattle.snap_chains.specs.RowOrder.{HasKeys, end_key}
use Rattle.snap_chains.proofs.RowOrderLemmas.{keys_more}
use Rattle.snap_chains.proofs.row_order.end_keys.Goals as goal

pub loop-edge-preserved : goal.loop-edge-preserved
loop-edge-preserved c =
    let edges = c.args.edges.now in
    let n = c.loop-edge.edge-index in
    let e = c.edge-item.result in
    let old = c.loop-edge.keys.items in
    let low : c.end_key.result ≡ end_key e.0 = c.end_key.ensures.value ∙ ap end_key c.low.ensures.value in
    let high : c.end_key-in-loop-edge.result ≡ end_key e.1 = c.end_key-in-loop-edge.ensures.value ∙ ap end_key c.high.ensures.value in
    let first : c.push.new.self.items ≡ old ++ end_key e.0 ∷ [] = c.in_ok-push.ensures.items ∙ ap (λ key. old ++ key ∷ []) low in
    let both : c.push-in-loop-edge.new.self.items ≡ (old ++ end_key e.0 ∷ []) ++ end_key e.1 ∷ [] =
    c.in_ok-push-2.ensures.items ∙ (λ t. first t ++ high t ∷ []) in
    subst (λ keys. (k : ℕ) (d : Point × Point) → k < n + 1 → HasKeys keys (get_or edges k d)) (sym both)
    (keys_more old edges n e c.loop-edge-test.true c.edge-item.is c.loop-edge.invariant)

pub returns : goal.returns
returns c = λ k d less. c.loop-edge.invariant k d (omega (arith, less, c.loop-edge-test.false))

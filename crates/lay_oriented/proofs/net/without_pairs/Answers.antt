use Rattle.std.proofs.Common.{inl, refl, ap, ◌∙◌}
use Rattle.lay_point.specs.Parity.{parity, xor}
use Rattle.lay_oriented.proofs.NetLemmas.{parity_none, parity_pushed, parity_struck}
use Rattle.lay_oriented.proofs.net.without_pairs.Goals as goal

pub loop-edge-init : goal.loop-edge-init
loop-edge-init c = λ test either. ap (λ l. xor (parity test l) (parity test c.args.edges.now)) c.new-kept.ensures.items

pub loop-edge-preserved-in-Some-behind_same : goal.loop-edge-preserved-in-Some-behind_same
loop-edge-preserved-in-Some-behind_same c = λ test either.
    let e = c.in-Some.edge.now in
    let behind = c.in-Some.behind.now in
    parity_struck test c.loop-edge.kept.items e c.loop-edge.left.now behind c.in-Some-behind_same.rest.now c.args.edges.now
    c.in-Some.ensures.cases.0 c.in-Some-behind_same.ensures (c.loop-edge.invariant test either)

pub loop-edge-preserved : goal.loop-edge-preserved
loop-edge-preserved c = λ test either.
    let e = c.in-Some.edge.now in
    let behind = c.in-Some.behind.now in
    ap (λ l. xor (parity test l) (parity test behind)) c.in_ok-push.ensures.items
    ∙ parity_pushed test either c.loop-edge.kept.items e e c.loop-edge.left.now behind c.args.edges.now
    (inl refl) c.in-Some.ensures.cases.0 (c.loop-edge.invariant test either)

pub returns : goal.returns
returns c = λ test either. parity_none test c.loop-edge.kept.items c.loop-edge.left.now c.args.edges.now c.in_default.ensures.cases
    (c.loop-edge.invariant test either)

use Rattle.std.proofs.Common.{◌≡◌, pos, ap, arith}
use Rattle.lay_point.proofs.Signs.{linear}
use Rattle.lay_oriented.specs.Winding.{sum_of}
use Rattle.lay_oriented.proofs.AlikeLemmas.{alike_none, alike_pushed}
use Rattle.lay_oriented.proofs.directed_net.without_opposites.Goals as goal

pub loop-edge-init : goal.loop-edge-init
loop-edge-init c = λ f laws.
    let none : sum_of f c.new-kept.result.items ≡ pos 0 = ap (sum_of f) c.new-kept.ensures.items in omega (arith, linear)

pub loop-edge-preserved : goal.loop-edge-preserved
loop-edge-preserved c = λ f laws.
    alike_pushed f c.add_or_cancel.new.kept.items c.loop-edge.kept.items c.in-Some.edge.now c.loop-edge.left.now c.in-Some.behind.now
    c.args.edges.now (c.in_ok-add_or_cancel.ensures f laws) c.in-Some.ensures.cases.0 (c.loop-edge.invariant f laws)

pub returns : goal.returns
returns c = λ f laws. alike_none f c.loop-edge.kept.items c.loop-edge.left.now c.args.edges.now c.in_default.ensures.cases
    (c.loop-edge.invariant f laws)

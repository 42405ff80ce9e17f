use Rattle.std.proofs.Common.{◌≡◌, length, rules, sym, subst}
use Rattle.snap_pixels.specs.Kinds.{AreParallelAll}
use Rattle.snap_pixels.proofs.HotLemmas.{IsCrossed-step, IsCrossed-whole}
use Rattle.snap_pixels.proofs.search.add_crossings.Goals as goal

pub loop-rest-init : goal.loop-rest-init
loop-rest-init c = λ p. (λ h. h, λ h. h)

pub loop-rest-preserved : goal.loop-rest-preserved
loop-rest-preserved c =
    let run = c.split_at.result.0.now in
    let later = c.split_at.result.1.now in
    IsCrossed-step c.args.segments.now c.loop-rest.rest.now run later c.args.centres.now c.loop-rest.centres c.cross_run.new.centres
    c.split_at.ensures.by_index.0
    (subst AreParallelAll (sym c.split_at.ensures.front) c.run_length.ensures.parallel)
    c.in_ok-cross_run.ensures c.loop-rest.invariant

pub returns : goal.returns
returns c =
    let none : length c.loop-rest.rest.now ≡ 0 = search rules in
    IsCrossed-whole c.args.segments.now c.loop-rest.rest.now c.args.centres.now c.loop-rest.centres none c.loop-rest.invariant

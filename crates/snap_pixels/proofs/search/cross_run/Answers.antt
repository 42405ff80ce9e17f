use Rattle.std.proofs.Common.{sym, rules}
use Rattle.snap_pixels.proofs.MarkLemmas.{RunCrosses-step, RunCrosses-whole}
use Rattle.snap_pixels.proofs.PartLemmas.{through}
use Rattle.snap_pixels.proofs.search.cross_run.Goals as goal

pub loop-segment-preserved : goal.loop-segment-preserved
loop-segment-preserved c = λ p. through (c.thin.ensures p)
    (RunCrosses-step c.segment-item.result c.args.run.now c.args.later.now c.loop-segment.segment-index
    c.args.centres.now c.loop-segment.centres c.cross_later.new.centres
    (search rules) (sym c.segment-item.is) c.in_ok-cross_later.ensures c.loop-segment.invariant p)

pub returns : goal.returns
returns c =
    RunCrosses-whole c.args.run.now c.args.later.now c.args.centres.now c.loop-segment.centres
    c.loop-segment.segment-index (search rules) c.loop-segment.invariant

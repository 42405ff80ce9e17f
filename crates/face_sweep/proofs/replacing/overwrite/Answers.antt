-- The next element is overwritten.
use Rattle.std.proofs.Common.{◌+◌, ◌∙◌, ap, set, arith}
use Rattle.face_sweep.proofs.ReplaceLemmas.{set_more}
use Rattle.face_sweep.proofs.replacing.overwrite.Goals as goal

pub loop-index-preserved : goal.loop-index-preserved
loop-index-preserved g c =
    let x = c.index-others-index.result in
    ap (set c.loop-index.list.items (c.args.from + c.loop-index.index)) c.index-others-index.is
    ∙ set_more c.args.list.now.items c.loop-index.list.items c.args.others.now x c.args.from c.loop-index.index
    (omega (arith, c.requires, c.loop-index-test.true)) c.loop-index-test.true c.loop-index.invariant

use Rattle.std.proofs.Common.{◌≡◌, length}
use Rattle.face_sweep.specs.Blocks.{IsSame}
use Rattle.face_sweep.proofs.blocks.Blocks.with_all_to.Given as goal

abbrev pub invariant-loop-blocks : goal.invariant-loop-blocks
invariant-loop-blocks g l = record {
  same : IsSame l.fn.self l.blocks;
  start : l.blocks.start ≡ l.fn.self.start;
}

abbrev pub decreases-loop-blocks : goal.decreases-loop-blocks
decreases-loop-blocks g l = length l.blocks.after.items

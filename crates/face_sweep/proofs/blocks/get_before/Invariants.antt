use Rattle.std.proofs.Common.{◌≡◌, ◌+◌, ◌<◌, ◌≤◌, length, take}
use Rattle.face_sweep.specs.Blocks.{all_before}
use Rattle.face_sweep.proofs.blocks.get_before.Given as goal

-- the element isn't after the block at `at`
abbrev pub invariant-loop-start : goal.invariant-loop-start
invariant-loop-start g l = record {
  bound : l.at ≤ length l.blocks;
  start : l.start ≡ length (all_before (take l.at l.blocks));
  end : l.index < length (all_before (take (l.at + 1) l.blocks));
}

abbrev pub decreases-loop-start : goal.decreases-loop-start
decreases-loop-start g l = l.at

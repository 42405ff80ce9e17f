use Rattle.std.proofs.Common.{◌≡◌, ◌+◌, ◌<◌, length, get_or, take}
use Rattle.face_sweep.specs.Blocks.{all_after}
use Rattle.face_sweep.proofs.blocks.get_after.Given as goal

-- the element is that many behind in the blocks up to that at `at`
abbrev pub invariant-loop-left : goal.invariant-loop-left
invariant-loop-left g l = record {
  bound : l.at < length l.blocks;
  left : l.left < length (all_after (take (l.at + 1) l.blocks));
  same : (d : g.row.T.Denot) → get_or (all_after l.blocks) l.index d ≡ get_or (all_after (take (l.at + 1) l.blocks)) l.left d;
}

abbrev pub decreases-loop-left : goal.decreases-loop-left
decreases-loop-left g l = l.at

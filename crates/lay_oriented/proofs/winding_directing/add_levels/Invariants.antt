use Rattle.std.proofs.Common.{length}
use Rattle.lay_oriented.proofs.winding_directing.add_levels.Given as goal

abbrev pub decreases-loop-edge : goal.decreases-loop-edge
decreases-loop-edge l = length l.left

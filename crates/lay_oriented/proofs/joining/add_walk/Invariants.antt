use Rattle.std.proofs.Common.{length}
use Rattle.lay_oriented.proofs.joining.add_walk.Given as goal

abbrev pub decreases-loop-point : goal.decreases-loop-point
decreases-loop-point l = length l.left

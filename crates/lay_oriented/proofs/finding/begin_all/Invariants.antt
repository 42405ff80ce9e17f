use Rattle.std.proofs.Common.{length}
use Rattle.lay_oriented.proofs.finding.begin_all.Given as goal

abbrev pub decreases-loop-side : goal.decreases-loop-side
decreases-loop-side l = length l.left

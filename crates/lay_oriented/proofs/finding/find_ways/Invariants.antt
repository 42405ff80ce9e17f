use Rattle.std.proofs.Common.{length}
use Rattle.lay_oriented.proofs.finding.find_ways.Given as goal

abbrev pub decreases-loop-corner : goal.decreases-loop-corner
decreases-loop-corner l = length l.left

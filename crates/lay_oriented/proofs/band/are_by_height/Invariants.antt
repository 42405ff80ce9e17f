use Rattle.std.proofs.Common.{◌≡◌, length}
use Rattle.lay_oriented.specs.Slants.{are_by_height}
use Rattle.lay_oriented.proofs.band.are_by_height.Given as goal

-- it depends on those that are left
abbrev pub invariant-loop-slant : goal.invariant-loop-slant
invariant-loop-slant l = are_by_height l.left ≡ are_by_height l.slants

abbrev pub decreases-loop-slant : goal.decreases-loop-slant
decreases-loop-slant l = length l.left

use Rattle.std.proofs.Common.{◌≡◌, ◌++◌, length}
use Rattle.lay_oriented.specs.Slants.{slants_of}
use Rattle.lay_oriented.proofs.slant.slants_of.Given as goal

-- the slants so far, and those of the edges that are left
abbrev pub invariant-loop-edge : goal.invariant-loop-edge
invariant-loop-edge l = l.slants.items ++ slants_of l.left ≡ slants_of l.edges

abbrev pub decreases-loop-edge : goal.decreases-loop-edge
decreases-loop-edge l = length l.left

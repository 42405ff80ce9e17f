use Rattle.std.proofs.Common.{◌≡◌, ◌++◌, length}
use Rattle.lay_oriented.specs.Slants.{ending_above}
use Rattle.lay_oriented.proofs.sweep.ending_above.Given as goal

-- those so far, and those of the slants that are left
abbrev pub invariant-loop-slant : goal.invariant-loop-slant
invariant-loop-slant l = l.kept.items ++ ending_above l.fn.height l.left ≡ ending_above l.fn.height l.slants

abbrev pub decreases-loop-slant : goal.decreases-loop-slant
decreases-loop-slant l = length l.left

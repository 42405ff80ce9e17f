use Rattle.std.proofs.Common.{◌≡◌, true, length}
use Rattle.lay_oriented.specs.Slants.{take_turns}
use Rattle.lay_oriented.proofs.band.take_turns.Given as goal

-- it depends on those that are left
abbrev pub invariant-loop-slant : goal.invariant-loop-slant
invariant-loop-slant l = take_turns l.low l.high l.up l.left ≡ take_turns l.low l.high true l.slants

abbrev pub decreases-loop-slant : goal.decreases-loop-slant
decreases-loop-slant l = length l.left

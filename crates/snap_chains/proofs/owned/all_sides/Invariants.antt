use Rattle.std.proofs.Common.{take}
use Rattle.snap_chains.specs.OwnedRings.{AreSides}
use Rattle.snap_chains.proofs.owned.all_sides.Given as goal

-- the sides of the rings so far
abbrev pub invariant-loop-ring : goal.invariant-loop-ring
invariant-loop-ring l = AreSides (take l.ring-index l.rings) l.segments.items

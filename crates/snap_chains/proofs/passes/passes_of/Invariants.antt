use Rattle.std.proofs.Common.{take}
use Rattle.snap_chains.specs.Passes.{ArePassesOf}
use Rattle.snap_chains.proofs.passes.passes_of.Given as goal

-- the passes of the rings so far
abbrev pub invariant-loop-ring : goal.invariant-loop-ring
invariant-loop-ring l = ArePassesOf l._segments l.centres (take l.ring-index l.rings) l.passes.items

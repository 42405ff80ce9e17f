use Rattle.std.proofs.Common.{ℕ, ◌<◌, length}
use Rattle.snap_chains.specs.Clean.{TwoMeetAtEnds}
use Rattle.snap_chains.proofs.checking.first_pair.Given as goal

-- the edges so far meet all later ones at ends only
abbrev pub invariant-loop-first : goal.invariant-loop-first
invariant-loop-first l = (k j : ℕ) → k < l.first → k < j → j < length l.edges → TwoMeetAtEnds l.edges k j

use Rattle.std.proofs.Common.{ℕ, ◌<◌}
use Rattle.snap_chains.specs.Clean.{TwoMeetAtEnds}
use Rattle.snap_chains.proofs.checking.first_after.Given as goal

-- the later edges so far meet it at ends only
abbrev pub invariant-loop-second : goal.invariant-loop-second
invariant-loop-second l = (j : ℕ) → l.fn.first < j → j < l.second → TwoMeetAtEnds l.edges l.fn.first j

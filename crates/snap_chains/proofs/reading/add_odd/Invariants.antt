use Rattle.snap_chains.proofs.OddOwners.{IsOddSoFar}
use Rattle.snap_chains.proofs.reading.add_odd.Given as goal

-- the odd ones so far
abbrev pub invariant-loop-pass : goal.invariant-loop-pass
invariant-loop-pass l = IsOddSoFar l.group l.fn.owners.items l.pass-index l.owners.items

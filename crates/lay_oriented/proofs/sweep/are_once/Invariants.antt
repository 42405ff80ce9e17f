use Rattle.lay_oriented.proofs.SweepLemmas.{IsSwept}
use Rattle.lay_oriented.proofs.sweep.are_once.Given as goal

abbrev pub invariant-loop-height : goal.invariant-loop-height
invariant-loop-height l = IsSwept l.slants l.row l.active.items l.left

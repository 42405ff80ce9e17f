use Rattle.face_rings.proofs.FirstLemmas.{IsPutting}
use Rattle.face_rings.proofs.incidence.firsts_of.Given as goal

abbrev pub invariant-loop-index : goal.invariant-loop-index
invariant-loop-index l = IsPutting l.edges l.ends l.firsts.items l.first l.index

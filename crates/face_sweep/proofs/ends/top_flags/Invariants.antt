use Rattle.face_sweep.proofs.EndLemmas.{AreTopFlagsTo}
use Rattle.face_sweep.proofs.ends.top_flags.Given as goal

-- flags of the places at which the edges so far end
abbrev pub invariant-loop-number : goal.invariant-loop-number
invariant-loop-number l = AreTopFlagsTo l.fn.order.0 l.edges l.spans l.number l.flags.items

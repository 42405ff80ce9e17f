use Rattle.std.proofs.Common.{◌≡◌, [], replicate}
use Rattle.session_steps.proofs.turns.empty_hands.Given as goal

-- as many hands as shares so far
abbrev pub invariant-loop-share : goal.invariant-loop-share
invariant-loop-share l = l.hands.items ≡ replicate l.share-index []

use Rattle.std.proofs.Common.{◌≡◌, [], drop, replicate}
use Rattle.session_steps.specs.Turns.{dealt}
use Rattle.session_steps.proofs.turns.dealt.Given as goal

-- the replies that are left are dealt to the same hands
abbrev pub invariant-loop-session : goal.invariant-loop-session
invariant-loop-session l =
    dealt (drop l.session-index l.order) l.left l.hands.items ≡ dealt l.order l.fn.replies.items (replicate l.sessions [])

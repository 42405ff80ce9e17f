use Rattle.std.proofs.Common.{◌≡◌, ◌++◌, drop}
use Rattle.session_steps.specs.Turns.{in_turn}
use Rattle.session_steps.proofs.turns.in_turn.Given as goal

-- the steps that are left come behind those so far
abbrev pub invariant-loop-session : goal.invariant-loop-session
invariant-loop-session l = l.steps.items ++ in_turn (drop l.session-index l.order) l.left.items ≡ in_turn l.order l.fn.scripts

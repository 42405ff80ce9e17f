use Rattle.std.proofs.Common.{◌≡◌}
use Rattle.session_steps.proofs.turns.shown.Given as goal

-- the hands so far
abbrev pub invariant-loop-hand : goal.invariant-loop-hand
invariant-loop-hand l = l.lists.items ≡ l.yielded

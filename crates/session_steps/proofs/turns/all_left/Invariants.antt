use Rattle.std.proofs.Common.{◌≡◌}
use Rattle.session_steps.proofs.turns.all_left.Given as goal

-- the scripts so far
abbrev pub invariant-loop-script : goal.invariant-loop-script
invariant-loop-script l = l.left.items ≡ l.yielded

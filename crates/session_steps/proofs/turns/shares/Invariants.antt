use Rattle.std.proofs.Common.{◌≡◌, vec_len}
use Rattle.session_steps.proofs.turns.shares.Given as goal

-- a share for each session
abbrev pub invariant-loop-session : goal.invariant-loop-session
invariant-loop-session l = vec_len l.shares ≡ l.sessions

-- Steps with their replies.
use Rattle.std.proofs.Common.{ℕ, List}
use Rattle.session_steps.specs.declared.Reply.{Reply}
use Rattle.session_steps.specs.declared.Step.{Step}

-- a session's step, and what it was answered
pub record Event (S R : Type 0) : Type 0 where
  pub session : ℕ
  pub step : S
  pub reply : R

-- steps of sessions on a book, in order
abbrev pub Events : Type 0
Events = List (Event Step Reply)

-- What holds of every reply and its line, and of every order and its lines.
use Rattle.std.specs.Prelude.{◌≡◌, ◌⊎◌, ℕ, ◌<◌, ◌^◌, List}
use Rattle.std.specs.List.{AllByRecursion}
use Rattle.session_steps.specs.declared.Reply.{Reply}
use Rattle.job_text.specs.Order.{order_text}
use Rattle.job_text.specs.Replies.{reply_text}
use Rattle.job_laws.specs.Numbers.{numbers_in}
use Rattle.job_laws.specs.Told.{CanTell, IsCommitted}

-- numbers of 64 bits
abbrev pub IsCount : ℕ → Type 0
IsCount n = n < 2 ^ 64

-- what two lines tell: the same session, the same step, and the same reply, or of both that a commit was accepted
pub record TellTheSame (session step : ℕ) (a : Reply) (other turn : ℕ) (b : Reply) : Type 0 where
  pub sessions : session ≡ other
  pub steps : step ≡ turn
  pub replies : (a ≡ b) ⊎ (IsCommitted a × IsCommitted b)

-- lines of replies that are the same tell the same
abbrev pub LinesTellReplies : Type 0
LinesTellReplies = (session step : ℕ) (a : Reply) (other turn : ℕ) (b : Reply) → IsCount session → IsCount step → CanTell a
    → IsCount other → IsCount turn → CanTell b → reply_text session step a ≡ reply_text other turn b
    → TellTheSame session step a other turn b

-- the numbers in the lines of an order are the order
abbrev pub OrdersAreRead : Type 0
OrdersAreRead = (order : List ℕ) → AllByRecursion IsCount order → numbers_in (order_text order) ≡ order

-- so orders of the same lines are the same
abbrev pub OrdersAreTold : Type 0
OrdersAreTold = (a b : List ℕ) → AllByRecursion IsCount a → AllByRecursion IsCount b → order_text a ≡ order_text b → a ≡ b

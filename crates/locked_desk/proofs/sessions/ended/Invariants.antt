use Rattle.locked_desk.specs.Jobs.{AllSucceeded}
use Rattle.locked_desk.proofs.sessions.ended.Given as goal

abbrev pub invariant-loop-outcome : goal.invariant-loop-outcome
invariant-loop-outcome g l = AllSucceeded l.yielded l.seats.items l.replies.items

-- The steps so far were answered so, and the seat has gained their answers.
use Rattle.locked_desk.specs.Runs.{AreAnswers, RanSteps}
use Rattle.std.specs.Prelude.{None}
use Rattle.locked_desk.proofs.steps.run_job.Given as goal

abbrev pub invariant-loop-step : goal.invariant-loop-step
invariant-loop-step g l = record {
  ran : RanSteps l.fn.desk (record { seat = l.fn.job.seat; work = None }) l.yielded l.replies.items
      (record { seat = l.seat; work = l.held });
  answers : AreAnswers l.fn.job.seat l.replies.items l.seat;
}

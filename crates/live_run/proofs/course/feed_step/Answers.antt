use Rattle.std.proofs.Common.{ap, refl}
use Rattle.live_run.specs.Journal.{entries_by}
use Rattle.live_run.specs.Live.{after_line, run_of, said_of}
use Rattle.live_run.specs.Journal.{kept_line}
use Rattle.live_run.proofs.SaidLemmas.{ends_so, goes_on}
use Rattle.live_run.proofs.course.feed_step.Goals as goal

-- the answer was given; or it wasn't
pub returns-in-Ok : goal.returns-in-Ok
returns-in-Ok g c =
    goes_on g.O.Out.written g.O.Out.failures g.J.Journal.kept g.J.Journal.losses (c.args.out.now, c.args.journal.now)
    (c.give_answer.new.out, c.give_answer.new.journal) (run_of c.in_ok-live.live) (said_of c.in_ok-live.answer)
    (after_line (run_of c.args.live) c.args.line.now) c.in_ok-live.live _ (kept_line c.args.line.now) _ refl c.in_ok-live.ensures.answer
    (ap (λ k. entries_by k c.args.line.now) c.in_ok-live.ensures.keeping) c.in-Ok.ensures

pub returns-in-Err : goal.returns-in-Err
returns-in-Err g c =
    ends_so g.O.Out.written g.O.Out.failures g.J.Journal.kept g.J.Journal.losses (c.args.out.now, c.args.journal.now)
    (c.give_answer.new.out, c.give_answer.new.journal) (run_of c.in_ok-live.live) (said_of c.in_ok-live.answer)
    (after_line (run_of c.args.live) c.args.line.now) _ (kept_line c.args.line.now) c.in-Err.end c.in_ok-live.ensures.answer
    (ap (λ k. entries_by k c.args.line.now) c.in_ok-live.ensures.keeping) c.in-Err.ensures

use Rattle.std.proofs.Common.{rules, ◌≡◌, arith, length}
use Rattle.locked_desk.proofs.AllLemmas.{is_run}
use Rattle.locked_desk.proofs.sessions.run_sessions.Goals as goal

pub returns-in-Ok : goal.returns-in-Ok
returns-in-Ok g c =
    let len : c.in_ok-jobs.jobs.len ≡ length c.in_ok-jobs.jobs.items = search rules in
    is_run c.args.desk c.args.seats.items c.args.scripts c.in_ok-jobs.jobs.items c.in_ok-outcomes.outcomes.items c.in_ok-seats.seats.items
    c.in_ok-seats.replies c.in-Ok.closed.book (search rules) (search rules) (λ i d e below. c.in_ok-outcomes.ensures.each i d e (omega
    (arith, len, below))) (search rules) (search rules)

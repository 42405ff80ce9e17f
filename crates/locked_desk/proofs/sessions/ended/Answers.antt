use Rattle.std.proofs.Common.{rules}
use Rattle.locked_desk.proofs.AllLemmas.{ends_after}
use Rattle.locked_desk.proofs.sessions.ended.Goals as goal

pub loop-outcome-preserved : goal.loop-outcome-preserved
loop-outcome-preserved g c =
    let loop = c.loop-outcome in
    ends_after loop.yielded loop.seats.items c.push.new.self.items loop.replies.items c.push-in-loop-outcome.new.self.items
    c.in-Some.outcome
    c.in_ok-seat.field-0 loop.invariant (search rules) (search rules) (search rules)

use Rattle.std.proofs.Common.{rules}
use Rattle.locked_desk.proofs.AllLemmas.{job_after}
use Rattle.locked_desk.proofs.sessions.jobs_of.Goals as goal

pub loop-steps-preserved : goal.loop-steps-preserved
loop-steps-preserved g c =
    let loop = c.loop-steps in record {
      jobs = job_after c.args.seats.items loop.yielded loop.jobs.items c.push.new.self.items c.in-Some.steps
          (record { seat = c.in-Some-take_seat.seat; steps = c.in-Some.steps }) loop.invariant.jobs (search rules) (search rules)
          (search rules);
      among = λ seat there. loop.invariant.among seat (c.take_seat.ensures.rest seat there);
    }

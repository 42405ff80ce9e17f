-- The sessions so far have their jobs, with seats that were given.
use Rattle.locked_desk.specs.Jobs.{AreAmong, AreJobs}
use Rattle.locked_desk.proofs.sessions.jobs_of.Given as goal

abbrev pub invariant-loop-steps : goal.invariant-loop-steps
invariant-loop-steps g l = record {
  jobs : AreJobs l.fn.seats.items 1 l.yielded l.jobs.items;
  among : AreAmong l.fn.seats.items l.seats.items;
}

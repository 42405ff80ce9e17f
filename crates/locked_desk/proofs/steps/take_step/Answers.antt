use Rattle.locked_desk.proofs.RunLemmas.{steps_do}
use Rattle.locked_desk.proofs.steps.take_step.Goals as goal

pub returns-in-Some-held : goal.returns-in-Some-held
returns-in-Some-held g c =
    steps_do c.args.desk.now c.args.held c.args.seat.now c.args.step c.in-Some-held.work c.run_command-reply.result.1 c.in-Do.command
    c.run_command-reply.result.0 c.in-Some-held.is c.in-Do.is c.run_command-reply.ensures

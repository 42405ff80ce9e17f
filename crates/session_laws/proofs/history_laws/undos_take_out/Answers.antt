use Rattle.session_laws.proofs.Undoing.{at_once, machine_takes_out, program_takes_out}
use Rattle.session_laws.proofs.history_laws.undos_take_out.Goals as goal

pub returns-clause-machine : goal.returns-clause-machine
returns-clause-machine c = machine_takes_out

pub returns-clause-program : goal.returns-clause-program
returns-clause-program c = program_takes_out

pub returns-clause-at_once : goal.returns-clause-at_once
returns-clause-at_once c = at_once

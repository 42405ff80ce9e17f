use Rattle.session_laws.proofs.Runs.{lead, machine, program}
use Rattle.session_laws.proofs.Texts.{bases}
use Rattle.session_laws.proofs.history_laws.steps_lead_to_histories.Goals as goal

pub returns-clause-histories : goal.returns-clause-histories
returns-clause-histories c = lead

pub returns-clause-machine : goal.returns-clause-machine
returns-clause-machine c = machine

pub returns-clause-program : goal.returns-clause-program
returns-clause-program c = program

pub returns-clause-texts : goal.returns-clause-texts
returns-clause-texts c = bases

use Rattle.session_laws.proofs.Causes.{refused_for_cause}
use Rattle.session_laws.proofs.Logs.{logs_keep, logs_lead, logs_put_back, logs_take_out, threads_lead}
use Rattle.session_laws.proofs.history_laws.logs_lead_to_histories.Goals as goal

pub returns-clause-threads : goal.returns-clause-threads
returns-clause-threads c = threads_lead

pub returns-clause-refused : goal.returns-clause-refused
returns-clause-refused c = refused_for_cause

pub returns-clause-histories : goal.returns-clause-histories
returns-clause-histories c = logs_lead

pub returns-clause-operations : goal.returns-clause-operations
returns-clause-operations c = logs_keep

pub returns-clause-undo : goal.returns-clause-undo
returns-clause-undo c = logs_take_out

pub returns-clause-at_once : goal.returns-clause-at_once
returns-clause-at_once c = logs_put_back

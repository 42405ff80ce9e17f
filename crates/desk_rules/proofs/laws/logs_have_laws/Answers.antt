use Rattle.desk_rules.proofs.CloseLemmas.{closes}
use Rattle.desk_rules.proofs.LawLemmas.{as_many_are_all, logs_are_kept, logs_lead_to_one}
use Rattle.desk_rules.proofs.MeantLemmas.{stepped_work}
use Rattle.desk_rules.proofs.laws.logs_have_laws.Goals as goal

pub returns : goal.returns
returns c = record { kept = logs_are_kept; one = logs_lead_to_one; all = as_many_are_all; closes = closes; commit = stepped_work }

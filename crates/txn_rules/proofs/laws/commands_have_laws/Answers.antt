use Rattle.txn_rules.proofs.LawProofs.{plans_covered, plans_local, reached_walks}
use Rattle.txn_rules.proofs.laws.commands_have_laws.Goals as goal

pub returns : goal.returns
returns c = record { local = plans_local; covered = plans_covered; reached = reached_walks }

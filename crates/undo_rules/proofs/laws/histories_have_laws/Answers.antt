use Rattle.undo_rules.proofs.Committing.{commits}
use Rattle.undo_rules.proofs.HistoryLaws.{puts_back, replays, takes_out}
use Rattle.undo_rules.proofs.laws.histories_have_laws.Goals as goal

pub returns : goal.returns
returns c = record { replay = replays; undo = takes_out; redo = puts_back; commit = commits }

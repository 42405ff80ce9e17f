use Rattle.undo_rules.proofs.CommitLaws.{commit_keeps}
use Rattle.undo_rules.proofs.OpenLaws.{open_keeps, refused_keeps, stale_keeps}
use Rattle.undo_rules.proofs.StepLaws.{redo_keeps, undo_keeps}
use Rattle.undo_rules.proofs.laws.calls_keep_the_book.Goals as goal

pub returns : goal.returns
returns c = record {
  open_call = open_keeps;
  undo = undo_keeps;
  redo = redo_keeps;
  commit = commit_keeps;
  stale = stale_keeps;
  refusal = refused_keeps;
}

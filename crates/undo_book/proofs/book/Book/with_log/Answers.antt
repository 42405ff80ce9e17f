use Rattle.std.proofs.Common.{[], rules, refl}
use Rattle.undo_book.specs.Places.{IndexesByName}
use Rattle.undo_book.proofs.ChangeLemmas.{none_so}
use Rattle.undo_book.proofs.IndexedLemmas.{none_indexed}
use Rattle.undo_book.proofs.SinceLemmas.{no_commits_so}
use Rattle.undo_book.proofs.SoundLemmas.{begins_history}
use Rattle.undo_book.proofs.book.Book.with_log.Goals as goal

-- no name has a place
no_places : IndexesByName [] []
no_places txn = refl

pub invariant_of-result-2 : goal.invariant_of-result-2
invariant_of-result-2 c =
    record {
      history = begins_history _ c.base.invariant (search rules) (search rules) (search rules) (search rules);
      places = search rules;
      index = none_indexed _ _ _ (search rules) (search rules) (search rules);
      changes = none_so (search rules) (search rules) (search rules) (search rules);
      commits = no_commits_so (search rules) (search rules) (search rules) (search rules);
    }

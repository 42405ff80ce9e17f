-- The transaction is looked for among those that are left.
use Rattle.std.proofs.Common.{◌≡◌, drop}
use Rattle.undo_rules.specs.Books.{entry_of}
use Rattle.live_questions.proofs.history.entry_of.Given as goal

abbrev pub invariant-loop-entry : goal.invariant-loop-entry
invariant-loop-entry l = entry_of l.txn (drop l.entry-index l.entries) ≡ entry_of l.txn l.entries

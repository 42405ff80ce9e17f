use Rattle.undo_index.proofs.ListedLemmas.{withdrawn}
use Rattle.undo_index.proofs.index.Index.enter.Goals as goal

pub returns-then-is_err-clause-same_writers : goal.returns-then-is_err-clause-same_writers
returns-then-is_err-clause-same_writers c fresh =
    withdrawn c.args.self.now.writers c.add.new.self c.remove.new.self c.args.txn c.args.met.now c.args.place c.in_ok-add.ensures.ok
    c.remove.ensures
    fresh

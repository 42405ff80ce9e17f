use Rattle.txn_work.proofs.Kept.{is_transaction}
use Rattle.txn_work.proofs.work.Work.id.Goals as goal

pub returns-clause-transaction : goal.returns-clause-transaction
returns-clause-transaction c = rw (← c.self.view_is) (is_transaction _ _ c.self.invariant.kept)

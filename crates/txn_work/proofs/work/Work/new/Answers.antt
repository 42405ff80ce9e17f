use Rattle.std.proofs.Common.{rules}
use Rattle.txn_work.proofs.Kept.{is_transaction, new_kept}
use Rattle.txn_work.proofs.work.Work.new.Goals as goal

pub invariant_of-result : goal.invariant_of-result
invariant_of-result c = record {
  kept = new_kept _ (search rules) (search rules) (search rules) (search rules);
  whole = tt;
  refused = tt;
  marks = tt;
}

pub returns-clause-transaction : goal.returns-clause-transaction
returns-clause-transaction c = is_transaction _ _ (new_kept _ (search rules) (search rules) (search rules) (search rules))

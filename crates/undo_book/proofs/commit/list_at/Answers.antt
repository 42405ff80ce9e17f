use Rattle.std.proofs.Common.{◌≡◌, ◌∙◌, false, sym}
use Rattle.std.specs.declared.result.Result.{Result}
use Rattle.std.specs.declared.result.Result.TheVariants.{Err, Ok}
use Rattle.std.specs.Prelude.{OnOk, is_err}
use Rattle.undo_index.proofs.ListedLemmas.{withdrawn}
use Rattle.undo_book.proofs.commit.list_at.Goals as goal

at_ok : {T E P : Type 0} (r : Result T E) → is_err r ≡ false → OnOk r P → P
at_ok (Ok t) h p = p
at_ok (Err e) h p = absurd cc

pub returns-then-is_err-clause-same_writers : goal.returns-then-is_err-clause-same_writers
returns-then-is_err-clause-same_writers c fresh =
    withdrawn c.args.index.now.writers c.enter.new.self.writers c.leave.new.self.writers c.args.txn c.args.marks.now.met c.args.place
    c.in_ok-enter.ensures.writers c.leave.ensures.writers fresh

pub returns-then-is_err-clause-same_readers : goal.returns-then-is_err-clause-same_readers
returns-then-is_err-clause-same_readers c fresh =
    withdrawn c.args.index.now.readers c.enter.new.self.readers c.leave.new.self.readers c.args.txn c.args.marks.now.touched c.args.place
    c.in_ok-enter.ensures.readers c.leave.ensures.readers fresh

-- under its name stands its place
pub returns-clause-places : goal.returns-clause-places
returns-clause-places c =
    (at_ok c.insert.result (sym c.is_err.ensures.value ∙ c.if-is_err.false) c.insert.ensures.updates).0

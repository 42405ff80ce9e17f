-- What a session is answered to a commit, and what it then has open.
use Rattle.std.specs.Prelude.{Option, None, Result, Ok, Err}
use Rattle.txn_commands.specs.declared.command.TxnId.{TxnId}
use Rattle.txn_commands.specs.Transactions.{Transaction}
use Rattle.undo_book.specs.declared.commit.CommitRefusal.{CommitRefusal}
use Rattle.session_steps.specs.declared.Reply.{Reply}
use Rattle.session_steps.specs.declared.Reply.TheVariants.{Committed, Fault}
use Rattle.session_steps.specs.declared.StepFault.TheVariants.{Book}

abbrev pub reply_of : Result TxnId CommitRefusal → Reply
reply_of (Ok id) = Committed id
reply_of (Err refusal) = Fault (Book refusal.fault)

abbrev pub work_of : Result TxnId CommitRefusal → Option Transaction
work_of (Ok id) = None
work_of (Err refusal) = refusal.work

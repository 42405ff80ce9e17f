-- Undo and redo as one call, with the way that it goes.
-- Source: this project's own.
use Rattle.std.specs.Prelude.{ℕ, Bool, true, false, Option, Result}
use Rattle.txn_commands.specs.declared.command.TxnId.{TxnId}
use Rattle.undo_rules.specs.declared.log.Answer.{Answer}
use Rattle.undo_rules.specs.declared.log.BookFault.{BookFault}
use Rattle.undo_rules.specs.declared.log.Call.{Call}
use Rattle.undo_rules.specs.Books.{History}
use Rattle.undo_rules.specs.Steps.{redo_step, undo_step}
use Rattle.undo_book.specs.Marks.{mark_answer, mark_call}
use Rattle.desk_rules.specs.Refusals.{redo_fault, undo_fault}
use Rattle.locked_desk.specs.declared.way.Way.{Way}
use Rattle.locked_desk.specs.declared.way.Way.TheVariants.{Back, Forth}

-- whether the transaction is live after it
abbrev pub leaves_live : Way → Bool
leaves_live Back = false
leaves_live Forth = true

-- the call that takes a transaction this way
abbrev pub call_for : Way → TxnId → Call
call_for way txn = mark_call (leaves_live way) txn

-- the answer to such a call that is accepted
abbrev pub answer_for : Way → Answer
answer_for way = mark_answer (leaves_live way)

-- the book's answer to it
abbrev pub given_for : Way → ℕ → TxnId → History → Result (Unit {0}) BookFault
given_for Back session txn h = (undo_step h session txn).0
given_for Forth session txn h = (redo_step h session txn).0

-- and its refusal, where it is one
abbrev pub fault_for : Way → ℕ → TxnId → History → Option BookFault
fault_for Back session txn = undo_fault session txn
fault_for Forth session txn = redo_fault session txn

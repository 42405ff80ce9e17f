-- The test of two logged calls tells exactly.
use Rattle.std.proofs.Common.{◌≡◌, ◌&&◌, ◌==◌, true, false, ap, refl}
use Rattle.std.proofs.lemmas.Bool.{and_parts, false≢true}
use Rattle.std.proofs.lemmas.Bool.Decides.{Decides-eqb}
use Rattle.undo_rules.specs.declared.log.Logged.{Logged}
use Rattle.undo_rules.specs.declared.log.Answer.{Answer}
use Rattle.undo_rules.specs.declared.log.Call.{Call}
use Rattle.undo_rules.specs.contracts.log.CallPartialEq.TheImpl as call
use Rattle.undo_rules.specs.contracts.log.AnswerPartialEq.TheImpl as answer
use Rattle.undo_rules.specs.contracts.log.BookFaultPartialEq.TheImpl as fault
use Rattle.txn_commands.specs.contracts.command.TxnIdPartialEq.TheImpl as txn_id
use Rattle.txn_commands.proofs.Exact.{commands_exact, txn_exact}
use Rattle.txn_commands.specs.contracts.command.CommandPartialEq.TheImpl as command
use Rattle.undo_rules.specs.declared.log.Answer.TheVariants.{Committed, Opened, Redone, Refused, Undone}
use Rattle.undo_rules.specs.declared.log.BookFault.{BookFault}
use Rattle.undo_rules.specs.declared.log.BookFault.TheVariants.{Depends, Foreign, LogFull, Moved, NoMemory, NoTxn}
use Rattle.undo_rules.specs.declared.log.BookFault.TheVariants.{NotLive, SessionFull, Stale, StillLive}
use Rattle.undo_rules.specs.declared.log.Call.TheVariants.{Commit, Open, Redo, Undo}
use Rattle.std.specs.Cmp.Lexicographic.{pointwise}
use Rattle.desk_rules.specs.Same.{logged_eq}

fault_exact : (p q : BookFault) → (fault.ghosts).eq p q ≡ true → p ≡ q
fault_exact NoTxn NoTxn e = refl
fault_exact NotLive NotLive e = refl
fault_exact StillLive StillLive e = refl
fault_exact (Depends s) (Depends t) e = ap Depends (txn_exact s t e)
fault_exact (Moved s) (Moved t) e = ap Moved (txn_exact s t e)
fault_exact (Stale s) (Stale t) e = ap Stale (txn_exact s t e)
fault_exact LogFull LogFull e = refl
fault_exact NoMemory NoMemory e = refl
fault_exact Foreign Foreign e = refl
fault_exact SessionFull SessionFull e = refl
fault_exact p q e = absurd (false≢true e)

answer_exact : (p q : Answer) → (answer.ghosts).eq p q ≡ true → p ≡ q
answer_exact (Opened m) (Opened n) e = ap Opened ((Decides-eqb m n).0 e)
answer_exact Committed Committed e = refl
answer_exact Undone Undone e = refl
answer_exact Redone Redone e = refl
answer_exact (Refused f) (Refused g) e = ap Refused (fault_exact f g e)
answer_exact p q e = absurd (false≢true e)

call_exact : (c d : Call) → (call.ghosts).eq c d ≡ true → c ≡ d
call_exact Open Open e = refl
call_exact (Commit s cs) (Commit t ds) e =
    let parts = and_parts ((txn_id.ghosts).eq s t) (pointwise (command.ghosts).eq cs ds) e in
    λ i. Commit (txn_exact s t parts.0 i) (commands_exact cs ds parts.1 i)
call_exact (Undo s) (Undo t) e = ap Undo (txn_exact s t e)
call_exact (Redo s) (Redo t) e = ap Redo (txn_exact s t e)
call_exact c d e = absurd (false≢true e)

pub logged_exact : (a b : Logged) → logged_eq a b ≡ true → a ≡ b
logged_exact a b e =
    let one = and_parts (a.session == b.session) ((call.ghosts).eq a.call b.call && (answer.ghosts).eq a.answer b.answer) e in
    let two = and_parts ((call.ghosts).eq a.call b.call) ((answer.ghosts).eq a.answer b.answer) one.1 in
    λ i. record {
      session = (Decides-eqb a.session b.session).0 one.0 i;
      call = call_exact a.call b.call two.0 i;
      answer = answer_exact a.answer b.answer two.1 i;
    }

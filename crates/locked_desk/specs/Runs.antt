-- What a session's steps are answered on a desk, and what its seat gains.
use Rattle.std.specs.Prelude.{◌≡◌, ℕ, ◌+◌, ◌++◌, List, [], ◌∷◌, map, Option, None, Some, Result, Ok, Err, ◌⊎◌}
use Rattle.std.specs.List.{AllByRecursion, Contains, filter_map}
use Rattle.txn_commands.specs.declared.command.Command.{Command}
use Rattle.txn_commands.specs.declared.command.TxnId.{TxnId}
use Rattle.txn_commands.specs.declared.command.Done as dones
use Rattle.txn_commands.specs.declared.fault.CmdFault.{CmdFault}
use Rattle.txn_commands.specs.declared.fault.CmdFault.TheVariants.{NoMemory}
use Rattle.txn_commands.specs.Transactions.{Transaction}
use Rattle.txn_work.specs.Answers.{after_command, answer_to}
use Rattle.undo_rules.specs.declared.log.Answer.{Answer}
use Rattle.undo_rules.specs.declared.log.Answer.TheVariants as answers
use Rattle.undo_rules.specs.declared.log.BookFault.{BookFault}
use Rattle.undo_rules.specs.declared.log.Call.{Call}
use Rattle.undo_rules.specs.declared.log.Call.TheVariants as calls
use Rattle.undo_rules.specs.Books.{History}
use Rattle.undo_book.specs.Calls.{handed_back}
use Rattle.session_steps.specs.declared.Reply.{Reply}
use Rattle.session_steps.specs.declared.Reply.TheVariants.{Cancelled, Committed, Done, Fault, Opened, Redone, Undone}
use Rattle.session_steps.specs.declared.Step.{Step}
use Rattle.session_steps.specs.declared.Step.TheVariants.{Cancel, Commit, Do, Open, Redo, Undo}
use Rattle.session_steps.specs.declared.StepFault.TheVariants.{AlreadyOpen, Book, Command as CommandFault, NotOpen}
use Rattle.desk_rules.specs.declared.seat_call.SeatCall.{SeatCall}
use Rattle.desk_rules.specs.Close.{IsClosed}
use Rattle.desk_rules.specs.Legal.{Desk, refusal}
use Rattle.desk_rules.specs.Refusals.{IsRefused, open_fault, redo_fault, undo_fault}
use Rattle.desk_rules.specs.Seats.{GainsLogged, Seat}
use Rattle.locked_desk.specs.declared.fault.DeskFault.{DeskFault}
use Rattle.locked_desk.specs.declared.fault.DeskFault.TheVariants.{Book as DeskBook, Differs}
use Rattle.locked_desk.specs.Desks.{OpensAt, commit_fault}

-- the answer in the log of a step that was answered so, where it is logged
abbrev pub logged_reply : Reply → Option Answer
logged_reply (Opened number) = Some (answers.Opened number)
logged_reply (Committed txn) = Some answers.Committed
logged_reply Undone = Some answers.Undone
logged_reply Redone = Some answers.Redone
logged_reply (Fault (Book fault)) = refusal fault
logged_reply reply = None

-- ---- a session, and what its steps ask of the book

-- a session at its seat, and the transaction that it has open
pub record SeatedSession : Type 0 where
  pub seat : Seat
  pub work : Option Transaction

-- a call of the book: as it is logged, and with what the book's step refuses it, where it does
pub record BookCall : Type 0 where
  pub call : Call
  pub fault : History → Option BookFault

abbrev pub asked_open : Seat → BookCall
asked_open seat = record { call = calls.Open; fault = open_fault seat.session }

abbrev pub asked_commit : Seat → Transaction → BookCall
asked_commit seat work = record { call = calls.Commit work.id work.commands; fault = commit_fault seat.session work }

abbrev pub asked_undo : Seat → TxnId → BookCall
asked_undo seat txn = record { call = calls.Undo txn; fault = undo_fault seat.session txn }

abbrev pub asked_redo : Seat → TxnId → BookCall
asked_redo seat txn = record { call = calls.Redo txn; fault = redo_fault seat.session txn }

-- ---- what becomes of a call

-- the book refuses the call as its step does after such a log, and the seat has the call where it is logged
pub record BookRefuses (desk : Desk) (seat : Seat) (asked : BookCall) (reply : Reply) (end : Seat) : Type 0 where
  pub fault : BookFault
  pub replied : reply ≡ Fault (Book fault)
  pub gains : GainsLogged desk (refusal fault) seat asked.call end
  pub cause : IsRefused desk seat asked.fault fault

-- the call is done, with this reply, and in the seat; or it is refused
abbrev pub Changes : Desk → Seat → BookCall → Reply → Reply → Seat → Type 0
Changes desk seat asked done reply end =
    ((reply ≡ done) × GainsLogged desk (logged_reply done) seat asked.call end) ⊎ BookRefuses desk seat asked reply end

-- an open is answered with a work on the layout after a legal log
pub record OpensSo (desk : Desk) (seat : Seat) (reply : Reply) (after : SeatedSession) : Type 0 where
  pub work : Transaction
  pub replied : reply ≡ Opened work.id.txn
  pub holds : after.work ≡ Some work
  pub opens : OpensAt desk seat work after.seat

abbrev pub reply_to_command : Result dones.Done CmdFault → Reply
reply_to_command (Ok done) = Done done
reply_to_command (Err fault) = Fault (CommandFault fault)

-- the command is answered as it is to be and leaves what it is to leave, or it is out of memory and nothing changes
abbrev pub RunsCommand : Transaction → Command → Reply → Transaction → Type 0
RunsCommand work command reply next =
    ((reply ≡ reply_to_command (answer_to work command)) × (next ≡ after_command work command))
    ⊎ ((reply ≡ Fault (CommandFault NoMemory)) × (next ≡ work))

-- the work is committed, or refused by the book and handed back unless it was stale
pub record CommitsSo (desk : Desk) (seat : Seat) (work : Transaction) (reply : Reply) (after : SeatedSession) : Type 0 where
  pub replied : reply ≡ Committed work.id
  pub gains : GainsLogged desk (Some answers.Committed) seat (calls.Commit work.id work.commands) after.seat
  pub ended : after.work ≡ None

pub record RefusesWork (desk : Desk) (seat : Seat) (work : Transaction) (reply : Reply) (after : SeatedSession) : Type 0 where
  pub refused : BookRefuses desk seat (asked_commit seat work) reply after.seat
  pub back : after.work ≡ handed_back refused.fault work

-- the reply to an undo or a redo
abbrev pub RepliesTo : Result (Unit {0}) DeskFault → Reply → Reply → Type 0
RepliesTo (Ok value) done reply = reply ≡ done
RepliesTo (Err (DeskBook fault)) done reply = reply ≡ Fault (Book fault)
RepliesTo (Err (Differs session place)) done reply = ⊥

-- ---- a step

-- the book isn't called: the reply is this one, the seat is as it was, and this is open
abbrev pub CallsNothing : Reply → Seat → Option Transaction → Reply → SeatedSession → Type 0
CallsNothing answer seat work reply after = (reply ≡ answer) × (after.seat ≡ seat) × (after.work ≡ work)

-- an open, of a session that has this open
abbrev pub StepsByOpen : Desk → Seat → Option Transaction → Reply → SeatedSession → Type 0
StepsByOpen desk seat None reply after =
    OpensSo desk seat reply after ⊎ (BookRefuses desk seat (asked_open seat) reply after.seat × (after.work ≡ None))
StepsByOpen desk seat (Some work) reply after = CallsNothing (Fault AlreadyOpen) seat (Some work) reply after

abbrev pub StepsByCommand : Seat → Option Transaction → Command → Reply → SeatedSession → Type 0
StepsByCommand seat None command reply after = CallsNothing (Fault NotOpen) seat None reply after
StepsByCommand seat (Some work) command reply after =
    (after.seat ≡ seat) × (next : Transaction) × RunsCommand work command reply next × (after.work ≡ Some next)

abbrev pub StepsByCommit : Desk → Seat → Option Transaction → Reply → SeatedSession → Type 0
StepsByCommit desk seat None reply after = CallsNothing (Fault NotOpen) seat None reply after
StepsByCommit desk seat (Some work) reply after = CommitsSo desk seat work reply after ⊎ RefusesWork desk seat work reply after

abbrev pub StepsByCancel : Seat → Option Transaction → Reply → SeatedSession → Type 0
StepsByCancel seat None reply after = CallsNothing (Fault NotOpen) seat None reply after
StepsByCancel seat (Some work) reply after = CallsNothing Cancelled seat None reply after

-- a session's step leads from where it was to where it is, with this reply
abbrev pub StepsTo : Desk → SeatedSession → Step → Reply → SeatedSession → Type 0
StepsTo desk before Open reply after = StepsByOpen desk before.seat before.work reply after
StepsTo desk before (Do command) reply after = StepsByCommand before.seat before.work command reply after
StepsTo desk before Commit reply after = StepsByCommit desk before.seat before.work reply after
StepsTo desk before Cancel reply after = StepsByCancel before.seat before.work reply after
StepsTo desk before (Undo txn) reply after =
    Changes desk before.seat (asked_undo before.seat txn) Undone reply after.seat × (after.work ≡ before.work)
StepsTo desk before (Redo txn) reply after =
    Changes desk before.seat (asked_redo before.seat txn) Redone reply after.seat × (after.work ≡ before.work)

-- ---- all steps of a session

-- the steps, one after another
abbrev pub RanSteps : Desk → SeatedSession → List Step → List Reply → SeatedSession → Type 0
RanSteps desk before [] [] after = after ≡ before
RanSteps desk before [] (reply ∷ replies) after = ⊥
RanSteps desk before (step ∷ steps) [] after = ⊥
RanSteps desk before (step ∷ steps) (reply ∷ replies) after =
    (mid : SeatedSession) × StepsTo desk before step reply mid × RanSteps desk mid steps replies after

-- the replies to the steps that are logged are, in order, the answers of the calls that the seat gained
pub record AreAnswers (seat : Seat) (replies : List Reply) (end : Seat) : Type 0 where
  pub gained : List SeatCall
  pub session : end.session ≡ seat.session
  pub own : end.own ≡ seat.own ++ gained
  pub answers : filter_map logged_reply replies ≡ map (λ (k : SeatCall). k.logged.answer) gained

-- with nothing open at the start
pub record RunsSo (desk : Desk) (seat : Seat) (steps : List Step) (replies : List Reply) (end : Seat) : Type 0 where
  pub last : Option Transaction
  pub ran : RanSteps desk (record { seat = seat; work = None }) steps replies (record { seat = end; work = last })
  pub answers : AreAnswers seat replies end

-- ---- all sessions

-- each session's steps, from this session on, lead from its seat to its seat at the end, with its replies
abbrev pub AllRan : Desk → ℕ → List Seat → List (List Step) → List (List Reply) → List Seat → Type 0
AllRan desk session [] [] [] [] = Unit {0}
AllRan desk session (seat ∷ seats) (steps ∷ scripts) (replies ∷ more) (end ∷ ends) =
    (seat.session ≡ session) × RunsSo desk seat steps replies end × AllRan desk (session + 1) seats scripts more ends
AllRan desk session seats scripts replies ends = ⊥

-- the sessions ran from seats that were given, each from that of its own number, and the desk is closed with those that they led to
pub record IsDeskRun (desk : Desk) (given : List Seat) (scripts : List (List Step)) (replies : List (List Reply)) (book : History)
    : Type 0 where
  pub seats : List Seat
  pub ends : List Seat
  pub among : AllByRecursion (Contains given) seats
  pub ran : AllRan desk 1 seats scripts replies ends
  pub closed : IsClosed desk ends book

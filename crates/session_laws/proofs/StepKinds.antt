-- The kinds of steps: those that the session's own transaction alone decides, those that a full log refuses, those whose
-- work is foreign, and those that are logged.
use Rattle.std.proofs.Common.{◌≡◌, ◌≢◌, ℕ, ◌+◌, Bool, true, false, cond, List, [], ◌∷◌, ◌++◌, Option, None, Some, Result, Ok, Err, map}
use Rattle.std.proofs.Common.{not, drop, nat_le, refl, ap, ◌∙◌}
use Rattle.std.proofs.lemmas.List.{map_push}
use Rattle.txn_commands.specs.declared.command.Command.{Command}
use Rattle.txn_commands.specs.declared.command.Done.{Done}
use Rattle.txn_commands.specs.declared.fault.CmdFault.{CmdFault}
use Rattle.txn_commands.specs.declared.command.TxnId.{TxnId}
use Rattle.txn_commands.specs.Transactions.{Transaction}
use Rattle.txn_work.specs.Answers.{answer_to}
use Rattle.undo_rules.specs.declared.log.Answer.{Answer}
use Rattle.undo_rules.specs.declared.log.Answer.TheVariants.{Refused}
use Rattle.undo_rules.specs.declared.log.BookFault.{BookFault}
use Rattle.undo_rules.specs.declared.log.BookFault.TheVariants.{Foreign, LogFull, NotLive, SessionFull, StillLive}
use Rattle.undo_rules.specs.declared.log.Call.{Call}
use Rattle.undo_rules.specs.declared.log.Call.TheVariants as calls
use Rattle.undo_rules.specs.declared.log.Logged.{Logged}
use Rattle.undo_rules.specs.Books.{History}
use Rattle.undo_rules.specs.Links.{first_moved, first_reader, links_to}
use Rattle.undo_rules.specs.Steps.{Found, after_open, after_redo, after_undo, commit_unless, depends, found, is_log_full, is_own, logged}
use Rattle.undo_rules.specs.Steps.{moved_refusal, opening, or_else, redo_refusal, redo_refusal_at, stale_by, state_of, undo_refusal}
use Rattle.undo_rules.specs.Steps.{undo_refusal_at, unless}
use Rattle.session_steps.specs.declared.Reply.{Reply}
use Rattle.session_steps.specs.declared.Reply.TheVariants.{Fault, Redone, Undone}
use Rattle.session_steps.specs.declared.Step.{Step}
use Rattle.session_steps.specs.declared.Step.TheVariants.{Cancel, Commit, Do, Open, Redo, Undo}
use Rattle.session_steps.specs.declared.StepFault.TheVariants.{Book, NoSession}
use Rattle.session_core.specs.Machine.{command_reply}
use Rattle.job_text.specs.Order.{is_logged, is_logged_fault}
use Rattle.session_laws.proofs.Cores.{Core, changed, committed, core, opened}

-- the sessions of the logged calls
abbrev pub callers_of : History → List ℕ
callers_of h = map (λ call. call.session) h.log

-- the transaction, if one is open, is this session's
abbrev pub IsHeldBy : ℕ → Option Transaction → Type 0
IsHeldBy session work = (txn : Transaction) → work ≡ Some txn → txn.id.session ≡ session

-- the session is there, and its work isn't foreign
abbrev pub IsPlain : Reply → Type 0
IsPlain reply = (reply ≢ Fault (Book Foreign)) × (reply ≢ Fault NoSession)

pub data Kind (h : History) (session : ℕ) (step : Step) (work : Option Transaction) (c : Core) : Type 0 where
  -- on each history it is answered so, and leaves the history
  free : is_logged c.0 ≡ false → IsPlain c.0 → ((other : History) → core other session step work ≡ (c.0, other, c.2))
      → c.1 ≡ h → Kind h session step work c
  full : is_log_full h ≡ true → c ≡ (Fault (Book LogFull), h, work) → Kind h session step work c
  foreign : (txn : Transaction) → work ≡ Some txn → is_own h txn ≡ false → c ≡ (Fault (Book Foreign), h, work) → Kind h session step work c
  -- there was room in the log, and one more call is in it
  noted : is_log_full h ≡ false → is_logged c.0 ≡ true → (IsHeldBy session work → callers_of c.1 ≡ callers_of h ++ session ∷ [])
      → Kind h session step work c

-- a logged call has its caller
caller_more : (log : List Logged) (session : ℕ) (call : Call) (answer : Answer) →
    map (λ (c : Logged). c.session) (log ++ record { session = session; call = call; answer = answer } ∷ [])
    ≡ map (λ (c : Logged). c.session) log ++ session ∷ []
caller_more log session call answer = map_push (λ (c : Logged). c.session) log (record { session = session; call = call; answer = answer })

open_kind : (h : History) (session : ℕ) → Kind h session Open None (core h session Open None)
open_kind h session = by (is_log_full h) (nat_le 65535 (state_of h session).opens) refl where
  by : (b c : Bool) → is_log_full h ≡ b → Kind h session Open None (opened (cond b (Err LogFull, h)
      (cond c (Err SessionFull, logged h session calls.Open (Refused SessionFull)) (Ok (opening h session), after_open h session))))
  by true c is = full is refl
  by false true room = noted room refl (λ held. caller_more h.log session _ _)
  by false false room = noted room refl (λ held. caller_more h.log session _ _)

commit_kind : (h : History) (session : ℕ) (txn : Transaction) → Kind h session Commit (Some txn) (core h session Commit (Some txn))
commit_kind h session txn =
    by (is_log_full h) (is_own h txn) (stale_by h.entries txn.footprint (drop (txn.opened + 1) h.log)) refl refl where
      by : (b c : Bool) (stale : Option TxnId) → is_log_full h ≡ b → is_own h txn ≡ c → Kind h session Commit (Some txn)
          (committed txn (cond b (Err LogFull, h) (cond (not c) (Err Foreign, h) (commit_unless stale h txn))))
      by true c stale is own = full is refl
      by false false stale room own = foreign txn refl own refl
      by false true None room own =
          noted room refl (λ held. caller_more h.log txn.id.session _ _ ∙ ap (λ n. callers_of h ++ n ∷ []) (held txn refl))
      by false true (Some other) room own =
          noted room refl (λ held. caller_more h.log txn.id.session _ _ ∙ ap (λ n. callers_of h ++ n ∷ []) (held txn refl))

-- ---- undo and redo

-- the refusal, if there is one, is logged
abbrev is_noted : Option BookFault → Bool
is_noted None = true
is_noted (Some fault) = is_logged_fault fault

undo_noted : (at : Option Found) → is_noted (undo_refusal_at at) ≡ true
undo_noted None = refl
undo_noted (Some at) = by at.entry.live (first_reader at.entry.writes at.later) where
  by : (live : Bool) (reader : Option TxnId) → is_noted (cond live (depends reader) (Some NotLive)) ≡ true
  by true None = refl
  by true (Some txn) = refl
  by false reader = refl

redo_noted : (at : Option Found) → is_noted (redo_refusal_at at) ≡ true
redo_noted None = refl
redo_noted (Some at) = by at.entry.live (first_reader at.entry.writes at.later)
    (first_moved at.before (links_to at.before at.entry.footprint) at.entry.seen) where
      by : (live : Bool) (reader move : Option TxnId)
          → is_noted (cond live (Some StillLive) (or_else (depends reader) (moved_refusal move))) ≡ true
      by true reader move = refl
      by false None None = refl
      by false None (Some txn) = refl
      by false (Some txn) move = refl

undo_kind : (h : History) (session : ℕ) (txn : TxnId) (work : Option Transaction) →
    Kind h session (Undo txn) work (core h session (Undo txn) work)
undo_kind h session txn work = by (is_log_full h) (undo_refusal h txn) refl (undo_noted (found h txn)) where
  by : (b : Bool) (fault : Option BookFault) → is_log_full h ≡ b → is_noted fault ≡ true → Kind h session (Undo txn) work
      (changed Undone work (cond b (Err LogFull, h) (unless fault h session (calls.Undo txn) (after_undo h session txn))))
  by true fault is told = full is refl
  by false None room told = noted room refl (λ held. caller_more h.log session _ _)
  by false (Some fault) room told = noted room told (λ held. caller_more h.log session _ _)

redo_kind : (h : History) (session : ℕ) (txn : TxnId) (work : Option Transaction) →
    Kind h session (Redo txn) work (core h session (Redo txn) work)
redo_kind h session txn work = by (is_log_full h) (redo_refusal h txn) refl (redo_noted (found h txn)) where
  by : (b : Bool) (fault : Option BookFault) → is_log_full h ≡ b → is_noted fault ≡ true → Kind h session (Redo txn) work
      (changed Redone work (cond b (Err LogFull, h) (unless fault h session (calls.Redo txn) (after_redo h session txn))))
  by true fault is told = full is refl
  by false None room told = noted room refl (λ held. caller_more h.log session _ _)
  by false (Some fault) room told = noted room told (λ held. caller_more h.log session _ _)

-- ---- what the session's own transaction decides

run_kind : (h : History) (session : ℕ) (command : Command) (txn : Transaction) →
    Kind h session (Do command) (Some txn) (core h session (Do command) (Some txn))
run_kind h session command txn = free (plain (answer_to txn command)) (own (answer_to txn command)) (λ other. refl) refl where
  plain : (answer : Result Done CmdFault) → is_logged (command_reply answer) ≡ false
  plain (Ok done) = refl
  plain (Err fault) = refl

  own : (answer : Result Done CmdFault) → IsPlain (command_reply answer)
  own (Ok done) = (λ e. cc, λ e. cc)
  own (Err fault) = (λ e. cc, λ e. cc)

pub kind_of : (h : History) (session : ℕ) (step : Step) (work : Option Transaction) → Kind h session step work (core h session step work)
kind_of h session Open None = open_kind h session
kind_of h session Open (Some txn) = free refl (λ e. cc, λ e. cc) (λ other. refl) refl
kind_of h session (Do command) None = free refl (λ e. cc, λ e. cc) (λ other. refl) refl
kind_of h session (Do command) (Some txn) = run_kind h session command txn
kind_of h session Commit None = free refl (λ e. cc, λ e. cc) (λ other. refl) refl
kind_of h session Commit (Some txn) = commit_kind h session txn
kind_of h session Cancel None = free refl (λ e. cc, λ e. cc) (λ other. refl) refl
kind_of h session Cancel (Some txn) = free refl (λ e. cc, λ e. cc) (λ other. refl) refl
kind_of h session (Undo txn) work = undo_kind h session txn work
kind_of h session (Redo txn) work = redo_kind h session txn work

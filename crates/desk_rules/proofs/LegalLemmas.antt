-- Legal logs grow call by call.
use Rattle.std.proofs.Common.{◌≡◌, ℕ, ◌+◌, ◌-◌, Bool, true, false, cond, not, ◌==◌, List, [], ◌∷◌, ◌++◌, length, drop, Option, None, Some}
use Rattle.std.proofs.Common.{Result, Ok, Err, refl, ap, sym, ◌∙◌, subst, inl, inr, nat_le, replicate, slice_set}
use Rattle.std.proofs.Common.{suc, zero}
use Rattle.std.proofs.lemmas.Bool.Decides.{Decides-eqb}
use Rattle.lay_layouts.specs.Sound.{IsSound}
use Rattle.txn_commands.specs.declared.command.Command.{Command}
use Rattle.txn_commands.specs.declared.command.TxnId.{TxnId}
use Rattle.txn_commands.specs.Effects.{Run, after_each, begun}
use Rattle.txn_commands.specs.Transactions.{Transaction}
use Rattle.undo_rules.specs.declared.log.Answer.{Answer}
use Rattle.undo_rules.specs.declared.log.Answer.TheVariants.{Opened, Committed, Undone, Redone, Refused}
use Rattle.undo_rules.specs.declared.log.BookFault.{BookFault}
use Rattle.undo_rules.specs.declared.log.BookFault.TheVariants.{Depends, Foreign, LogFull, Moved, NoTxn}
use Rattle.undo_rules.specs.declared.log.BookFault.TheVariants.{NotLive, SessionFull, Stale, StillLive}
use Rattle.undo_rules.specs.declared.log.Call.{Call}
use Rattle.undo_rules.specs.declared.log.Call.TheVariants.{Commit, Open, Redo, Undo}
use Rattle.undo_rules.specs.declared.log.Logged.{Logged}
use Rattle.undo_rules.specs.Books.{History, Pending, SessionState}
use Rattle.undo_rules.specs.Links.{first_moved, first_reader, links_to}
use Rattle.undo_rules.specs.Steps.{Found, after_commit, after_open, after_redo, after_stale, after_undo, commit_step, commit_unless}
use Rattle.undo_rules.specs.Steps.{depends}
use Rattle.undo_rules.specs.Steps.{ended_state, found, is_log_full, is_own, logged, moved_refusal, open_step, opening, or_else}
use Rattle.undo_rules.specs.Steps.{redo_refusal}
use Rattle.undo_rules.specs.Steps.{redo_refusal_at}
use Rattle.undo_rules.specs.Steps.{stale_by, state_of, undo_refusal, undo_refusal_at, unless, unused}
use Rattle.undo_rules.proofs.OpenLaws.{set_cases}
use Rattle.desk_rules.specs.Legal.{ArePendingSound, Grew, Grown, IsLegal, Leads, Stepped, TakesCall, commit_meant, meant}
use Rattle.desk_rules.specs.Legal.{meant_by, meant_of}
use Rattle.desk_rules.specs.Legal.{opened_answer, outcome, refusal, told, told_open, work_on}

pub legal_push : (n : ℕ) (h mid end : History) (log : List Logged) (c : Logged) → IsLegal n h log mid → Leads n mid c end
    → IsLegal n h (log ++ c ∷ []) end
legal_push n h mid end [] c legal leads = (end, subst (λ s. Leads n s c end) legal leads, refl)
legal_push n h mid end (d ∷ ds) c legal leads = (legal.0, legal.1, legal_push n legal.0 mid end ds c legal.2 leads)

-- ---- a step grows the log by its call, or changes nothing

-- what is set in place of a session's state has a sound layout pending, or none
set_pending : (states : List SessionState) (i : ℕ) (state : SessionState) → ((pending : Pending) → state.pending ≡ Some pending
    → IsSound pending.snapshot)
    → ArePendingSound states → ArePendingSound (slice_set states i state)
set_pending states i state its all j other pending at waits = elim (set_cases states i j state other at) [
  | inl here ↦ its pending (ap (λ (s : SessionState). s.pending) here.1 ∙ waits)
  | inr there ↦ all j other pending there.1 waits
]

-- sessions that never opened a transaction have none
pub none_pending : (n : ℕ) → ArePendingSound (replicate n unused)
none_pending zero i state pending at waits = absurd cc
none_pending (suc n) zero state pending at waits =
    let same : unused ≡ state = cc in
    let none : None ≡ Some pending = ap (λ (s : SessionState). s.pending) same ∙ waits in absurd cc
none_pending (suc n) (suc i) state pending at waits = none_pending n i state pending at waits

-- a call that is logged and leaves the sessions
grew_logged : (h : History) (session : ℕ) (call : Call) (answer : Answer) → Grew h session call answer (logged h session call answer)
grew_logged h session call answer = record { log = refl; base = refl; limit = refl; pending = λ sound all. all }

grew_open : (h : History) (session : ℕ) → Grew h session Open (Opened ((state_of h session).opens + 1)) (after_open h session)
grew_open h session = record {
  log = refl;
  base = refl;
  limit = refl;
  pending = λ sound all.
      set_pending h.sessions (session - 1)
      (record { opens = (state_of h session).opens + 1; pending = Some (record { place = length h.log; snapshot = h.layout }) })
      (λ pending is. let at : h.layout ≡ pending.snapshot = cc in subst IsSound at sound) all;
}

pub grown_open : (h : History) (session : ℕ) → Grown h session Open (outcome h session Open)
grown_open h session = by (is_log_full h) (nat_le 65535 (state_of h session).opens) where
  by : (full many : Bool) → Grown h session Open (told_open (cond full (Err LogFull, h)
      (cond many (Err SessionFull, logged h session Open (Refused SessionFull)) (Ok (opening h session), after_open h session))))
  by true many = refl
  by false true = grew_logged h session Open (Refused SessionFull)
  by false false = grew_open h session

-- a refusal that is logged wherever it comes
abbrev pub IsPlain : Option BookFault → Type 0
IsPlain refused = (fault : BookFault) → refused ≡ Some fault → refusal fault ≡ Some (Refused fault)

plain_none : IsPlain None
plain_none fault e = absurd cc

plain_some : (f : BookFault) → refusal f ≡ Some (Refused f) → IsPlain (Some f)
plain_some f is fault e = let same : f ≡ fault = cc in subst (λ g. refusal g ≡ Some (Refused g)) same is

plain_depends : (txn : Option TxnId) → IsPlain (depends txn)
plain_depends None = plain_none
plain_depends (Some txn) = plain_some (Depends txn) refl

plain_moved : (txn : Option TxnId) → IsPlain (moved_refusal txn)
plain_moved None = plain_none
plain_moved (Some txn) = plain_some (Moved txn) refl

plain_either : (a b : Option BookFault) → IsPlain a → IsPlain b → IsPlain (or_else a b)
plain_either None b first second = second
plain_either (Some fault) b first second = first

pub plain_undo : (at : Option Found) → IsPlain (undo_refusal_at at)
plain_undo None = plain_some NoTxn refl
plain_undo (Some at) = by at.entry.live where
  by : (live : Bool) → IsPlain (cond live (depends (first_reader at.entry.writes at.later)) (Some NotLive))
  by true = plain_depends (first_reader at.entry.writes at.later)
  by false = plain_some NotLive refl

pub plain_redo : (at : Option Found) → IsPlain (redo_refusal_at at)
plain_redo None = plain_some NoTxn refl
plain_redo (Some at) = by at.entry.live where
  by : (live : Bool) → IsPlain (cond live (Some StillLive) (or_else (depends (first_reader at.entry.writes at.later))
      (moved_refusal (first_moved at.before (links_to at.before at.entry.footprint) at.entry.seen))))
  by true = plain_some StillLive refl
  by false = plain_either (depends (first_reader at.entry.writes at.later))
      (moved_refusal (first_moved at.before (links_to at.before at.entry.footprint) at.entry.seen))
      (plain_depends (first_reader at.entry.writes at.later))
      (plain_moved (first_moved at.before (links_to at.before at.entry.footprint) at.entry.seen))

grown_unless : (h after : History) (session : ℕ) (call : Call) (done : Answer) (refused : Option BookFault) → IsPlain refused
    → Grew h session call done after → Grown h session call (told done (unless refused h session call after))
grown_unless h after session call done None plain grew = grew
grown_unless h after session call done (Some fault) plain grew =
    subst (λ a. Grown h session call (a, logged h session call (Refused fault))) (sym (plain fault refl))
    (grew_logged h session call (Refused fault))

grew_undo : (h : History) (session : ℕ) (txn : TxnId) → Grew h session (Undo txn) Undone (after_undo h session txn)
grew_undo h session txn = record { log = refl; base = refl; limit = refl; pending = λ sound all. all }

grew_redo : (h : History) (session : ℕ) (txn : TxnId) → Grew h session (Redo txn) Redone (after_redo h session txn)
grew_redo h session txn = record { log = refl; base = refl; limit = refl; pending = λ sound all. all }

pub grown_undo : (h : History) (session : ℕ) (txn : TxnId) → Grown h session (Undo txn) (outcome h session (Undo txn))
grown_undo h session txn = by (is_log_full h) where
  by : (full : Bool) → Grown h session (Undo txn) (told Undone (cond full (Err LogFull, h)
      (unless (undo_refusal h txn) h session (Undo txn) (after_undo h session txn))))
  by true = refl
  by false = grown_unless h (after_undo h session txn) session (Undo txn) Undone (undo_refusal h txn) (plain_undo (found h txn))
      (grew_undo h session txn)

pub grown_redo : (h : History) (session : ℕ) (txn : TxnId) → Grown h session (Redo txn) (outcome h session (Redo txn))
grown_redo h session txn = by (is_log_full h) where
  by : (full : Bool) → Grown h session (Redo txn) (told Redone (cond full (Err LogFull, h)
      (unless (redo_refusal h txn) h session (Redo txn) (after_redo h session txn))))
  by true = refl
  by false = grown_unless h (after_redo h session txn) session (Redo txn) Redone (redo_refusal h txn) (plain_redo (found h txn))
      (grew_redo h session txn)

-- ---- commits

-- the session has nothing pending
ended_pending : (h : History) (session : ℕ) → ArePendingSound h.sessions
    → ArePendingSound (slice_set h.sessions (session - 1) (ended_state (state_of h session)))
ended_pending h session all = set_pending h.sessions (session - 1) (ended_state (state_of h session)) (λ pending is. absurd cc) all

grew_commit : (h : History) (txn : Transaction) → Grew h txn.id.session (Commit txn.id txn.commands) Committed (after_commit h txn)
grew_commit h txn = record { log = refl; base = refl; limit = refl; pending = λ sound all. ended_pending h txn.id.session all }

grew_stale : (h : History) (txn : Transaction) (other : TxnId)
    → Grew h txn.id.session (Commit txn.id txn.commands) (Refused (Stale other)) (after_stale h txn other)
grew_stale h txn other = record { log = refl; base = refl; limit = refl; pending = λ sound all. ended_pending h txn.id.session all }

pub grown_step : (h : History) (txn : Transaction)
    → Grown h txn.id.session (Commit txn.id txn.commands) (told Committed (commit_step h txn))
grown_step h txn = by (is_log_full h) (is_own h txn) (stale_by h.entries txn.footprint (drop (txn.opened + 1) h.log)) where
  by : (full own : Bool) (stale : Option TxnId) → Grown h txn.id.session (Commit txn.id txn.commands)
      (told Committed (cond full (Err LogFull, h) (cond (not own) (Err Foreign, h) (commit_unless stale h txn))))
  by true own stale = refl
  by false false stale = refl
  by false true None = grew_commit h txn
  by false true (Some other) = grew_stale h txn other

grown_meant : (h : History) (txn : TxnId) (commands : List Command) (pending : Option Pending)
    → Grown h txn.session (Commit txn commands) (commit_meant h (meant_of txn commands pending))
grown_meant h txn commands None = refl
grown_meant h txn commands (Some pending) = by (after_each txn commands (begun pending.snapshot)) where
  by : (run : Option Run) → Grown h txn.session (Commit txn commands) (commit_meant h (meant_by txn commands pending run))
  by None = refl
  by (Some run) = grown_step h (work_on txn commands pending run)

pub grown_commit : (h : History) (session : ℕ) (txn : TxnId) (commands : List Command)
    → Grown h session (Commit txn commands) (outcome h session (Commit txn commands))
grown_commit h session txn commands = by (txn.session == session) refl where
  by : (same : Bool) → (txn.session == session) ≡ same
      → Grown h session (Commit txn commands) (cond same (commit_meant h (meant h txn commands)) (None, h))
  by true is =
      subst (λ s. Grown h s (Commit txn commands) (commit_meant h (meant h txn commands))) ((Decides-eqb txn.session session).0 is)
      (grown_meant h txn commands (state_of h txn.session).pending)
  by false is = refl

pub grown_call : (h : History) (session : ℕ) (call : Call) → Grown h session call (outcome h session call)
grown_call h session Open = grown_open h session
grown_call h session (Commit txn commands) = grown_commit h session txn commands
grown_call h session (Undo txn) = grown_undo h session txn
grown_call h session (Redo txn) = grown_redo h session txn

pub grown : (h next : History) (session : ℕ) (call : Call) (answer : Option Answer) → Stepped h session call answer next
    → Grown h session call (answer, next)
grown h next session call answer (inl is) = subst (Grown h session call) is (grown_call h session call)
grown h next session call answer (inr fails) = subst (λ a. Grown h session call (a, next)) (sym fails.0) fails.1

-- ---- calls of a book, which may be out of memory

pub stepped_open : (h next : History) (session : ℕ) (result : Result Transaction BookFault) → TakesCall h (open_step h session) result next
    → Stepped h session Open (opened_answer result) next
stepped_open h next session result (inl takes) = inl (λ i. (opened_answer (sym takes.0 i), sym takes.1 i))
stepped_open h next session result (inr fails) = inr (ap opened_answer fails.0, fails.1)

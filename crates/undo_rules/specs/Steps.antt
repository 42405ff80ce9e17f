-- The calls of a book: what each answers, in the order in which refusals are tested, and what it leaves.
-- Source: this project's own.
-- Checked on: tests/jobs/an-earlier-box-is-undone.job (an earlier transaction is undone, which
-- nothing later touched), tests/jobs/boxes-are-undone-in-any-order.job, tests/jobs/moved-ground.job
-- (Stale, NotLive, Depends, StillLive) and tests/jobs/moves-in-a-row.job (Depends and Moved). A
-- work of another book, whose session never opened in this one: Foreign.
use Rattle.std.specs.Prelude.{ℕ, ◌+◌, ◌-◌, ◌==◌, ◌&&◌, not, List, [], ◌∷◌, ◌++◌, length, drop, Bool, true, false, nat_le, Option}
use Rattle.std.specs.Prelude.{None, Some, Result, Ok, Err, if◌then◌else◌, slice_index_or, slice_set, replicate, unwrap_or}
use Rattle.lay_layouts.specs.Layout.{Layout}
use Rattle.txn_commands.specs.declared.command.TxnId.{TxnId}
use Rattle.txn_commands.specs.Compared.{agrees}
use Rattle.txn_commands.specs.Elements.{Touched, untouched}
use Rattle.txn_commands.specs.Records.{Records}
use Rattle.undo_rules.specs.declared.log.Answer.{Answer}
use Rattle.undo_rules.specs.declared.log.Answer.TheVariants.{Committed, Opened, Redone, Refused, Undone}
use Rattle.undo_rules.specs.declared.log.BookFault.{BookFault}
use Rattle.undo_rules.specs.declared.log.BookFault.TheVariants.{Depends, Foreign, LogFull, Moved, NoTxn}
use Rattle.undo_rules.specs.declared.log.BookFault.TheVariants.{NotLive, SessionFull, Stale, StillLive}
use Rattle.undo_rules.specs.declared.log.Call.{Call}
use Rattle.undo_rules.specs.declared.log.Call.TheVariants.{Commit, Open, Redo, Undo}
use Rattle.undo_rules.specs.declared.log.Logged.{Logged}
use Rattle.undo_rules.specs.Books.{History, Pending, SessionState, changed_in, writes_of}
use Rattle.undo_rules.specs.Histories.{replay_from}
use Rattle.undo_rules.specs.Links.{Entry, first_moved, first_reader, links_to, marked, txn_eq}
use Rattle.txn_commands.specs.Meets.{meets_touched}
use Rattle.txn_commands.specs.Transactions.{Transaction}

-- the log has as many calls as it may have
abbrev pub is_log_full : History → Bool
is_log_full h = nat_le h.limit (length h.log)

-- the history with one more call in its log
abbrev pub logged : History → ℕ → Call → Answer → History
logged h session call answer = record h { log = h.log ++ record { session = session; call = call; answer = answer } ∷ [] }

-- a session that never opened a transaction
abbrev pub unused : SessionState
unused = record { opens = 0; pending = None }

-- what is kept of the session
abbrev pub state_of : History → ℕ → SessionState
state_of h session = slice_index_or h.sessions (session - 1) unused

-- the history with this kept of the session
abbrev pub with_state : History → ℕ → SessionState → History
with_state h session state = record h { sessions = slice_set h.sessions (session - 1) state }

-- a history without calls
abbrev pub fresh : Layout → ℕ → History
fresh base limit = record { base = base; layout = base; log = []; limit = limit; entries = []; sessions = replicate 64 unused }

-- the history whose layout is that of its live transactions
abbrev pub settled : History → History
settled h = record h { layout = unwrap_or (replay_from h.log h.base h.entries) h.layout }

-- ---- open

-- the next transaction of the session
abbrev pub opening : History → ℕ → Transaction
opening h session = record {
  id = record { session = session; txn = (state_of h session).opens + 1 };
  opened = length h.log;
  snapshot = h.layout;
  commands = [];
  writes = record { items = []; symbols = [] };
  footprint = untouched;
}

-- the book keeps its place and its layout, and drops what the session had open
abbrev pub after_open : History → ℕ → History
after_open h session =
    let number = (state_of h session).opens + 1 in
    logged (with_state h session (record { opens = number; pending = Some (record { place = length h.log; snapshot = h.layout }) }))
    session Open (Opened number)

-- an open that is refused for want of a number drops nothing
abbrev pub open_step : History → ℕ → Result Transaction BookFault × History
open_step h session =
    if is_log_full h then (Err LogFull, h)
    else if nat_le 65535 (state_of h session).opens then (Err SessionFull, logged h session Open (Refused SessionFull))
    else (Ok (opening h session), after_open h session)

-- ---- undo and redo

-- the transaction of this name with those before it and those behind it
pub record Found : Type 0 where
  pub before : List Entry
  pub entry : Entry
  pub later : List Entry

abbrev pub found_behind : List Entry → List Entry → TxnId → Option Found
found_behind before [] txn = None
found_behind before (entry ∷ later) txn =
    if txn_eq entry.txn txn then Some (record { before = before; entry = entry; later = later })
    else found_behind (before ++ entry ∷ []) later txn

abbrev pub found : History → TxnId → Option Found
found h txn = found_behind [] h.entries txn

-- a later live transaction touched what was written
abbrev pub depends : Option TxnId → Option BookFault
depends None = None
depends (Some txn) = Some (Depends txn)

-- an earlier one is linked now and wasn't seen, or the other way round
abbrev pub moved_refusal : Option TxnId → Option BookFault
moved_refusal None = None
moved_refusal (Some txn) = Some (Moved txn)

-- the second refusal where there is not the first
abbrev pub or_else : Option BookFault → Option BookFault → Option BookFault
or_else None next = next
or_else (Some fault) next = Some fault

abbrev pub undo_refusal_at : Option Found → Option BookFault
undo_refusal_at None = Some NoTxn
undo_refusal_at (Some at) = if at.entry.live then depends (first_reader at.entry.writes at.later) else Some NotLive

abbrev pub redo_refusal_at : Option Found → Option BookFault
redo_refusal_at None = Some NoTxn
redo_refusal_at (Some at) =
    if at.entry.live then Some StillLive
    else or_else (depends (first_reader at.entry.writes at.later))
    (moved_refusal (first_moved at.before (links_to at.before at.entry.footprint) at.entry.seen))

abbrev pub undo_refusal : History → TxnId → Option BookFault
undo_refusal h txn = undo_refusal_at (found h txn)

abbrev pub redo_refusal : History → TxnId → Option BookFault
redo_refusal h txn = redo_refusal_at (found h txn)

-- the transactions, this one with the mark
abbrev pub remarked : Bool → TxnId → List Entry → List Entry
remarked live txn [] = []
remarked live txn (entry ∷ entries) =
    if txn_eq entry.txn txn then marked live entry ∷ entries else entry ∷ remarked live txn entries

-- the same history with this mark
abbrev pub with_mark : History → Bool → TxnId → History
with_mark h live txn = record h { entries = remarked live txn h.entries }

abbrev pub after_undo : History → ℕ → TxnId → History
after_undo h session txn = settled (logged (with_mark h false txn) session (Undo txn) Undone)

abbrev pub after_redo : History → ℕ → TxnId → History
after_redo h session txn = settled (logged (with_mark h true txn) session (Redo txn) Redone)

-- a refusal is logged, and changes nothing else
abbrev pub unless : Option BookFault → History → ℕ → Call → History → Result (Unit {0}) BookFault × History
unless (Some fault) h session call after = (Err fault, logged h session call (Refused fault))
unless None h session call after = (Ok tt, after)

abbrev pub undo_step : History → ℕ → TxnId → Result (Unit {0}) BookFault × History
undo_step h session txn =
    if is_log_full h then (Err LogFull, h) else unless (undo_refusal h txn) h session (Undo txn) (after_undo h session txn)

abbrev pub redo_step : History → ℕ → TxnId → Result (Unit {0}) BookFault × History
redo_step h session txn =
    if is_log_full h then (Err LogFull, h) else unless (redo_refusal h txn) h session (Redo txn) (after_redo h session txn)

-- ---- commit

-- the first transaction that one of these calls changed, and that wrote what is touched
abbrev pub touching : Option Records → Touched → Bool
touching None touched = false
touching (Some writes) touched = meets_touched writes touched

-- the transaction that was changed, where it wrote what is touched, else what is behind it
abbrev pub stale_first : List Entry → Touched → Option TxnId → Option TxnId → Option TxnId
stale_first entries touched None behind = behind
stale_first entries touched (Some txn) behind = if touching (writes_of entries txn) touched then Some txn else behind

abbrev pub stale_by : List Entry → Touched → List Logged → Option TxnId
stale_by entries touched [] = None
stale_by entries touched (call ∷ calls) = stale_first entries touched (changed_in call) (stale_by entries touched calls)

-- what is kept of a session whose transaction has ended
abbrev pub ended_state : SessionState → SessionState
ended_state state = record state { pending = None }

abbrev pub ended : History → ℕ → History
ended h session = with_state h session (ended_state (state_of h session))

-- the transaction as it is kept, live and linked to what it has seen
abbrev pub entered : History → Transaction → Entry
entered h txn = record {
  txn = txn.id;
  place = length h.log;
  writes = txn.writes;
  footprint = txn.footprint;
  seen = links_to h.entries txn.footprint;
  live = true;
}

abbrev pub with_entry : History → Transaction → History
with_entry h txn = record h { entries = h.entries ++ entered h txn ∷ [] }

-- the transaction is live, its session waits no more, the call is logged, and the layout is the new replay
abbrev pub after_commit : History → Transaction → History
after_commit h txn = settled (logged (ended (with_entry h txn) txn.id.session) txn.id.session (Commit txn.id txn.commands) Committed)

-- a stale transaction has ended
abbrev pub after_stale : History → Transaction → TxnId → History
after_stale h txn other = logged (ended h txn.id.session) txn.id.session (Commit txn.id txn.commands) (Refused (Stale other))

abbrev pub commit_unless : Option TxnId → History → Transaction → Result TxnId BookFault × History
commit_unless None h txn = (Ok txn.id, after_commit h txn)
commit_unless (Some other) h txn = (Err (Stale other), after_stale h txn other)

-- what a commit of a transaction that is this book's is answered and leaves
abbrev pub commit_own : History → Transaction → Result TxnId BookFault × History
commit_own h txn = commit_unless (stale_by h.entries txn.footprint (drop (txn.opened + 1) h.log)) h txn

-- the transaction is the pending one, and on what it touched the layout at its open is as its snapshot has it
abbrev pub is_pending : Option Pending → Transaction → Bool
is_pending None txn = false
is_pending (Some pending) txn = (pending.place == txn.opened) && agrees pending.snapshot txn.snapshot txn.footprint

-- the transaction is the one that its session opened last and that has not ended
abbrev pub is_own : History → Transaction → Bool
is_own h txn =
    (nat_le 1 txn.id.session && nat_le txn.id.session 64)
    && (((state_of h txn.id.session).opens == txn.id.txn) && is_pending (state_of h txn.id.session).pending txn)

-- what a commit is answered and leaves: a full log is refused first, then a work that isn't this book's
abbrev pub commit_step : History → Transaction → Result TxnId BookFault × History
commit_step h txn =
    if is_log_full h then (Err LogFull, h) else if not (is_own h txn) then (Err Foreign, h) else commit_own h txn

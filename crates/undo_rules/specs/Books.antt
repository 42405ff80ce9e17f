-- The history of a book: the base, the layout now, the log, the committed transactions, and what each session has open.
-- Source: this project's own.
-- Checked on: two boxes in transactions 1.1 and 1.2: the replay has both; with 1.2 undone the first
-- alone; with both undone it is the base.
use Rattle.std.specs.Prelude.{◌≡◌, ℕ, ◌+◌, ◌<◌, ◌≤◌, List, [], ◌∷◌, length, drop, true, Option, None, Some, is_some, slice_get, option_map}
use Rattle.std.specs.Prelude.{if◌then◌else◌}
use Rattle.std.specs.List.{AllByRecursion, filter_map}
use Rattle.lay_layouts.specs.Layout.{Layout}
use Rattle.lay_layouts.specs.Sound.{IsSound}
use Rattle.txn_commands.specs.declared.command.TxnId.{TxnId}
use Rattle.txn_commands.specs.Records.{Records}
use Rattle.undo_rules.specs.declared.log.Answer.{Answer}
use Rattle.undo_rules.specs.declared.log.Answer.TheVariants.{Opened, Refused}
use Rattle.undo_rules.specs.declared.log.Call.{Call}
use Rattle.undo_rules.specs.declared.log.Call.TheVariants.{Commit, Open, Redo, Undo}
use Rattle.undo_rules.specs.declared.log.Logged.{Logged}
use Rattle.undo_rules.specs.Histories.{AreKept, IsSince}
use Rattle.undo_rules.specs.Links.{Entry, txn_eq}

-- an open whose transaction hasn't ended: its place in the log, and the layout then
pub record Pending : Type 0 where
  pub place : ℕ
  pub snapshot : Layout

-- what is kept of a session: how many of its opens were accepted, and the one that is pending
pub record SessionState : Type 0 where
  pub opens : ℕ
  pub pending : Option Pending

pub record History : Type 0 where
  pub base : Layout
  pub layout : Layout
  pub log : List Logged
  pub limit : ℕ
  pub entries : List Entry
  pub sessions : List SessionState

-- the transaction of this name
abbrev pub entry_of : TxnId → List Entry → Option Entry
entry_of txn [] = None
entry_of txn (entry ∷ entries) = if txn_eq entry.txn txn then Some entry else entry_of txn entries

-- the transaction that was committed, undone or redone by a call that was answered so
abbrev pub changed_by : Call → Answer → Option TxnId
changed_by call (Opened number) = None
changed_by call (Refused fault) = None
changed_by Open answer = None
changed_by (Commit txn commands) answer = Some txn
changed_by (Undo txn) answer = Some txn
changed_by (Redo txn) answer = Some txn

abbrev pub changed_in : Logged → Option TxnId
changed_in logged = changed_by logged.call logged.answer

-- those of these calls, in order
abbrev pub changed_among : List Logged → List TxnId
changed_among calls = filter_map changed_in calls

-- what they wrote
abbrev pub writes_of : List Entry → TxnId → Option Records
writes_of entries txn = option_map (λ entry. entry.writes) (entry_of txn entries)

-- the records that were applied or reverted by the calls behind this place of the log
abbrev pub changes_since : List Logged → List Entry → ℕ → List Records
changes_since log entries place = filter_map (writes_of entries) (changed_among (drop (place + 1) log))

-- the session's committed transactions are among those that it opened, and not the one that is pending
abbrev pub IsNamed : ℕ → SessionState → Entry → Type 0
IsNamed session state entry =
    entry.txn.session ≡ session → (entry.txn.txn ≤ state.opens) × (is_some state.pending ≡ true → entry.txn.txn < state.opens)

-- what a book keeps true
pub record IsHistory (h : History) : Type 0 where
  pub sound : IsSound h.base
  pub kept : AreKept h.log h.base h.layout h.entries
  pub sessions : length h.sessions ≡ 64
  pub named : (i : ℕ) (state : SessionState) → slice_get h.sessions i ≡ Some state → AllByRecursion (IsNamed (i + 1) state) h.entries
  -- each transaction that a call of the log changed is there
  pub there : AllByRecursion (λ txn. is_some (entry_of txn h.entries) ≡ true) (changed_among h.log)
  -- on what was not written since a pending open, the layout is as it was then
  pub since : (i : ℕ) (state : SessionState) (pending : Pending) → slice_get h.sessions i ≡ Some state → state.pending ≡ Some pending →
      (pending.place < length h.log) × IsSince pending.snapshot (changes_since h.log h.entries pending.place) h.layout

-- What holds of histories.
use Rattle.std.specs.Prelude.{◌≡◌, ℕ, List, [], ◌∷◌, ◌++◌, true, false, None, Some, ◌+◌, ◌≤◌, drop}
use Rattle.std.specs.List.{AllByRecursion}
use Rattle.lay_layouts.specs.Layout.{Layout}
use Rattle.lay_layouts.specs.Sound.{IsSound}
use Rattle.txn_commands.specs.declared.command.Command.{Command}
use Rattle.txn_commands.specs.Agreement.{AgreeOn}
use Rattle.txn_commands.specs.Effects.{Run, after_each, begun}
use Rattle.txn_commands.specs.Records.{Lead, Records, applied, reverted, records_between}
use Rattle.undo_rules.specs.declared.log.Logged.{Logged}
use Rattle.txn_commands.specs.declared.command.TxnId.{TxnId}
use Rattle.undo_rules.specs.declared.log.Answer.TheVariants.{Refused}
use Rattle.undo_rules.specs.declared.log.BookFault.{BookFault}
use Rattle.undo_rules.specs.declared.log.Call.{Call}
use Rattle.undo_rules.specs.Books.{History, IsHistory, Pending}
use Rattle.undo_rules.specs.Steps.{after_commit, after_open, after_redo, after_stale, after_undo, logged}
use Rattle.undo_rules.specs.Steps.{redo_refusal, stale_by, state_of, undo_refusal}
use Rattle.txn_commands.specs.Transactions.{IsTransaction, Transaction}
use Rattle.undo_rules.specs.Histories.{AreKept, IsSince, commands_at, replay_from}
use Rattle.undo_rules.specs.Links.{Entry, first_moved, first_reader, links_to, marked, txn_eq}
use Rattle.txn_commands.specs.Meets.{meets_touched}

-- the layout is that of running the live transactions' commands from the base
abbrev pub TheLayoutIsTheReplay : Type 0
TheLayoutIsTheReplay = (log : List Logged) (base layout : Layout) (entries : List Entry) → AreKept log base layout entries
    → replay_from log base entries ≡ Some layout

-- from a sound base and without a live transaction that no later live one touched, the layout is that with its records reverted;
-- applied again they give the former one, and it is linked to what it has seen
pub record Undoes (log : List Logged) (base layout : Layout) (before : List Entry) (entry : Entry) (later : List Entry) : Type 0 where
  pub kept : AreKept log base (reverted layout entry.writes) (before ++ marked false entry ∷ later)
  pub links : links_to before entry.footprint ≡ entry.seen
  pub again : applied (reverted layout entry.writes) entry.writes ≡ layout

abbrev pub AnUndoTakesOut : Type 0
AnUndoTakesOut = (log : List Logged) (base layout : Layout) (before : List Entry) (entry : Entry) (later : List Entry)
    → IsSound base → AreKept log base layout (before ++ entry ∷ later) → entry.live ≡ true → first_reader entry.writes later ≡ None
    → Undoes log base layout before entry later

-- from a sound base and with an undone transaction that no later live one touched, and that is linked to what it has seen, the
-- layout is that with its records applied
abbrev pub ARedoPutsBack : Type 0
ARedoPutsBack = (log : List Logged) (base layout : Layout) (before : List Entry) (entry : Entry) (later : List Entry)
    → IsSound base → AreKept log base layout (before ++ entry ∷ later) → entry.live ≡ false → first_reader entry.writes later ≡ None
    → first_moved before (links_to before entry.footprint) entry.seen ≡ None
    → AreKept log base (applied layout entry.writes) (before ++ marked true entry ∷ later)

-- A work that a history takes: the history's log, its base, its layout and its transactions; the layout at the work's open, what
-- was changed since, and the work's snapshot; and the transaction that is entered, with its commands and their run on the snapshot.
pub record Taking : Type 0 where
  pub log : List Logged
  pub base : Layout
  pub layout : Layout
  pub entries : List Entry
  pub opened : Layout
  pub changes : List Records
  pub snapshot : Layout
  pub entry : Entry
  pub commands : List Command
  pub run : Run

-- the commands ran so on the snapshot
pub record IsWorkOf (t : Taking) : Type 0 where
  pub runs : after_each t.entry.txn t.commands (begun t.snapshot) ≡ Some t.run
  pub footprint : t.run.footprint ≡ t.entry.footprint
  pub writes : records_between t.snapshot t.run.layout ≡ t.entry.writes

-- the work is of this history, and nothing that it touched was changed since its open
pub record IsFresh (t : Taking) : Type 0 where
  pub agree : AgreeOn t.opened t.snapshot t.entry.footprint
  pub since : IsSince t.opened t.changes t.layout
  pub apart : AllByRecursion (λ ws. meets_touched ws t.entry.footprint ≡ false) t.changes

-- the transaction is entered as live, by a name of its own, with its commands in the log and links to what it has seen
pub record IsEntered (t : Taking) : Type 0 where
  pub told : commands_at t.log t.entry.place ≡ Some t.commands
  pub live : t.entry.live ≡ true
  pub seen : links_to t.entries t.entry.footprint ≡ t.entry.seen
  pub named : AllByRecursion (λ other. txn_eq other.txn t.entry.txn ≡ false) t.entries

-- the commands run alike on the layout now, and what they wrote leads to the next one, which is kept
pub record Commits (t : Taking) : Type 0 where
  pub now : Run
  pub runs : after_each t.entry.txn t.commands (begun t.layout) ≡ Some now
  pub dones : now.dones ≡ t.run.dones
  pub footprint : now.footprint ≡ t.entry.footprint
  pub writes : records_between t.layout now.layout ≡ t.entry.writes
  pub next : now.layout ≡ applied t.layout t.entry.writes
  pub leads : Lead t.entry.writes t.layout (applied t.layout t.entry.writes)
  pub kept : AreKept t.log t.base (applied t.layout t.entry.writes) (t.entries ++ t.entry ∷ [])

abbrev pub ACommitAppends : Type 0
ACommitAppends = (t : Taking) → IsSound t.base → IsSound t.snapshot → IsWorkOf t → IsFresh t → IsEntered t
    → AreKept t.log t.base t.layout t.entries → Commits t

-- an accepted undo of a book keeps what a book keeps true
abbrev pub AnUndoKeepsTheBook : Type 0
AnUndoKeepsTheBook = (h : History) → IsHistory h → (session : ℕ) (txn : TxnId) → undo_refusal h txn ≡ None
    → IsHistory (after_undo h session txn)

-- and so does an accepted redo
abbrev pub ARedoKeepsTheBook : Type 0
ARedoKeepsTheBook = (h : History) → IsHistory h → (session : ℕ) (txn : TxnId) → redo_refusal h txn ≡ None
    → IsHistory (after_redo h session txn)

-- an open, a refusal that is logged, and a commit of a work on a sound snapshot that is the book's own and not stale, keep it too
abbrev pub AnOpenKeepsTheBook : Type 0
AnOpenKeepsTheBook = (h : History) → IsHistory h → (session : ℕ) → 1 ≤ session → session ≤ 64 → IsHistory (after_open h session)

abbrev pub ARefusalKeepsTheBook : Type 0
ARefusalKeepsTheBook =
    (h : History) → IsHistory h → (session : ℕ) (call : Call) (fault : BookFault) → IsHistory (logged h session call (Refused fault))

-- the work is the one that its session opened last and that hasn't ended; and on what it touched the layout at its open
-- is as its snapshot has it
pub record IsOwnWork (h : History) (txn : Transaction) : Type 0 where
  pub low : 1 ≤ txn.id.session
  pub high : txn.id.session ≤ 64
  pub last : (state_of h txn.id.session).opens ≡ txn.id.txn
  pub waiting : Pending
  pub waits : (state_of h txn.id.session).pending ≡ Some waiting
  pub place : waiting.place ≡ txn.opened
  pub agree : AgreeOn waiting.snapshot txn.snapshot txn.footprint

abbrev pub ACommitKeepsTheBook : Type 0
ACommitKeepsTheBook = (h : History) → IsHistory h → (txn : Transaction) → IsTransaction txn → IsSound txn.snapshot → IsOwnWork h txn
    → stale_by h.entries txn.footprint (drop (txn.opened + 1) h.log) ≡ None → IsHistory (after_commit h txn)

-- a commit of its own work that is stale ends the work, and keeps it too
abbrev pub AStaleCommitKeepsTheBook : Type 0
AStaleCommitKeepsTheBook =
    (h : History) → IsHistory h → (txn : Transaction) → IsOwnWork h txn → (other : TxnId) → IsHistory (after_stale h txn other)

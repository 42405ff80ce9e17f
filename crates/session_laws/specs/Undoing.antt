-- Undo and redo among the steps of all sessions.
use Rattle.std.specs.Prelude.{◌≡◌, ℕ, ◌≤◌, ◌⊎◌, Bool, true, false, List, Some}
use Rattle.std.specs.List.{AllByRecursion}
use Rattle.lay_layouts.specs.Layout.{Layout}
use Rattle.lay_layouts.specs.Sound.{IsSound}
use Rattle.txn_commands.specs.declared.command.TxnId.{TxnId}
use Rattle.undo_rules.specs.declared.log.BookFault.TheVariants.{LogFull, NoMemory as BookMemory}
use Rattle.undo_rules.specs.Books.{History}
use Rattle.undo_rules.specs.Links.{Entry}
use Rattle.txn_commands.specs.Meets.{meets_touched}
use Rattle.undo_rules.specs.Steps.{Found, found, is_log_full, with_mark}
use Rattle.undo_book.specs.Replays.{replay}
use Rattle.session_steps.specs.declared.Reply.{Reply}
use Rattle.session_steps.specs.declared.Reply.TheVariants.{Committed, Fault, Redone, Undone}
use Rattle.session_steps.specs.declared.Step.{Step}
use Rattle.session_steps.specs.declared.Step.TheVariants.{Redo, Undo}
use Rattle.session_steps.specs.declared.StepFault.TheVariants.{Book}
use Rattle.session_core.specs.Machine.{Ran, State, TakesStep, after_steps, is_session, start, step_outcome}

-- the call had no room: memory was refused, or the log is full
abbrev pub IsWithoutRoom : History → Reply → Type 0
IsWithoutRoom h reply = (reply ≡ Fault (Book BookMemory)) ⊎ ((reply ≡ Fault (Book LogFull)) × (is_log_full h ≡ true))

-- a live transaction of which no later live one touched what it wrote
pub record IsUnread (h : History) (txn : TxnId) : Type 0 where
  pub at : Found
  pub there : found h txn ≡ Some at
  pub live : at.entry.live ≡ true
  pub unread : AllByRecursion (λ (later : Entry). later.live ≡ true → meets_touched at.entry.writes later.footprint ≡ false) at.later

-- it is undone, and the layout is that of the same history without it; or the call had no room
abbrev pub IsTakenOut : History → TxnId → Reply → State → Type 0
IsTakenOut h txn reply new =
    ((reply ≡ Undone) × (replay (with_mark h false txn) ≡ Some new.history.layout)) ⊎ IsWithoutRoom h reply

-- wherever the steps of at most 64 sessions have come from a sound base, an undo of such a transaction takes it out
abbrev pub MachinesTakeOut : Type 0
MachinesTakeOut = (base : Layout) (sessions limit : ℕ) (steps : List (ℕ × Step)) (replies : List Reply) (s : State)
    → IsSound base → sessions ≤ 64 → Ran (start base sessions limit) steps replies s
    → (session : ℕ) (txn : TxnId) (reply : Reply) (new : State) → is_session s session ≡ true → IsUnread s.history txn
    → TakesStep s session (Undo txn) reply new → IsTakenOut s.history txn reply new

-- and so it is where no memory is refused, as in the program's answers
abbrev pub ProgramsTakeOut : Type 0
ProgramsTakeOut = (base : Layout) (sessions limit : ℕ) (steps : List (ℕ × Step)) → IsSound base → sessions ≤ 64
    → let s = (after_steps (start base sessions limit) steps).1 in
    (session : ℕ) (txn : TxnId) → is_session s session ≡ true → IsUnread s.history txn
    → let next = step_outcome s session (Undo txn) in IsTakenOut s.history txn next.0 next.1

-- ---- redo at once

-- the answer to a step that changed which transactions are live
abbrev pub is_change : Reply → Bool
is_change (Committed txn) = true
is_change Undone = true
is_change Redone = true
is_change reply = false

-- none of these answers is one
abbrev pub AreIdle : List Reply → Type 0
AreIdle replies = AllByRecursion (λ reply. is_change reply ≡ false) replies

-- it is redone, and the layout is this one; or the call had no room
abbrev pub IsPutBack : Layout → History → Reply → State → Type 0
IsPutBack layout h reply new = ((reply ≡ Redone) × (new.history.layout ≡ layout)) ⊎ IsWithoutRoom h reply

-- After an accepted undo, whatever steps sessions take, so long as no commit, undo or redo is accepted among them, a redo by any
-- session puts the transaction back, and the layout is the one before the undo.
abbrev pub RedosAtOncePutBack : Type 0
RedosAtOncePutBack = (base : Layout) (sessions limit : ℕ) (steps : List (ℕ × Step)) (replies : List Reply) (s : State)
    → IsSound base → sessions ≤ 64 → Ran (start base sessions limit) steps replies s
    → (session : ℕ) (txn : TxnId) (undone : State) → TakesStep s session (Undo txn) Undone undone
    → (between : List (ℕ × Step)) (said : List Reply) (then : State) → Ran undone between said then → AreIdle said
    → (other : ℕ) (reply : Reply) (last : State) → is_session then other ≡ true → TakesStep then other (Redo txn) reply last
    → IsPutBack s.history.layout then.history reply last

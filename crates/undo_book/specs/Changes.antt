-- Which calls of a log change a transaction that no call before them changed.
use Rattle.std.specs.Prelude.{◌≡◌, ℕ, ◌<◌, ◌≤◌, suc, List, [], ◌∷◌, ◌++◌, length, take, Bool, true, false, nat_lt, Option, None, Some}
use Rattle.std.specs.Prelude.{if◌then◌else◌, slice_get}
use Rattle.txn_commands.specs.declared.command.TxnId.{TxnId}
use Rattle.undo_rules.specs.declared.log.Logged.{Logged}
use Rattle.undo_rules.specs.Books.{changed_in}
use Rattle.undo_rules.specs.Links.{Entry, txn_eq}
use Rattle.undo_book.specs.Places.{place_of}

-- a transaction was changed, and it has this name
abbrev pub is_of : TxnId → Option TxnId → Bool
is_of txn None = false
is_of txn (Some changed) = txn_eq changed txn

-- a place among the calls behind the first one, or that of the first one where it is one
abbrev pub or_first : Option ℕ → Bool → Option ℕ
or_first None here = if here then Some 0 else None
or_first (Some place) here = Some (suc place)

-- the place of the last of these calls that changed the transaction
abbrev pub last_change : TxnId → List Logged → Option ℕ
last_change txn [] = None
last_change txn (call ∷ calls) = or_first (last_change txn calls) (is_of txn (changed_in call))

-- the place of the last of these calls that changed the same transaction
abbrev pub earlier_of : List Logged → Option TxnId → Option ℕ
earlier_of before None = None
earlier_of before (Some txn) = last_change txn before

-- of each of these calls, behind others, the place of the last one before it that changed the same transaction
abbrev pub previous_changes : List Logged → List Logged → List (Option ℕ)
previous_changes before [] = []
previous_changes before (call ∷ calls) = earlier_of before (changed_in call) ∷ previous_changes (before ++ call ∷ []) calls

-- what is kept at a place
abbrev pub kept_at : List ℕ → Option ℕ → Option ℕ
kept_at last None = None
kept_at last (Some place) = slice_get last place

-- of each call the place of the earlier change is kept, and of each committed transaction that of its last change; no other
-- transaction was changed
pub record AreChanges (earlier : List (Option ℕ)) (last : List ℕ) (log : List Logged) (entries : List Entry) : Type 0 where
  pub calls : earlier ≡ previous_changes [] log
  pub named : (txn : TxnId) → last_change txn log ≡ kept_at last (place_of txn entries)
  pub long : length last ≡ length entries

-- the transactions stand in the order of their commits, which are calls of the log, as their last changes are; and one whose last
-- change isn't before `again` was changed by its commit alone, and is live
pub record AreCommits (again : ℕ) (last : List ℕ) (log : List Logged) (entries : List Entry) : Type 0 where
  pub rising : (i j : ℕ) (one next : Entry) → slice_get entries i ≡ Some one → slice_get entries j ≡ Some next → i ≤ j →
      one.place ≤ next.place
  pub within : (i : ℕ) (entry : Entry) → slice_get entries i ≡ Some entry → entry.place < length log
  pub ended : (i place : ℕ) → slice_get last i ≡ Some place → place < length log
  pub first : (i place : ℕ) (entry : Entry) → slice_get last i ≡ Some place → slice_get entries i ≡ Some entry → again ≤ place →
      (entry.place ≡ place) × (entry.live ≡ true)

-- the transaction that the call at a place of the log changed
abbrev pub changed_of : Option Logged → Option TxnId
changed_of None = None
changed_of (Some call) = changed_in call

abbrev pub changed_at : List Logged → ℕ → Option TxnId
changed_at log place = changed_of (slice_get log place)

-- the place of the last call before it that changed the same transaction
abbrev pub earlier_at : List Logged → ℕ → Option ℕ
earlier_at log place = earlier_of (take place log) (changed_at log place)

-- there is no such call, or it lies before this place
abbrev pub is_unchanged_since : Option ℕ → ℕ → Bool
is_unchanged_since None since = true
is_unchanged_since (Some earlier) since = nat_lt earlier since

-- the transaction that the call at a place changed, where no call since another place did so before it
abbrev pub first_change : List Logged → ℕ → ℕ → Option TxnId
first_change log since place = if is_unchanged_since (earlier_at log place) since then changed_at log place else None

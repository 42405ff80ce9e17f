-- Why a book refuses, in words: the transaction that a refusal names, and what it did.
-- Source: this project's own rule.
use Rattle.std.specs.Prelude.{◌≡◌, ◌≢◌, ◌⊎◌, ◌↔◌, ℕ, ◌+◌, ◌<◌, List, ◌∷◌, ◌++◌, length, drop, map, Bool, true, false, Err, Contains, ⊤}
use Rattle.std.specs.FinSet as set
use Rattle.txn_commands.specs.declared.command.TxnId.{TxnId}
use Rattle.txn_commands.specs.declared.element.Element.{Element}
use Rattle.txn_commands.specs.Elements.{Touched}
use Rattle.txn_commands.specs.Meets.{some_meets}
use Rattle.txn_commands.specs.Records.{Records}
use Rattle.txn_commands.specs.Transactions.{Transaction}
use Rattle.undo_rules.specs.declared.log.Answer.{Answer}
use Rattle.undo_rules.specs.declared.log.Answer.TheVariants.{Committed, Opened, Redone, Refused, Undone}
use Rattle.undo_rules.specs.declared.log.BookFault.TheVariants.{Depends, Foreign, Moved, Stale}
use Rattle.undo_rules.specs.declared.log.Call.{Call}
use Rattle.undo_rules.specs.declared.log.Call.TheVariants.{Commit, Open, Redo, Undo}
use Rattle.undo_rules.specs.declared.log.Logged.{Logged}
use Rattle.undo_rules.specs.Books.{History}
use Rattle.undo_rules.specs.Laws.{IsOwnWork}
use Rattle.undo_rules.specs.Links.{AreNamed, Entry, trace_of}
use Rattle.undo_rules.specs.Steps.{commit_step, redo_step, undo_step}

-- one more call fits into the log
abbrev pub HasRoom : History → Type 0
HasRoom h = length h.log < h.limit

-- the footprint has an element in which a value lies that these records changed, before or after
pub record IsTouched (writes : Records) (footprint : Touched) : Type 0 where
  pub element : Element
  pub there : set.contains footprint element ≡ true
  pub met : some_meets writes element ≡ true

-- ---- transactions among those of a book

-- the transaction of this name, with this mark, between the earlier ones and the later ones
pub record IsAmong (h : History) (name : TxnId) (live : Bool) (earlier : List Entry) (entry : Entry) (later : List Entry) : Type 0 where
  pub place : h.entries ≡ earlier ++ entry ∷ later
  pub named : entry.txn ≡ name
  pub mark : entry.live ≡ live

-- it is live, and touched what was written
abbrev pub IsReader : Records → Entry → Type 0
IsReader writes entry = (entry.live ≡ true) × IsTouched writes entry.footprint

-- the first reader among these has this name
pub record IsFirstReader (writes : Records) (entries : List Entry) (name : TxnId) : Type 0 where
  pub before : List Entry
  pub reader : Entry
  pub rest : List Entry
  pub place : entries ≡ before ++ reader ∷ rest
  pub named : reader.txn ≡ name
  pub reads : IsReader writes reader
  pub first : (e : Entry) → Contains before e → ¬ (IsReader writes e)

-- the transaction has this mark, and the first later live one that touched what it wrote has this name
pub record IsReadBy (h : History) (txn : TxnId) (live : Bool) (name : TxnId) : Type 0 where
  pub earlier : List Entry
  pub entry : Entry
  pub later : List Entry
  pub among : IsAmong h txn live earlier entry later
  pub reader : IsFirstReader entry.writes later name

-- an earlier transaction is live and wrote what this one touched
abbrev pub IsLinked : Entry → Entry → Type 0
IsLinked entry earlier = (earlier.live ≡ true) × IsTouched earlier.writes entry.footprint

-- this one was linked to it as it was committed
abbrev pub WasLinked : Entry → Entry → Type 0
WasLinked entry earlier = Contains entry.seen earlier.txn

abbrev pub HasMoved : Entry → Entry → Type 0
HasMoved entry earlier = (IsLinked entry earlier × ¬ (WasLinked entry earlier)) ⊎ ((¬ (IsLinked entry earlier)) × WasLinked entry earlier)

-- the first of these that has moved has this name
pub record IsFirstMoved (entry : Entry) (entries : List Entry) (name : TxnId) : Type 0 where
  pub before : List Entry
  pub moved : Entry
  pub rest : List Entry
  pub place : entries ≡ before ++ moved ∷ rest
  pub named : moved.txn ≡ name
  pub has_moved : HasMoved entry moved
  pub first : (e : Entry) → Contains before e → ¬ (HasMoved entry e)

-- the transaction is undone, no later live one touched what it wrote, and the first earlier one that has moved has this name
pub record IsMovedBy (h : History) (txn name : TxnId) : Type 0 where
  pub earlier : List Entry
  pub entry : Entry
  pub later : List Entry
  pub among : IsAmong h txn false earlier entry later
  pub unread : (e : Entry) → Contains later e → ¬ (IsReader entry.writes e)
  pub moved : IsFirstMoved entry earlier name

-- ---- calls of the log

abbrev pub IsAccepted : Answer → Type 0
IsAccepted (Opened number) = ⊥
IsAccepted Committed = ⊤
IsAccepted Undone = ⊤
IsAccepted Redone = ⊤
IsAccepted (Refused fault) = ⊥

abbrev pub NamesTxn : Call → TxnId → Type 0
NamesTxn Open name = ⊥
NamesTxn (Commit txn commands) name = txn ≡ name
NamesTxn (Undo txn) name = txn ≡ name
NamesTxn (Redo txn) name = txn ≡ name

-- the call committed, undid or redid this transaction
abbrev pub HasChanged : Logged → TxnId → Type 0
HasChanged logged name = IsAccepted logged.answer × NamesTxn logged.call name

-- a committed transaction of this name wrote what is touched
pub record HasWritten (h : History) (name : TxnId) (touched : Touched) : Type 0 where
  pub entry : Entry
  pub there : Contains h.entries entry
  pub named : entry.txn ≡ name
  pub wrote : IsTouched entry.writes touched

abbrev pub IsCause : History → Touched → Logged → TxnId → Type 0
IsCause h touched logged name = HasChanged logged name × HasWritten h name touched

-- the first call since the work's open that changed a transaction which wrote what the work touched, changed this one
pub record IsStaleBy (h : History) (txn : Transaction) (name : TxnId) : Type 0 where
  pub before : List Logged
  pub cause : Logged
  pub rest : List Logged
  pub place : drop (txn.opened + 1) h.log ≡ before ++ cause ∷ rest
  pub is_cause : IsCause h txn.footprint cause name
  pub first : (l : Logged) (other : TxnId) → Contains before l → ¬ (IsCause h txn.footprint l other)

-- ---- the laws

abbrev pub NamesDiffer : History → Type 0
NamesDiffer h = AreNamed (map trace_of h.entries)

pub record UndoIsRefused (h : History) (session : ℕ) (txn other : TxnId) : Type 0 where
  pub depends : ((undo_step h session txn).0 ≡ Err (Depends other)) ↔ (HasRoom h × IsReadBy h txn true other)
  pub not_moved : (undo_step h session txn).0 ≢ Err (Moved other)
  pub not_stale : (undo_step h session txn).0 ≢ Err (Stale other)
  pub not_foreign : (undo_step h session txn).0 ≢ Err Foreign

abbrev pub UndosAreRefusedForCause : Type 0
UndosAreRefusedForCause = (h : History) (session : ℕ) (txn other : TxnId) → NamesDiffer h → UndoIsRefused h session txn other

pub record RedoIsRefused (h : History) (session : ℕ) (txn other : TxnId) : Type 0 where
  pub depends : ((redo_step h session txn).0 ≡ Err (Depends other)) ↔ (HasRoom h × IsReadBy h txn false other)
  pub moved : ((redo_step h session txn).0 ≡ Err (Moved other)) ↔ (HasRoom h × IsMovedBy h txn other)
  pub not_stale : (redo_step h session txn).0 ≢ Err (Stale other)
  pub not_foreign : (redo_step h session txn).0 ≢ Err Foreign

abbrev pub RedosAreRefusedForCause : Type 0
RedosAreRefusedForCause = (h : History) (session : ℕ) (txn other : TxnId) → NamesDiffer h → RedoIsRefused h session txn other

pub record CommitIsRefused (h : History) (txn : Transaction) (other : TxnId) : Type 0 where
  pub stale : ((commit_step h txn).0 ≡ Err (Stale other)) ↔ (HasRoom h × IsOwnWork h txn × IsStaleBy h txn other)
  pub foreign : ((commit_step h txn).0 ≡ Err Foreign) ↔ (HasRoom h × ¬ (IsOwnWork h txn))
  pub not_depends : (commit_step h txn).0 ≢ Err (Depends other)
  pub not_moved : (commit_step h txn).0 ≢ Err (Moved other)

abbrev pub CommitsAreRefusedForCause : Type 0
CommitsAreRefusedForCause = (h : History) (txn : Transaction) (other : TxnId) → NamesDiffer h → CommitIsRefused h txn other

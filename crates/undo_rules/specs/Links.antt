-- Which transactions a transaction is linked to: the live earlier ones that wrote what it touched.
-- Source: this project's own.
-- Checked on: tests/jobs/a-scan.job: 2.1, which combines layer M, is linked to 1.1, which drew on
-- M, and not to 1.2, which drew on N.
use Rattle.std.specs.Prelude.{◌≡◌, ℕ, ◌==◌, List, [], ◌∷◌, map, Bool, false, ◌&&◌, Option, None, Some, if◌then◌else◌}
use Rattle.std.specs.List.{AllByRecursion, list_any}
use Rattle.txn_commands.specs.declared.command.TxnId.{TxnId}
use Rattle.txn_commands.specs.Elements.{Touched}
use Rattle.txn_commands.specs.Meets.{meets_touched}
use Rattle.txn_commands.specs.Records.{Records}

-- what is kept of a committed transaction: its name, the place of its commit in the log, what it wrote and touched, what it
-- was linked to as it was committed, and whether it is live
pub record Entry : Type 0 where
  pub txn : TxnId
  pub place : ℕ
  pub writes : Records
  pub footprint : Touched
  pub seen : List TxnId
  pub live : Bool

-- the same name
abbrev pub txn_eq : TxnId → TxnId → Bool
txn_eq s t = (s.session == t.session) && (s.txn == t.txn)

-- a transaction's name and records
pub record Trace : Type 0 where
  pub txn : TxnId
  pub writes : Records

abbrev pub trace_of : Entry → Trace
trace_of entry = record { txn = entry.txn; writes = entry.writes }

-- of transactions with marks, the marked ones that wrote what is touched
abbrev pub linked : Touched → List Trace → List Bool → List TxnId
linked touched [] marks = []
linked touched (t ∷ ts) [] = []
linked touched (t ∷ ts) (mark ∷ marks) =
    if mark && meets_touched t.writes touched then t.txn ∷ linked touched ts marks else linked touched ts marks

abbrev pub live_of : Entry → Bool
live_of entry = entry.live

-- the live ones of these transactions that wrote what is touched
abbrev pub links_to : List Entry → Touched → List TxnId
links_to earlier touched = linked touched (map trace_of earlier) (map live_of earlier)

-- no two of these transactions have one name
abbrev pub AreNamed : List Trace → Type 0
AreNamed [] = Unit {0}
AreNamed (t ∷ ts) = AllByRecursion (λ u. txn_eq t.txn u.txn ≡ false) ts × AreNamed ts

-- the name is among these
abbrev pub is_named_in : TxnId → List TxnId → Bool
is_named_in txn names = list_any (txn_eq txn) names

-- the first of these transactions that is in one of the two lists and not in the other
abbrev pub first_moved : List Entry → List TxnId → List TxnId → Option TxnId
first_moved [] one other = None
first_moved (entry ∷ entries) one other =
    if is_named_in entry.txn one
    then (if is_named_in entry.txn other then first_moved entries one other else Some entry.txn)
    else (if is_named_in entry.txn other then Some entry.txn else first_moved entries one other)

-- the first live one of these that touched what was written
abbrev pub first_reader : Records → List Entry → Option TxnId
first_reader writes [] = None
first_reader writes (entry ∷ entries) =
    if entry.live && meets_touched writes entry.footprint then Some entry.txn else first_reader writes entries

-- the transaction with this mark
abbrev pub marked : Bool → Entry → Entry
marked live entry = record entry { live = live }

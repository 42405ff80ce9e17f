-- Places of transactions among the committed ones, by their names.
use Rattle.std.specs.Prelude.{
  ◌≡◌,
  ℕ,
  ◌==◌,
  suc,
  Bool,
  false,
  List,
  [],
  ◌∷◌,
  take,
  drop,
  Option,
  None,
  Some,
  option_map,
  if◌then◌else◌,
  slice_get,
}
use Rattle.std.specs.declared.cmp.Ordering.{Ordering}
use Rattle.std.specs.BTreeMap.{is_at}
use Rattle.std.specs.Map.{lookup}
use Rattle.std.specs.Ordering.{nat_cmp, ordering_then}
use Rattle.lay_layouts.specs.declared.id.ItemId.{ItemId}
use Rattle.txn_commands.specs.declared.command.TxnId.{TxnId}
use Rattle.undo_rules.specs.Links.{Entry, first_moved, links_to, txn_eq}
use Rattle.undo_rules.specs.Steps.{Found}

-- the place of the transaction of this name
abbrev pub place_of : TxnId → List Entry → Option ℕ
place_of txn [] = None
place_of txn (entry ∷ entries) = if txn_eq entry.txn txn then Some 0 else option_map suc (place_of txn entries)

-- the transaction at a place, with those before it and those behind it
abbrev pub found_at : List Entry → ℕ → Option Found
found_at entries place = option_map (λ entry. record { before = take place entries; entry = entry; later = drop (suc place) entries })
    (slice_get entries place)

-- the order of names: by session, and then by number
abbrev pub name_cmp : TxnId → TxnId → Ordering
name_cmp a b = ordering_then (nat_cmp a.session b.session) (nat_cmp a.txn b.txn)

-- the name of the transaction that makes items of such ids
abbrev pub maker_of : ItemId → TxnId
maker_of id = record { session = id.session; txn = id.txn }

-- under each name stands the place of its transaction, and under no other name a place
abbrev pub IndexesByName : List (TxnId × ℕ) → List Entry → Type 0
IndexesByName places entries = (txn : TxnId) → lookup (is_at (name_cmp txn)) places ≡ place_of txn entries

-- under one more name stands a place
abbrev pub IsPutUnder : TxnId → ℕ → List (TxnId × ℕ) → List (TxnId × ℕ) → Type 0
IsPutUnder txn place old new = (q : TxnId) → lookup (is_at (name_cmp q)) new
    ≡ (if is_at (name_cmp txn) q then Some place else lookup (is_at (name_cmp q)) old)

-- under a name stands this place
abbrev pub is_place : ℕ → Option ℕ → Bool
is_place p None = false
is_place p (Some place) = p == place

abbrev pub stands_at : List (TxnId × ℕ) → ℕ → TxnId → Bool
stands_at places p name = is_place p (lookup (is_at (name_cmp name)) places)

-- the name of the transaction at a place, if there is one
abbrev pub named_at : List Entry → Option ℕ → Option TxnId
named_at entries None = None
named_at entries (Some place) = option_map (λ entry. entry.txn) (slice_get entries place)

-- the first of the transactions before one that is linked to it and that it hasn't seen, or the other way round
abbrev pub moved_at : Option Found → Option TxnId
moved_at None = None
moved_at (Some at) = first_moved at.before (links_to at.before at.entry.footprint) at.entry.seen

-- Places listed under elements.
use Rattle.std.specs.Prelude.{◌≡◌, ℕ, ◌==◌, List, ◌++◌, Bool, false, not, ◌&&◌, ◌||◌, map}
use Rattle.std.specs.Prelude.{Option, None, Some, is_none}
use Rattle.std.specs.List.{filter}
use Rattle.std.specs.declared.cmp.Ordering.{Ordering}
use Rattle.std.specs.Coded.{Coded, coded×, coded_ℕ}
use Rattle.std.specs.FinSet as set
use Rattle.std.specs.FinSet.{FinSet}
use Rattle.lay_layouts.specs.declared.id.ItemId.{ItemId}
use Rattle.txn_commands.specs.contracts.element.Element as element
use Rattle.txn_commands.specs.declared.command.TxnId.{TxnId}
use Rattle.txn_commands.specs.declared.element.Element.{Element}
use Rattle.txn_commands.specs.declared.element.Element.TheVariants.{Calls, Cell, Content, Item, Layer, Uses}
use Rattle.txn_commands.specs.Elements.{Touched, element_cmp}
use Rattle.undo_index.specs.Under.{pair_order}

-- pairs go by their elements, then by their places
abbrev pub pair_cmp : Element × ℕ → Element × ℕ → Ordering
pair_cmp = pair_order element_cmp

-- a finite set of them
abbrev pub Listed : Type 0
Listed = FinSet pair_cmp

abbrev pub coded_listed : Coded Listed
coded_listed = set.code (coded× element.the_row.coded coded_ℕ)

-- nothing is listed
abbrev pub nothing_listed : Listed
nothing_listed = set.empty

-- the place is listed under the element
abbrev pub is_listed : Listed → Element → ℕ → Bool
is_listed listed e p = set.contains listed (e, p)

-- it is listed under no element
abbrev pub IsNew : Listed → ℕ → Type 0
IsNew listed place = (e : Element) → is_listed listed e place ≡ false

-- the element is an item that the transaction made: its id tells
abbrev pub is_made_by : TxnId → Element → Bool
is_made_by txn (Item id) = (txn.session == id.session) && (txn.txn == id.txn)
is_made_by txn (Layer cell layer) = false
is_made_by txn (Calls cell) = false
is_made_by txn (Cell number) = false
is_made_by txn (Content number) = false
is_made_by txn (Uses number) = false

-- the element is one of these, and the transaction didn't make it
abbrev pub is_others : TxnId → Touched → Element → Bool
is_others txn elements e = set.contains elements e && not (is_made_by txn e)

-- the transaction's place is listed under those of these elements too that it didn't make
abbrev pub AreAdded : Listed → TxnId → Touched → ℕ → Listed → Type 0
AreAdded old txn elements place new =
    (e : Element) (p : ℕ) → is_listed new e p ≡ (is_listed old e p || ((p == place) && is_others txn elements e))

-- it is listed under none of these
abbrev pub AreRemoved : Listed → TxnId → Touched → ℕ → Listed → Type 0
AreRemoved old txn elements place new =
    (e : Element) (p : ℕ) → is_listed new e p ≡ (is_listed old e p && not ((p == place) && is_others txn elements e))

-- ---- how they are kept

-- the id, where the element is an item
abbrev pub element_id : Element → Option ItemId
element_id (Item id) = Some id
element_id (Layer cell layer) = None
element_id (Calls cell) = None
element_id (Cell number) = None
element_id (Content number) = None
element_id (Uses number) = None

-- the element is no item
abbrev pub is_part : Element × ℕ → Bool
is_part k = is_none (element_id k.0)

-- a pair of an item
abbrev pub item_pair : ItemId × ℕ → Element × ℕ
item_pair k = (Item k.0, k.1)

-- what is listed, by the pairs of items and those of other elements
abbrev pub listed_of : List (ItemId × ℕ) → Listed → Listed
listed_of items others = set.from_list (map item_pair items ++ filter is_part (set.items others))

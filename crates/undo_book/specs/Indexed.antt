-- What is listed under elements: the live transactions that wrote them, and those that touched them.
use Rattle.std.specs.Prelude.{◌≡◌, ℕ, List, map, Bool, not, ◌&&◌, Option, Some, option_map, slice_get}
use Rattle.std.specs.FinSet as set
use Rattle.std.specs.List.{AllByRecursion}
use Rattle.txn_commands.specs.declared.command.TxnId.{TxnId}
use Rattle.txn_commands.specs.declared.element.Element.{Element}
use Rattle.txn_commands.specs.Lies.{passes}
use Rattle.txn_commands.specs.Meets.{some_meets}
use Rattle.txn_commands.specs.Elements.{Touched}
use Rattle.txn_commands.specs.Records.{AreProper}
use Rattle.undo_rules.specs.Links.{AreNamed, Entry, trace_of}
use Rattle.txn_commands.specs.Meets.{meets_touched}
use Rattle.txn_marks.specs.Homes.{AreMetBy}
use Rattle.undo_index.specs.Listed.{Listed, is_listed, is_made_by}
use Rattle.undo_book.specs.Places.{IndexesByName}

-- the transaction is live, and its records meet the element
abbrev pub wrote : Element → Entry → Bool
wrote e entry = entry.live && some_meets entry.writes e

-- it is live, and the element is in its footprint
abbrev pub touched : Element → Entry → Bool
touched e entry = entry.live && set.contains entry.footprint e

-- a transaction passes the test and made the element, or it passes and didn't
abbrev pub by_maker : (Element → Entry → Bool) → Element → Entry → Bool
by_maker test e entry = test e entry && is_made_by entry.txn e

abbrev pub by_other : (Element → Entry → Bool) → Element → Entry → Bool
by_other test e entry = test e entry && not (is_made_by entry.txn e)

-- a place is listed under an element exactly where the transaction there passes the test and didn't make the element
abbrev pub Lists : (Element → Entry → Bool) → Listed → List Entry → Type 0
Lists test listed entries = (e : Element) (i : ℕ) → is_listed listed e i ≡ passes (by_other test e) (slice_get entries i)

-- each place is listed under the elements that its live transaction wrote, and under those that it touched, but for the items that
-- it made
pub record AreIndexed (wrote_by read_by : Listed) (entries : List Entry) : Type 0 where
  pub writers : Lists wrote wrote_by entries
  pub readers : Lists touched read_by entries

-- transactions are found by their names, and in what one wrote an item by its id
pub record CanBeLookedUp (by_name : List (TxnId × ℕ)) (entries : List Entry) : Type 0 where
  pub places : IndexesByName by_name entries
  pub named : AreNamed (map trace_of entries)
  pub proper : AllByRecursion (λ entry. AreProper entry.writes) entries

-- the records of the transaction at a place meet these elements
abbrev pub IsMetAt : List Entry → ℕ → Touched → Type 0
IsMetAt entries place met = (entry : Entry) → slice_get entries place ≡ Some entry → AreMetBy entry.writes met

-- the transaction is live and wrote what is touched
abbrev pub is_linked : Entry → Touched → Bool
is_linked entry touched = entry.live && meets_touched entry.writes touched

-- the name of the transaction at a place
abbrev pub name_at : List Entry → ℕ → Option TxnId
name_at entries place = option_map (λ entry. entry.txn) (slice_get entries place)

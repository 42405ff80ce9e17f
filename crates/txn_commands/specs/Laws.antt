-- What holds of all commands, of their runs, and of the records between layouts.
use Rattle.std.specs.Prelude.{◌≡◌, ◌↔◌, ℕ, List, Option, Some, Ok, IsTrue, false}
use Rattle.std.specs.List.{AllByRecursion}
use Rattle.lay_cells.specs.declared.cell_id.CellId.{CellId}
use Rattle.lay_cells.specs.Walks.{Walks}
use Rattle.lay_layouts.specs.declared.id.ItemId.{ItemId}
use Rattle.lay_layouts.specs.declared.item.Item as items
use Rattle.lay_layouts.specs.declared.slot.CellSlot.{CellSlot}
use Rattle.lay_layouts.specs.Calls.{calls_of}
use Rattle.lay_layouts.specs.Layout.{Layout, item_at}
use Rattle.lay_layouts.specs.Same.{option_item_eq}
use Rattle.lay_layouts.specs.Sound.{IsSound}
use Rattle.std.specs.FinMap as map
use Rattle.txn_commands.specs.declared.command.Command.{Command}
use Rattle.txn_commands.specs.declared.command.TxnId.{TxnId}
use Rattle.txn_commands.specs.declared.element.Element.{Element}
use Rattle.txn_commands.specs.Acts.{Act}
use Rattle.txn_commands.specs.Agreement.{Agree, AgreeOn, AgreeOnEach}
use Rattle.txn_commands.specs.Changes.{change_map, change_of}
use Rattle.txn_commands.specs.Covers.{IsCovered, LeavesAlone}
use Rattle.txn_commands.specs.Effects.{Run, after_each, begun}
use Rattle.txn_commands.specs.Meets.{AreApart, some_meets}
use Rattle.txn_commands.specs.Own.{AnswersOwn, NewAreOwn}
use Rattle.txn_commands.specs.Plans.{plan}
use Rattle.txn_commands.specs.Reach.{is_among, reached}
use Rattle.txn_commands.specs.Records.{AreProper, Lead, Records, applied, option_slot_eq, reverted, records_between}
use Rattle.lay_layouts.specs.Layout.{put}

-- a command that is accepted on a sound layout does the same on each sound layout that agrees with the first on what it touches
abbrev pub PlansAreLocal : Type 0
PlansAreLocal = (new : ItemId) (command : Command) (l m : Layout) (act : Act) → IsSound l → IsSound m → plan new command l ≡ Ok act
    → AgreeOnEach l m act.elements → plan new command m ≡ Ok act

-- what it writes is among what it touches
abbrev pub PlansAreCovered : Type 0
PlansAreCovered = (new : ItemId) (command : Command) (l : Layout) (act : Act) → plan new command l ≡ Ok act → IsCovered act

-- the cells that are reached are those that walks lead to
abbrev pub ReachedAreWalks : Type 0
ReachedAreWalks = (l : Layout) (from to : CellId) → IsTrue (is_among to (reached l from)) ↔ Walks (calls_of l) from to

-- commands that are all accepted leave alone what they don't touch
abbrev pub RunsLeaveAlone : Type 0
RunsLeaveAlone = (txn : TxnId) (commands : List Command) (l : Layout) (end : Run) → after_each txn commands (begun l) ≡ Some end
    → LeavesAlone l end.layout end.footprint

-- they keep a layout sound
abbrev pub RunsKeepSound : Type 0
RunsKeepSound = (txn : TxnId) (commands : List Command) (l : Layout) (end : Run) → after_each txn commands (begun l) ≡ Some end
    → IsSound l → IsSound end.layout

-- what they make has ids of their transaction
abbrev pub RunsMakeTheirOwn : Type 0
RunsMakeTheirOwn = (txn : TxnId) (commands : List Command) (l : Layout) (end : Run) → after_each txn commands (begun l) ≡ Some end
    → AllByRecursion (AnswersOwn txn end.made) end.dones × NewAreOwn txn l end

-- a run on another layout has the same answers, made as many items, touched and wrote the same, and both end with layouts
-- that agree on what was touched
pub record GoesAlike (l m : Layout) (end there : Run) : Type 0 where
  pub dones : there.dones ≡ end.dones
  pub made : there.made ≡ end.made
  pub footprint : there.footprint ≡ end.footprint
  pub records : records_between m there.layout ≡ records_between l end.layout
  pub agree : AgreeOn end.layout there.layout end.footprint

-- commands that are accepted on a sound layout go alike on each sound layout that agrees with the first on what they touch
abbrev pub Frame : Type 0
Frame = (txn : TxnId) (commands : List Command) (l m : Layout) (end : Run) → IsSound l → IsSound m
    → after_each txn commands (begun l) ≡ Some end → AgreeOn l m end.footprint
    → (there : Run) × (after_each txn commands (begun m) ≡ Some there) × GoesAlike l m end there

-- the records between two layouts are in order, lead from the one to the other, and give the one from the other
abbrev pub RecordsLead : Type 0
RecordsLead = (l m : Layout) → AreProper (records_between l m) × Lead (records_between l m) l m
    × (applied l (records_between l m) ≡ m) × (reverted m (records_between l m) ≡ l)

-- so does whatever leads from a layout to another, in order
abbrev pub LeadersApply : Type 0
LeadersApply = (records : Records) (l m : Layout) → AreProper records → Lead records l m →
    (applied l records ≡ m) × (reverted m records ≡ l)

-- and there is nothing else that does
abbrev pub RecordsAreOne : Type 0
RecordsAreOne = (records : Records) (l m : Layout) → AreProper records → Lead records l m → records ≡ records_between l m

-- records that don't meet an element keep what lies in it
abbrev pub UnmetIsKept : Type 0
UnmetIsKept = (records : Records) (l m : Layout) (e : Element) → Lead records l m → some_meets records e ≡ false → Agree l m e

-- layouts agree on an element behind records where they do before them, and the other way round
abbrev pub RecordsKeepAgreement : Type 0
RecordsKeepAgreement = (records : Records) (l m l' m' : Layout) (e : Element) → Lead records l l' → Lead records m m' →
    Agree l m e ↔ Agree l' m' e

-- where records lead from one sound layout to another, and commands on the first touch nothing that they meet, the commands go
-- alike on the second, and the records lead from where they end on the first to where they end on the second
abbrev pub RecordsGoPast : Type 0
RecordsGoPast = (txn : TxnId) (commands : List Command) (records : Records) (l m : Layout) (end : Run) → AreProper records →
    Lead records l m → IsSound l → IsSound m
    → after_each txn commands (begun l) ≡ Some end → AreApart records end.footprint
    → (there : Run) × (after_each txn commands (begun m) ≡ Some there) × GoesAlike l m end there × Lead records end.layout there.layout

-- commands behind such records go alike without them, and the records lead from where they then end
abbrev pub RecordsComeOut : Type 0
RecordsComeOut = (txn : TxnId) (commands : List Command) (records : Records) (l m : Layout) (end : Run) → AreProper records →
    Lead records l m → IsSound l → IsSound m
    → after_each txn commands (begun m) ≡ Some end → AreApart records end.footprint
    → (there : Run) × (after_each txn commands (begun l) ≡ Some there) × GoesAlike m l end there × Lead records there.layout end.layout

-- one more write changes the changes at its key
abbrev pub ChangesMerge : Type 0
ChangesMerge = (l m : Layout) (id : ItemId) (item : Option items.Item)
    → change_map option_item_eq l.items (put m.items id item)
    ≡ put (change_map option_item_eq l.items m.items) id (change_of option_item_eq (item_at l id) item)

abbrev pub SlotChangesMerge : Type 0
SlotChangesMerge = (l m : Layout) (number : ℕ) (slot : Option CellSlot)
    → change_map option_slot_eq l.symbols (put m.symbols number slot)
    ≡ put (change_map option_slot_eq l.symbols m.symbols) number (change_of option_slot_eq (map.get l.symbols number) slot)

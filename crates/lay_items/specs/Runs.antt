-- Runs of items: the groups that items are of, the marks of those that begin a run, and what is lent by them.
use Rattle.std.specs.Prelude.{◌≡◌, ℕ, ◌+◌, ◌*◌, ◌%◌, ◌==◌, ◌&&◌, Bool, true, ⊤, not}
use Rattle.std.specs.Prelude.{cond, List, [], ◌∷◌, ◌++◌, Option, None, Some, filter, fold, option_map}
use Rattle.std.specs.declared.cmp.Ordering.{Ordering}
use Rattle.std.specs.Ordering.{nat_cmp, ordering_then}
use Rattle.std.specs.Cmp.{IsTotalOrder, nat_cmp_total}
use Rattle.std.specs.FinMap.{IsAntisymmetric, find}
use Rattle.std.specs.List.Sorted.{IsStrictlySortedBy}
use Rattle.std.specs.Map.{keys_of}
use Rattle.std.proofs.Common.{ap}
use Rattle.std.proofs.lemmas.Cmp.{on_total, then_total}
use Rattle.std.proofs.lemmas.Map.Lookups.{exact_pairs, exact_unsigned}
use Rattle.lay_cells.specs.declared.cell_id.CellId.{CellId}
use Rattle.lay_cells.specs.declared.cell_id.CellId.TheVariants.{Symbol, Top}
use Rattle.lay_items.specs.declared.group.By.{By}
use Rattle.lay_items.specs.declared.group.By.TheVariants.{Cell, Layer}
use Rattle.lay_items.specs.declared.group.Group.{Group}
use Rattle.lay_items.specs.declared.marks.Mark.{Mark}
use Rattle.lay_layouts.specs.declared.id.ItemId.{ItemId}
use Rattle.lay_layouts.specs.declared.item.Item.{Item}
use Rattle.lay_layouts.specs.declared.item.Item.TheVariants.{Placed, Shape}
use Rattle.lay_layouts.specs.IdOrder.{ids_exact, ids_total}
use Rattle.lay_layouts.specs.Ids.{id_cmp}
use Rattle.lay_layouts.specs.Items.{cell_of}
use Rattle.lay_pages.specs.Written.{after_write, from_key}

-- cells are told apart by numbers: 0 for the top cell, and one more than its own for a symbol
abbrev pub cell_key : CellId → ℕ
cell_key Top = 0
cell_key (Symbol number) = number + 1

-- the tag of a layer: a number of 32 bits made of the bytes of its name, by which most layers differ
abbrev pub tag_with : ℕ → ℕ → ℕ
tag_with tag byte = ((tag * 257) % 4294967296 + byte) % 4294967296

unfoldable pub layer_tag : List ℕ → ℕ
layer_tag name = fold tag_with 0 name

-- the tag of an item: that of its layer; a call has 0
abbrev pub tag_of : Item → ℕ
tag_of (Shape cell layer rings) = layer_tag layer
tag_of (Placed cell target turn) = 0

-- ---- groups

abbrev pub cell_group : CellId → Group
cell_group cell = record { cell = cell_key cell; tag = 0 }

abbrev pub layer_group : CellId → List ℕ → Group
layer_group cell layer = record { cell = cell_key cell; tag = layer_tag layer }

abbrev pub call_group : CellId → Group
call_group cell = record { cell = cell_key cell; tag = 0 }

-- an item is of one group by its cell, and of one by its layer
abbrev pub group_in : By → Item → Group
group_in Cell item = cell_group (cell_of item)
group_in Layer item = record { cell = cell_key (cell_of item); tag = tag_of item }

abbrev pub same_group : Group → Group → Bool
same_group a b = (a.cell == b.cell) && (a.tag == b.tag)

abbrev pub HeldItem : Type 0
HeldItem = ItemId × Item

-- the items of a group
abbrev pub of_group : By → Group → List HeldItem → List HeldItem
of_group by group entries = filter (λ entry. same_group (group_in by entry.1) group) entries

-- ---- marks, in order of groups and ids

abbrev pub group_cmp : Group → Group → Ordering
group_cmp a b = ordering_then (nat_cmp a.cell b.cell) (nat_cmp a.tag b.tag)

abbrev pub mark_cmp : Mark → Mark → Ordering
mark_cmp a b = ordering_then (group_cmp a.group b.group) (id_cmp a.id b.id)

pub groups_total : IsTotalOrder group_cmp
groups_total = then_total (on_total (λ a. a.cell) nat_cmp_total) (on_total (λ a. a.tag) nat_cmp_total)

pub marks_total : IsTotalOrder mark_cmp
marks_total = then_total (on_total (λ a. a.group) groups_total) (on_total (λ a. a.id) ids_total)

pub groups_exact : IsAntisymmetric group_cmp
groups_exact a b h =
    ap (λ (p : ℕ × ℕ). record { cell = p.0; tag = p.1 }) (exact_pairs nat_cmp nat_cmp exact_unsigned exact_unsigned (a.cell, a.tag)
    (b.cell, b.tag) h)

pub marks_exact : IsAntisymmetric mark_cmp
marks_exact a b h =
    ap (λ (p : Group × ItemId). record { group = p.0; id = p.1 }) (exact_pairs group_cmp id_cmp groups_exact ids_exact (a.group, a.id)
    (b.group, b.id) h)

abbrev pub MarkList : Type 0
MarkList = List (Mark × ⊤)

-- a mark as a key, which has no value
abbrev pub with_none : Mark → Mark × ⊤
with_none mark = (mark, tt)

abbrev pub mark_of : By → HeldItem → Mark
mark_of by entry = record { group = group_in by entry.1; id = entry.0 }

abbrev pub HasMark : MarkList → Mark → Type 0
HasMark marks mark = find mark_cmp mark marks ≡ Some tt

-- an item of this group begins a run behind one of another group, or as the first
abbrev pub begins : Option Group → Group → Bool
begins None group = true
begins (Some before) group = not (same_group before group)

-- each that begins a run is marked
abbrev pub AreBegun : By → MarkList → Option Group → List HeldItem → Type 0
AreBegun by marks before [] = ⊤
AreBegun by marks before (e ∷ es) =
    (begins before (group_in by e.1) ≡ true → HasMark marks (mark_of by e)) × AreBegun by marks (Some (group_in by e.1)) es

-- those that do, in order of the ids
abbrev pub beginnings : By → Option Group → List HeldItem → List Mark
beginnings by before [] = []
beginnings by before (e ∷ es) =
    cond (begins before (group_in by e.1)) (mark_of by e ∷ beginnings by (Some (group_in by e.1)) es)
    (beginnings by (Some (group_in by e.1)) es)

-- and each mark is that of an item, with its group
abbrev pub AreOfItems : By → List HeldItem → MarkList → Type 0
AreOfItems by entries marks =
    (mark : Mark) → HasMark marks mark → option_map (group_in by) (find id_cmp mark.id entries) ≡ Some mark.group

pub record AreRuns (by : By) (entries : List HeldItem) (marks : MarkList) : Type 0 where
  pub sorted : IsStrictlySortedBy mark_cmp (keys_of marks)
  pub begun : AreBegun by marks None entries
  pub of_items : AreOfItems by entries marks

-- items in order of their ids, with the marks of their runs
pub record AreHeld (entries : List HeldItem) (cells layers : MarkList) : Type 0 where
  pub ids : IsStrictlySortedBy id_cmp (keys_of entries)
  pub of_cells : AreRuns Cell entries cells
  pub of_layers : AreRuns Layer entries layers

-- ---- what a write leaves of the marks

abbrev pub group_of : By → Option HeldItem → Option Group
group_of by None = None
group_of by (Some entry) = Some (group_in by entry.1)

-- without the mark of an item that goes
abbrev pub without_mark_of : By → ItemId → Option Item → MarkList → MarkList
without_mark_of by id None marks = marks
without_mark_of by id (Some item) marks = after_write mark_cmp (mark_of by (id, item)) None marks

-- with that of an item behind one of this group, where it begins a run
abbrev pub with_mark_of : By → Option Group → Option HeldItem → MarkList → MarkList
with_mark_of by before None marks = marks
with_mark_of by before (Some entry) marks =
    cond (begins before (group_in by entry.1)) (after_write mark_cmp (mark_of by entry) (Some tt) marks) marks

-- an item that is written
abbrev pub entry_under : ItemId → Option Item → Option HeldItem
entry_under id None = None
entry_under id (Some item) = Some (id, item)

-- the group before the item after a write
abbrev pub group_before : By → Option Group → Option Item → Option Group
group_before by before None = before
group_before by before (Some item) = Some (group_in by item)

-- where a write falls: the items before and after its id, and the one under it, before the write and after
pub record WriteSite : Type 0 where
  pub before : Option HeldItem
  pub id : ItemId
  pub old : Option Item
  pub new : Option Item
  pub after : Option HeldItem

-- the marks after a write, in three steps: the mark of the item that goes is taken away
abbrev pub marks_left : By → WriteSite → MarkList → MarkList
marks_left by site marks = without_mark_of by site.id site.old marks

-- the item that comes has one, where it begins a run
abbrev pub marks_with_new : By → WriteSite → MarkList → MarkList
marks_with_new by site marks = with_mark_of by (group_of by site.before) (entry_under site.id site.new) (marks_left by site marks)

-- and so has the item after it, where that begins one now
abbrev pub marks_after : By → WriteSite → MarkList → MarkList
marks_after by site marks =
    with_mark_of by (group_before by (group_of by site.before) site.new) site.after (marks_with_new by site marks)

-- ---- what is lent of a group

-- the id of the group's first mark from an id on
abbrev pub first_mark_in : Group → MarkList → Option ItemId
first_mark_in group [] = None
first_mark_in group (m ∷ ms) = cond (same_group m.0.group group) (Some m.0.id) None

abbrev pub next_mark : Group → ItemId → MarkList → Option ItemId
next_mark group id marks = first_mark_in group (from_key mark_cmp (record { group = group; id = id }) marks)

-- the items from there on
abbrev pub from_mark : Option ItemId → List HeldItem → List HeldItem
from_mark None entries = []
from_mark (Some id) entries = from_key id_cmp id entries

-- entries at the end of others
pub record AreLast (rest all : List HeldItem) : Type 0 where
  pub front : List HeldItem
  pub is : all ≡ front ++ rest

-- what is left of all items, which are in order, and their marks
pub record AreLent (by : By) (marks : MarkList) (entries rest : List HeldItem) : Type 0 where
  pub ids : IsStrictlySortedBy id_cmp (keys_of entries)
  pub runs : AreRuns by entries marks
  pub last : AreLast rest entries

-- the least id
abbrev pub least_id : ItemId
least_id = record { session = 0; txn = 0; seq = 0 }

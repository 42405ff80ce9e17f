-- The marks of runs after a write: those that are left, those that are put in, and that they are those of the runs.
use Rattle.std.proofs.Common.{◌≡◌, ◌∙◌, ◌++◌, Bool, true, false, List, [], ◌∷◌, Option, Some, None, ap, cond, refl, subst, sym}
use Rattle.std.specs.Prelude.{⊤, option_copied, option_map}
use Rattle.std.specs.Cmp.{Equal-is, eq_by_cmp_equiv}
use Rattle.std.specs.FinMap.{find}
use Rattle.std.specs.List.{AllByRecursion}
use Rattle.std.specs.List.Sorted.{IsStrictlySortedBy}
use Rattle.std.specs.Map.{keys_of}
use Rattle.std.specs.Option.{is_some}
use Rattle.std.specs.Ordering.{eq_by_cmp, is_eq, is_lt}
use Rattle.std.specs.declared.cmp.Ordering.{Ordering}
use Rattle.std.specs.declared.cmp.Ordering.TheVariants.{Equal, Greater, Less}
use denote.Ref.{Bor}
use Rattle.lay_pages.specs.Written.{after_write, first_entry, higher, last_entry, lower, written_entries}
use Rattle.lay_pages.proofs.FillLemmas.{right_all}
use Rattle.lay_pages.proofs.OrderLemmas.{found_sorted, sorted-written, written-same}
use Rattle.lay_layouts.specs.declared.id.ItemId.{ItemId}
use Rattle.lay_layouts.specs.declared.item.Item.{Item}
use Rattle.lay_layouts.specs.IdOrder.{ids_exact, ids_total}
use Rattle.lay_layouts.specs.Ids.{id_cmp}
use Rattle.lay_layouts.proofs.PutLemmas.{find-after_write}
use Rattle.lay_items.specs.declared.group.By.{By}
use Rattle.lay_items.specs.declared.group.By.TheVariants.{Cell, Layer}
use Rattle.lay_items.specs.declared.group.Group.{Group}
use Rattle.lay_items.specs.declared.marks.Mark.{Mark}
use Rattle.lay_items.specs.Runs.{AreBegun, AreHeld, AreOfItems, AreRuns, HeldItem, HasMark, MarkList}
use Rattle.lay_items.specs.Runs.{begins, entry_under, group_before, group_in, group_of, mark_cmp, mark_of, with_mark_of, marks_after}
use Rattle.lay_items.specs.Runs.{marks_exact, marks_total, without_mark_of}

-- ---- ids and marks

-- what is less is not equal
other_by_lt : (o : Ordering) → is_lt o ≡ true → is_eq o ≡ false
other_by_lt Less is = refl
other_by_lt Equal is = absurd cc
other_by_lt Greater is = refl

-- entries have other ids
abbrev AreOthers : ItemId → List HeldItem → Type 0
AreOthers id es = AllByRecursion (λ e. eq_by_cmp id_cmp e.0 id ≡ false) es

-- as those before the id
others_low : (id : ItemId) (es : List HeldItem) → AreOthers id (lower id_cmp id es)
others_low id [] = tt
others_low id (e ∷ es) = here (is_lt (id_cmp e.0 id)) refl (others_low id es) where
  here : (b : Bool) → is_lt (id_cmp e.0 id) ≡ b → AreOthers id (lower id_cmp id es)
      → AreOthers id (cond b (e ∷ lower id_cmp id es) (lower id_cmp id es))
  here true is rest = (other_by_lt (id_cmp e.0 id) is, rest)
  here false is rest = rest

-- and those behind it
others_high : (id : ItemId) (es : List HeldItem) → AreOthers id (higher id_cmp id es)
others_high id [] = tt
others_high id (e ∷ es) = here (is_lt (id_cmp id e.0)) refl (others_high id es) where
  here : (b : Bool) → is_lt (id_cmp id e.0) ≡ b → AreOthers id (higher id_cmp id es)
      → AreOthers id (cond b (e ∷ higher id_cmp id es) (higher id_cmp id es))
  here true is rest = ((eq_by_cmp_equiv ids_total).symm e.0 id ∙ other_by_lt (id_cmp id e.0) is, rest)
  here false is rest = rest

-- marks that compare as equal are one
same_mark : (q m : Mark) → eq_by_cmp mark_cmp q m ≡ true → q ≡ m
same_mark q m is = marks_exact q m ((Equal-is (mark_cmp q m)).0 is)

-- and each compares so with itself
own_mark : (m : Mark) → eq_by_cmp mark_cmp m m ≡ true
own_mark m = (eq_by_cmp_equiv marks_total).refl m

-- as each id does
own_id : (id : ItemId) → eq_by_cmp id_cmp id id ≡ true
own_id id = (eq_by_cmp_equiv ids_total).refl id

-- marks of other ids are others
other_mark : (q m : Mark) → eq_by_cmp id_cmp q.id m.id ≡ false → eq_by_cmp mark_cmp q m ≡ false
other_mark q m other = by (eq_by_cmp mark_cmp q m) refl where
  by : (b : Bool) → eq_by_cmp mark_cmp q m ≡ b → b ≡ false
  by true is =
      sym (sym other ∙ ap (λ (x : Mark). eq_by_cmp id_cmp x.id m.id) (same_mark q m is) ∙ own_id m.id)
  by false is = refl

-- ---- what is there already

-- a mark that is there, put in once more
pub same_there : (m : Mark) (marks : MarkList) (got : Option (Bor ⊤)) → option_copied got ≡ find mark_cmp m marks → is_some got ≡ true
    → IsStrictlySortedBy mark_cmp (keys_of marks) → marks ≡ after_write mark_cmp m (Some tt) marks
same_there m marks None is there sorted = absurd cc
same_there m marks (Some unit) is there sorted =
    sym (written-same marks_total marks_exact m marks sorted) ∙ ap (λ o. after_write mark_cmp m o marks) (sym is)

-- one that is not there, taken out
pub same_gone : (m : Mark) (marks : MarkList) (got : Option (Bor ⊤)) → option_copied got ≡ find mark_cmp m marks → is_some got ≡ false
    → IsStrictlySortedBy mark_cmp (keys_of marks) → marks ≡ after_write mark_cmp m None marks
same_gone m marks None is gone sorted =
    sym (written-same marks_total marks_exact m marks sorted) ∙ ap (λ o. after_write mark_cmp m o marks) (sym is)
same_gone m marks (Some unit) is gone sorted = absurd cc

-- ---- a mark that is put in, and one that is taken out

-- each mark is among these too
abbrev AreKept : MarkList → MarkList → Type 0
AreKept marks new = (mark : Mark) → HasMark marks mark → HasMark new mark

-- where a mark is put in, it is there
put_there : (m : Mark) (marks : MarkList) → HasMark (after_write mark_cmp m (Some tt) marks) m
put_there m marks =
    find-after_write marks_total marks_exact m (Some tt) marks m
    ∙ ap (λ b. cond b (Some tt) (find mark_cmp m marks)) (own_mark m)

-- and the others stay
put_kept : (m : Mark) (marks : MarkList) → AreKept marks (after_write mark_cmp m (Some tt) marks)
put_kept m marks q is = find-after_write marks_total marks_exact m (Some tt) marks q ∙ by (eq_by_cmp mark_cmp q m) where
  by : (b : Bool) → cond b (Some tt) (find mark_cmp q marks) ≡ Some tt
  by true = refl
  by false = is

-- where one is taken out, the others stay
taken_kept : (m q : Mark) (marks : MarkList) → eq_by_cmp mark_cmp q m ≡ false → HasMark marks q
    → HasMark (after_write mark_cmp m None marks) q
taken_kept m q marks other is =
    find-after_write marks_total marks_exact m None marks q ∙ ap (λ b. cond b None (find mark_cmp q marks)) other ∙ is

-- and it is not there
taken_other : (m q : Mark) (marks : MarkList) → HasMark (after_write mark_cmp m None marks) q
    → (eq_by_cmp mark_cmp q m ≡ false) × HasMark marks q
taken_other m q marks is =
    by (eq_by_cmp mark_cmp q m) (sym (find-after_write marks_total marks_exact m None marks q) ∙ is) where
      by : (b : Bool) → cond b None (find mark_cmp q marks) ≡ Some tt → (b ≡ false) × HasMark marks q
      by true was = absurd cc
      by false was = (refl, was)

-- the marks of a write are among those after it
marked_kept : (by : By) (before : Option Group) (e : Option HeldItem) (marks : MarkList) → AreKept marks (with_mark_of by before e marks)
marked_kept by before None marks q is = is
marked_kept by before (Some e) marks q is = here (begins before (group_in by e.1)) where
  here : (b : Bool) → HasMark (cond b (after_write mark_cmp (mark_of by e) (Some tt) marks) marks) q
  here true = put_kept (mark_of by e) marks q is
  here false = is

-- one that begins a run is marked
marked_there : (by : By) (before : Option Group) (e : HeldItem) (marks : MarkList) → begins before (group_in by e.1) ≡ true
    → HasMark (with_mark_of by before (Some e) marks) (mark_of by e)
marked_there by before e marks is =
    subst (λ b. HasMark (cond b (after_write mark_cmp (mark_of by e) (Some tt) marks) marks) (mark_of by e)) (sym is)
    (put_there (mark_of by e) marks)

-- ---- their order

-- marks stay in order where the one of an item is taken out
sorted_unmarked : (by : By) (id : ItemId) (old : Option Item) (marks : MarkList) → IsStrictlySortedBy mark_cmp (keys_of marks)
    → IsStrictlySortedBy mark_cmp (keys_of (without_mark_of by id old marks))
sorted_unmarked by id None marks sorted = sorted
sorted_unmarked by id (Some item) marks sorted = sorted-written marks_total marks_exact (mark_of by (id, item)) None marks sorted

-- and where one is put in
sorted_marked : (by : By) (before : Option Group) (e : Option HeldItem) (marks : MarkList) → IsStrictlySortedBy mark_cmp (keys_of marks)
    → IsStrictlySortedBy mark_cmp (keys_of (with_mark_of by before e marks))
sorted_marked by before None marks sorted = sorted
sorted_marked by before (Some e) marks sorted = here (begins before (group_in by e.1)) where
  here : (b : Bool) → IsStrictlySortedBy mark_cmp (keys_of (cond b (after_write mark_cmp (mark_of by e) (Some tt) marks) marks))
  here true = sorted-written marks_total marks_exact (mark_of by e) (Some tt) marks sorted
  here false = sorted

-- ---- those that begin runs

-- more marks serve too
begun_more : (by : By) (marks new : MarkList) → AreKept marks new → (before : Option Group) (es : List HeldItem)
    → AreBegun by marks before es → AreBegun by new before es
begun_more by marks new kept before [] begun = tt
begun_more by marks new kept before (e ∷ es) begun = (
  λ is. kept (mark_of by e) (begun.0 is),
  begun_more by marks new kept (Some (group_in by e.1)) es begun.1,
)

-- for items of other ids the marks without this one serve too
begun_taken : (by : By) (marks : MarkList) (m : Mark) (before : Option Group) (es : List HeldItem) → AreOthers m.id es
    → AreBegun by marks before es → AreBegun by (after_write mark_cmp m None marks) before es
begun_taken by marks m before [] others begun = tt
begun_taken by marks m before (e ∷ es) others begun = (
  λ is. taken_kept m (mark_of by e) marks (other_mark (mark_of by e) m others.0) (begun.0 is),
  begun_taken by marks m (Some (group_in by e.1)) es others.1 begun.1,
)

-- nor do they miss that of the item which goes
begun_unmarked : (by : By) (id : ItemId) (old : Option Item) (marks : MarkList) (before : Option Group) (es : List HeldItem)
    → AreOthers id es → AreBegun by marks before es → AreBegun by (without_mark_of by id old marks) before es
begun_unmarked by id None marks before es others begun = begun
begun_unmarked by id (Some item) marks before es others begun = begun_taken by marks (mark_of by (id, item)) before es others begun

-- the group of the last item, or else the one before
abbrev last_group : By → Option Group → List HeldItem → Option Group
last_group by before [] = before
last_group by before (e ∷ es) = last_group by (Some (group_in by e.1)) es

-- it is that of the last of them
last_group-is : (by : By) (e : HeldItem) (es : List HeldItem)
    → last_group by (Some (group_in by e.1)) es ≡ group_of by (last_entry (e ∷ es))
last_group-is by e [] = refl
last_group-is by e (f ∷ es) = last_group-is by f es

-- with none before them too
last_group-first : (by : By) (es : List HeldItem) → last_group by None es ≡ group_of by (last_entry es)
last_group-first by [] = refl
last_group-first by (e ∷ es) = last_group-is by e es

-- of the first ones of a list
begun_front : (by : By) (marks : MarkList) (before : Option Group) (es fs : List HeldItem) → AreBegun by marks before (es ++ fs)
    → AreBegun by marks before es
begun_front by marks before [] fs begun = tt
begun_front by marks before (e ∷ es) fs begun = (begun.0, begun_front by marks (Some (group_in by e.1)) es fs begun.1)

-- of the others, behind the last of the first ones
begun_rest : (by : By) (marks : MarkList) (before : Option Group) (es fs : List HeldItem) → AreBegun by marks before (es ++ fs)
    → AreBegun by marks (last_group by before es) fs
begun_rest by marks before [] fs begun = begun
begun_rest by marks before (e ∷ es) fs begun = begun_rest by marks (Some (group_in by e.1)) es fs begun.1

-- and of both, put together
begun_both : (by : By) (marks : MarkList) (before : Option Group) (es fs : List HeldItem) → AreBegun by marks before es
    → AreBegun by marks (last_group by before es) fs → AreBegun by marks before (es ++ fs)
begun_both by marks before [] fs front rest = rest
begun_both by marks before (e ∷ es) fs front rest = (front.0, begun_both by marks (Some (group_in by e.1)) es fs front.1 rest)

-- of those behind the item under the id, if any
begun_behind : (by : By) (marks : MarkList) (before : Option Group) (id : ItemId) (old : Option Item) (es : List HeldItem)
    → AreBegun by marks before (written_entries id old ++ es) → AreBegun by marks (group_before by before old) es
begun_behind by marks before id None es begun = begun
begun_behind by marks before id (Some item) es begun = begun.1

-- behind another item the first one is marked anew
begun_anew : (by : By) (marks : MarkList) (was before : Option Group) (es : List HeldItem) → AreBegun by marks was es
    → AreBegun by (with_mark_of by before (first_entry es) marks) before es
begun_anew by marks was before [] begun = tt
begun_anew by marks was before (e ∷ es) begun = (
  marked_there by before e marks,
  begun_more by marks (with_mark_of by before (Some e) marks) (marked_kept by before (Some e) marks) (Some (group_in by e.1)) es begun.1,
)

-- the item that is written is marked, and then the first one behind it
begun_written : (by : By) (marks : MarkList) (was before : Option Group) (id : ItemId) (new : Option Item) (es : List HeldItem)
    → AreBegun by marks was es
    → AreBegun by (with_mark_of by (group_before by before new) (first_entry es) (with_mark_of by before (entry_under id new) marks)) before
    (written_entries id new ++ es)
begun_written by marks was before id None es begun = begun_anew by marks was before es begun
begun_written by marks was before id (Some item) es begun = (
  λ is. marked_kept by (Some (group_in by item)) (first_entry es) (with_mark_of by before (Some (id, item)) marks) (mark_of by (id, item))
      (marked_there by before (id, item) marks is),
  begun_anew by (with_mark_of by before (Some (id, item)) marks) was (Some (group_in by item)) es
      (begun_more by marks (with_mark_of by before (Some (id, item)) marks) (marked_kept by before (Some (id, item)) marks) was es begun),
)

-- ---- marks of items

-- an entry, if any, is found under its id
abbrev IsIn : List HeldItem → Option HeldItem → Type 0
IsIn es None = ⊤
IsIn es (Some e) = find id_cmp e.0 es ≡ Some e.1

-- a mark that is put in is of an item, where that is found
of_put : (by : By) (es : List HeldItem) (marks : MarkList) (e : HeldItem) → AreOfItems by es marks → find id_cmp e.0 es ≡ Some e.1
    → AreOfItems by es (after_write mark_cmp (mark_of by e) (Some tt) marks)
of_put by es marks e of found q is =
    here (eq_by_cmp mark_cmp q (mark_of by e)) refl
    (sym (find-after_write marks_total marks_exact (mark_of by e) (Some tt) marks q) ∙ is) where
      here : (b : Bool) → eq_by_cmp mark_cmp q (mark_of by e) ≡ b → cond b (Some tt) (find mark_cmp q marks) ≡ Some tt
          → option_map (group_in by) (find id_cmp q.id es) ≡ Some q.group
      here true same was =
          subst (λ (m : Mark). option_map (group_in by) (find id_cmp m.id es) ≡ Some m.group) (sym (same_mark q (mark_of by e) same))
          (ap (option_map (group_in by)) found)
      here false other was = of q was

-- so are the marks of a write
of_marked : (by : By) (es : List HeldItem) (before : Option Group) (e : Option HeldItem) (marks : MarkList)
    → IsIn es e → AreOfItems by es marks
    → AreOfItems by es (with_mark_of by before e marks)
of_marked by es before None marks found of = of
of_marked by es before (Some e) marks found of = here (begins before (group_in by e.1)) where
  here : (b : Bool) → AreOfItems by es (cond b (after_write mark_cmp (mark_of by e) (Some tt) marks) marks)
  here true = of_put by es marks e of found
  here false = of

-- no mark of this id is left, where each was that of the item that goes
no_other : (by : By) (id : ItemId) (old : Option Item) (marks : MarkList) (q : Mark) → eq_by_cmp id_cmp q.id id ≡ true
    → (HasMark marks q → option_map (group_in by) old ≡ Some q.group) → HasMark (without_mark_of by id old marks) q → ⊥
no_other by id None marks q same of is = absurd (let none = of is in cc)
no_other by id (Some item) marks q same of is =
    let rest = taken_other (mark_of by (id, item)) q marks is in
    let ids : q.id ≡ id = ids_exact q.id id ((Equal-is (id_cmp q.id id)).0 same) in
    let groups : Some (group_in by item) ≡ Some q.group = of rest.1 in
    let group : group_in by item ≡ q.group = cc in
    let one : eq_by_cmp mark_cmp q (mark_of by (id, item)) ≡ true =
    (λ i. eq_by_cmp mark_cmp q (record { group = group i; id = sym ids i })) ∙ own_mark q in
    let never : false ≡ true = sym rest.0 ∙ one in absurd cc

-- what is left was there before
unmarked_from : (by : By) (id : ItemId) (old : Option Item) (marks : MarkList) → AreKept (without_mark_of by id old marks) marks
unmarked_from by id None marks q is = is
unmarked_from by id (Some item) marks q is = (taken_other (mark_of by (id, item)) q marks is).1

-- the marks that are left are of items that are left
of_unmarked : (by : By) (id : ItemId) (new : Option Item) (es : List HeldItem) (marks : MarkList) → AreOfItems by es marks
    → AreOfItems by (after_write id_cmp id new es) (without_mark_of by id (find id_cmp id es) marks)
of_unmarked by id new es marks of q is =
    ap (option_map (group_in by)) (find-after_write ids_total ids_exact id new es q.id) ∙ here (eq_by_cmp id_cmp q.id id) refl where
      here : (b : Bool) → eq_by_cmp id_cmp q.id id ≡ b → option_map (group_in by) (cond b new (find id_cmp q.id es)) ≡ Some q.group
      here true same =
          let ids : q.id ≡ id = ids_exact q.id id ((Equal-is (id_cmp q.id id)).0 same) in
          absurd (no_other by id (find id_cmp id es) marks q same
          (λ m. ap (λ k. option_map (group_in by) (find id_cmp k es)) (sym ids) ∙ of q m) is)
      here false other = of q (unmarked_from by id (find id_cmp id es) marks q is)

-- what is written is found
written_in : (id : ItemId) (new : Option Item) (es : List HeldItem) → IsIn (after_write id_cmp id new es) (entry_under id new)
written_in id None es = tt
written_in id (Some item) es =
    find-after_write ids_total ids_exact id (Some item) es id
    ∙ ap (λ b. cond b (Some item) (find id_cmp id es)) (own_id id)

-- of entries that are found the first one is
first_found : (all es : List HeldItem) → AllByRecursion (λ (e : HeldItem). find id_cmp e.0 all ≡ Some e.1) es → IsIn all (first_entry es)
first_found all [] found = tt
first_found all (e ∷ es) found = found.0

-- ---- the runs after a write

-- the marks that are left, that of the item and that of the one behind it are those of the runs
pub runs_written : (by : By) (id : ItemId) (new : Option Item) (es : List HeldItem) (marks : MarkList)
    → IsStrictlySortedBy id_cmp (keys_of es) → AreRuns by es marks
    → AreRuns by (after_write id_cmp id new es)
    (marks_after by (record {
      before = last_entry (lower id_cmp id es);
      id = id;
      old = find id_cmp id es;
      new = new;
      after = first_entry (higher id_cmp id es);
    }) marks)
runs_written by id new es marks sorted runs =
    let low = lower id_cmp id es in
    let high = higher id_cmp id es in
    let old = find id_cmp id es in
    let all = after_write id_cmp id new es in
    let before = group_of by (last_entry low) in
    let one = without_mark_of by id old marks in
    let two = with_mark_of by before (entry_under id new) one in
    let three = with_mark_of by (group_before by before new) (first_entry high) two in
    let last : last_group by None low ≡ before = last_group-first by low in
    let parts : AreBegun by marks None (low ++ (written_entries id old ++ high)) =
    subst (AreBegun by marks None) (sym (written-same ids_total ids_exact id es sorted)) runs.begun in
    let front : AreBegun by one None low =
    begun_unmarked by id old marks None low (others_low id es) (begun_front by marks None low (written_entries id old ++ high) parts) in
    let was = group_before by (last_group by None low) old in
    let behind : AreBegun by one was high =
    begun_unmarked by id old marks was high (others_high id es)
    (begun_behind by marks (last_group by None low) id old high
    (begun_rest by marks None low (written_entries id old ++ high) parts)) in
    let kept : AreKept one three =
    λ q is. marked_kept by (group_before by before new) (first_entry high) two q (marked_kept by before (entry_under id new) one q is) in
    let P : HeldItem → Type 0 = λ e. find id_cmp e.0 all ≡ Some e.1 in
    let found : AllByRecursion P high =
    right_all P (written_entries id new) high (right_all P low (written_entries id new ++ high)
    (found_sorted ids_total ids_exact all (sorted-written ids_total ids_exact id new es sorted))) in
    record {
      sorted = sorted_marked by (group_before by before new) (first_entry high) two
          (sorted_marked by before (entry_under id new) one (sorted_unmarked by id old marks runs.sorted));
      begun = begun_both by three None low (written_entries id new ++ high) (begun_more by one three kept None low front)
          (subst (λ g. AreBegun by three g (written_entries id new ++ high)) (sym last)
          (begun_written by one was before id new high behind));
      of_items = of_marked by all (group_before by before new) (first_entry high) two (first_found all high found)
          (of_marked by all before (entry_under id new) one (written_in id new es) (of_unmarked by id new es marks runs.of_items));
    }

-- the same with the marks and the places as they were read
pub runs_again : (by : By) (id : ItemId) (new item : Option Item) (es : List HeldItem) (marks now : MarkList)
    (before after : Option HeldItem)
    (old : Option Item) → IsStrictlySortedBy id_cmp (keys_of es) → AreRuns by es marks → before ≡ last_entry (lower id_cmp id es)
    → old ≡ find id_cmp id es → after ≡ first_entry (higher id_cmp id es) → item ≡ new
    → now ≡ marks_after by (record { before = before; id = id; old = old; new = item; after = after }) marks
    → AreRuns by (after_write id_cmp id new es) now
runs_again by id new item es marks now before after old sorted runs lows olds highs items is =
    subst (AreRuns by (after_write id_cmp id new es))
    (sym (is ∙ (λ i. marks_after by (record { before = lows i; id = id; old = olds i; new = items i; after = highs i }) marks)))
    (runs_written by id new es marks sorted runs)

-- ---- the runs of no items

-- no marks are those of no items
none_runs : (by : By) → AreRuns by [] []
unfolding IsStrictlySortedBy
none_runs by = record { sorted = tt; begun = tt; of_items = λ mark is. absurd cc }

-- by cell and by layer
pub none_held : (cells layers : MarkList) → cells ≡ [] → layers ≡ [] → AreHeld [] cells layers
unfolding IsStrictlySortedBy
none_held cells layers cells_none layers_none = record {
  ids = tt;
  of_cells = subst (AreRuns Cell []) (sym cells_none) (none_runs Cell);
  of_layers = subst (AreRuns Layer []) (sym layers_none) (none_runs Layer);
}

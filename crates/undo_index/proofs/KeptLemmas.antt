-- What is listed, by the pairs of items and those of other elements.
use Rattle.std.proofs.Common.{◌≡◌, ℕ, ◌==◌, Bool, true, false, cond, ◌||◌, ◌&&◌, List, [], ◌++◌, map, Some, None, refl, ap, sym, ◌∙◌}
use Rattle.std.proofs.Common.{Option}
use Rattle.std.proofs.lemmas.List.Folds.{list_any-append}
use Rattle.std.specs.Prelude.{Err, Ok, OnOk, Result, nat_lt}
use Rattle.std.specs.BTreeMap.{is_at}
use Rattle.std.specs.BTreeSet.{BTreeSet}
use Rattle.std.specs.declared.cmp.Ordering.{Ordering}
use Rattle.std.specs.declared.cmp.Ordering.TheVariants.{Equal, Greater, Less}
use Rattle.std.specs.Cmp.{eq_by_cmp_equiv}
use Rattle.std.specs.FinSet as set
use Rattle.std.specs.FinSet.{contains-empty, contains-from_list, contains-items, insert, remove}
use Rattle.std.specs.List.{filter, list_any}
use Rattle.std.specs.Ordering.{eq_by_cmp, is_eq, nat_cmp, ordering_then}
use Rattle.lay_point.proofs.BoolLaws.{or-false}
use Rattle.lay_layouts.specs.declared.id.ItemId.{ItemId}
use Rattle.lay_layouts.specs.IdOrder.{ids_total}
use Rattle.lay_layouts.specs.Ids.{id_cmp}
use Rattle.txn_commands.specs.declared.element.Element.{Element}
use Rattle.txn_commands.specs.declared.element.Element.TheVariants.{Calls, Cell, Content, Item, Layer, Uses}
use Rattle.txn_commands.specs.Elements.{element_cmp, element_eq, elements_total}
use Rattle.txn_marks.proofs.AnyLemmas.{any_alike, any_map, any_none}
use Rattle.undo_index.specs.First.{IsFirst, has_place}
use Rattle.undo_index.proofs.ApartLemmas.{has_more}
use Rattle.undo_index.proofs.FirstLemmas.{first_alike}
use Rattle.undo_index.proofs.RangeLemmas.{any_filter}
use Rattle.undo_index.specs.Listed.{Listed, is_listed, is_part, element_id, item_pair, listed_of, nothing_listed, pair_cmp}
use Rattle.undo_index.specs.Under.{is_under, pair_order, pairs_below}
use Rattle.undo_index.proofs.ListedLemmas.{same_listed}
use Rattle.undo_index.proofs.PairLemmas.{less_so, more_so, pairs_total}
use Rattle.undo_index.proofs.UnderLemmas.{below_so, keyed_eq, keyed_total}

-- ---- items and other elements in one order

numbers_so : (r s t : Ordering) →
    is_eq (ordering_then (ordering_then r (ordering_then s (ordering_then t Equal))) Equal) ≡ is_eq (ordering_then r (ordering_then s t))
numbers_so Less s t = refl
numbers_so Greater s t = refl
numbers_so Equal Less t = refl
numbers_so Equal Greater t = refl
numbers_so Equal Equal Less = refl
numbers_so Equal Equal Equal = refl
numbers_so Equal Equal Greater = refl

-- items are equal where their ids are
same_ids : (a b : ItemId) → element_eq (Item a) (Item b) ≡ eq_by_cmp id_cmp a b
same_ids a b = numbers_so (nat_cmp a.session b.session) (nat_cmp a.txn b.txn) (nat_cmp a.seq b.seq)

no_item : (e : Element) → element_id e ≡ None → (a : ItemId) → element_eq e (Item a) ≡ false
no_item (Item id) none a = absurd cc
no_item (Layer cell layer) none a = refl
no_item (Calls cell) none a = refl
no_item (Cell number) none a = refl
no_item (Content number) none a = refl
no_item (Uses number) none a = refl

-- ---- what is listed under an element

own_pair : (id : ItemId) (p : ℕ) (k : ItemId × ℕ) → is_at (pair_cmp (Item id, p)) (item_pair k) ≡ is_at (pair_order id_cmp (id, p)) k
own_pair id p k =
    keyed_eq element_cmp (Item id) (Item k.0) p k.1 ∙ ap (λ b. b && (p == k.1)) (same_ids id k.0) ∙ sym (keyed_eq id_cmp id k.0 p k.1)

no_part : (id : ItemId) (p : ℕ) (f : Element) (q : ℕ) → (is_part (f, q) && is_at (pair_cmp (Item id, p)) (f, q)) ≡ false
no_part id p (Item a) q = refl
no_part id p (Layer cell layer) q = refl
no_part id p (Calls cell) q = refl
no_part id p (Cell number) q = refl
no_part id p (Content number) q = refl
no_part id p (Uses number) q = refl

no_pair : (e : Element) → element_id e ≡ None → (p : ℕ) (k : ItemId × ℕ) → is_at (pair_cmp (e, p)) (item_pair k) ≡ false
no_pair e none p k = keyed_eq element_cmp e (Item k.0) p k.1 ∙ ap (λ b. b && (p == k.1)) (no_item e none k.0)

own_part : (e : Element) → element_id e ≡ None → (p : ℕ) (f : Element) (q : ℕ) →
    (is_part (f, q) && is_at (pair_cmp (e, p)) (f, q)) ≡ is_at (pair_cmp (e, p)) (f, q)
own_part e none p (Item a) q = sym (no_pair e none p (a, q))
own_part e none p (Layer cell layer) q = refl
own_part e none p (Calls cell) q = refl
own_part e none p (Cell number) q = refl
own_part e none p (Content number) q = refl
own_part e none p (Uses number) q = refl

module _ (items : List (ItemId × ℕ)) (others : Listed) where
  parted : (e : Element) (p : ℕ) → is_listed (listed_of items others) e p
      ≡ (list_any (λ k. is_at (pair_cmp (e, p)) (item_pair k)) items
      || list_any (λ k. is_part k && is_at (pair_cmp (e, p)) k) (set.items others))
  parted e p =
      contains-from_list pairs_total (map item_pair items ++ filter is_part (set.items others)) (e, p)
      ∙ list_any-append (is_at (pair_cmp (e, p))) (map item_pair items) (filter is_part (set.items others))
      ∙ (λ i. any_map (is_at (pair_cmp (e, p))) item_pair items i || any_filter (is_at (pair_cmp (e, p))) is_part (set.items others) i)

  -- under an item stand the places of its id
  item_there : (id : ItemId) (p : ℕ) → is_listed (listed_of items others) (Item id) p ≡ list_any (is_at (pair_order id_cmp (id, p))) items
  item_there id p =
      parted (Item id) p
      ∙ (λ i. any_alike (λ k. is_at (pair_cmp (Item id, p)) (item_pair k)) (is_at (pair_order id_cmp (id, p))) items (own_pair id p) i
      || any_alike (λ k. is_part k && is_at (pair_cmp (Item id, p)) k) (λ k. false) (set.items others) (λ k. no_part id p k.0 k.1) i)
      ∙ ap (λ b. list_any (is_at (pair_order id_cmp (id, p))) items || b) (any_none (set.items others))
      ∙ or-false (list_any (is_at (pair_order id_cmp (id, p))) items)

  -- under another element stand its own
  other_there : (e : Element) → element_id e ≡ None → (p : ℕ) → is_listed (listed_of items others) e p ≡ is_listed others e p
  other_there e none p =
      parted e p
      ∙ (λ i. any_alike (λ k. is_at (pair_cmp (e, p)) (item_pair k)) (λ k. false) items (no_pair e none p) i
      || any_alike (λ k. is_part k && is_at (pair_cmp (e, p)) k) (is_at (pair_cmp (e, p))) (set.items others)
      (λ k. own_part e none p k.0 k.1) i)
      ∙ ap (λ b. b || list_any (is_at (pair_cmp (e, p))) (set.items others)) (any_none items)
      ∙ sym (contains-items others (e, p))

-- trees of nothing list nothing
pub none_there : (items : List (ItemId × ℕ)) (others : Listed) → items ≡ [] → others ≡ nothing_listed →
    listed_of items others ≡ nothing_listed
none_there items others none no_others =
    (λ i. listed_of (none i) (no_others i)) ∙ same_listed (listed_of [] nothing_listed) nothing_listed each where
      each : (e : Element) (p : ℕ) → is_listed (listed_of [] nothing_listed) e p ≡ is_listed nothing_listed e p
      each (Item j) p = item_there [] nothing_listed j p ∙ sym (contains-empty pair_cmp (Item j, p))
      each (Layer cell layer) p = other_there [] nothing_listed (Layer cell layer) refl p
      each (Calls cell) p = other_there [] nothing_listed (Calls cell) refl p
      each (Cell number) p = other_there [] nothing_listed (Cell number) refl p
      each (Content number) p = other_there [] nothing_listed (Content number) refl p
      each (Uses number) p = other_there [] nothing_listed (Uses number) refl p

-- ---- one pair more, and one less

id_pair : (j id : ItemId) (p place : ℕ) →
    is_at (pair_order id_cmp (id, place)) (j, p) ≡ (element_eq (Item j) (Item id) && (p == place))
id_pair j id p place =
    (eq_by_cmp_equiv (keyed_total ids_total)).symm (id, place) (j, p) ∙ keyed_eq id_cmp j id p place
    ∙ ap (λ b. b && (p == place)) (sym (same_ids j id))

-- F tells what is listed, by whether a pair is the one that changes and whether it was listed
module _ (F : Bool → Bool → Bool) (idle : (o : Bool) → F false o ≡ o) where
  item_changed : (ks ls : List (ItemId × ℕ)) (others : Listed) (id : ItemId) (place : ℕ) (new : Listed)
      → ((e : Element) (p : ℕ) → is_listed new e p ≡ F (element_eq e (Item id) && (p == place)) (is_listed (listed_of ks others) e p))
      → ((q : ItemId × ℕ) → list_any (is_at (pair_order id_cmp q)) ls
      ≡ F (is_at (pair_order id_cmp (id, place)) q) (list_any (is_at (pair_order id_cmp q)) ks))
      → listed_of ls others ≡ new
  item_changed ks ls others id place new is h = same_listed (listed_of ls others) new each where
    same : (e : Element) → element_id e ≡ None → (p : ℕ) → is_listed (listed_of ls others) e p ≡ is_listed new e p
    same e none p =
        other_there ls others e none p ∙ sym (other_there ks others e none p) ∙ sym (idle (is_listed (listed_of ks others) e p))
        ∙ sym (is e p ∙ ap (λ b. F (b && (p == place)) (is_listed (listed_of ks others) e p)) (no_item e none id))

    each : (e : Element) (p : ℕ) → is_listed (listed_of ls others) e p ≡ is_listed new e p
    each (Item j) p =
        item_there ls others j p ∙ h (j, p) ∙ (λ i. F (id_pair j id p place i) (sym (item_there ks others j p) i)) ∙ sym (is (Item j) p)
    each (Layer cell layer) p = same (Layer cell layer) refl p
    each (Calls cell) p = same (Calls cell) refl p
    each (Cell number) p = same (Cell number) refl p
    each (Content number) p = same (Content number) refl p
    each (Uses number) p = same (Uses number) refl p

  other_changed : (items : List (ItemId × ℕ)) (ks ls : Listed) (x : Element) → element_id x ≡ None → (place : ℕ) (new : Listed)
      → ((e : Element) (p : ℕ) → is_listed new e p ≡ F (element_eq e x && (p == place)) (is_listed (listed_of items ks) e p))
      → ((e : Element) (p : ℕ) → is_listed ls e p ≡ F (element_eq e x && (p == place)) (is_listed ks e p))
      → listed_of items ls ≡ new
  other_changed items ks ls x none place new is h = same_listed (listed_of items ls) new each where
    moved : (e : Element) → element_id e ≡ None → (p : ℕ) → is_listed (listed_of items ls) e p ≡ is_listed new e p
    moved e own p =
        other_there items ls e own p ∙ h e p ∙ ap (F (element_eq e x && (p == place))) (sym (other_there items ks e own p)) ∙ sym (is e p)

    each : (e : Element) (p : ℕ) → is_listed (listed_of items ls) e p ≡ is_listed new e p
    each (Item j) p =
        item_there items ls j p ∙ sym (item_there items ks j p) ∙ sym (idle (is_listed (listed_of items ks) (Item j) p))
        ∙ sym (is (Item j) p ∙ ap (λ b. F (b && (p == place)) (is_listed (listed_of items ks) (Item j) p))
        ((eq_by_cmp_equiv elements_total).symm (Item j) x ∙ no_item x none j))
    each (Layer cell layer) p = moved (Layer cell layer) refl p
    each (Calls cell) p = moved (Calls cell) refl p
    each (Cell number) p = moved (Cell number) refl p
    each (Content number) p = moved (Content number) refl p
    each (Uses number) p = moved (Uses number) refl p

item_added : (ks ls : List (ItemId × ℕ)) (others : Listed) (id : ItemId) (place : ℕ)
    → ((q : ItemId × ℕ) → list_any (is_at (pair_order id_cmp q)) ls
    ≡ cond (is_at (pair_order id_cmp (id, place)) q) true (list_any (is_at (pair_order id_cmp q)) ks))
    → listed_of ls others ≡ insert (listed_of ks others) (Item id, place)
item_added ks ls others id place =
    item_changed (λ b x. cond b true x) (λ o. refl) ks ls others id place (insert (listed_of ks others) (Item id, place))
    (more_so (listed_of ks others) (Item id) place)

item_removed : (ks ls : List (ItemId × ℕ)) (others : Listed) (id : ItemId) (place : ℕ)
    → ((q : ItemId × ℕ) → list_any (is_at (pair_order id_cmp q)) ls
    ≡ cond (is_at (pair_order id_cmp (id, place)) q) false (list_any (is_at (pair_order id_cmp q)) ks))
    → listed_of ls others ≡ remove (listed_of ks others) (Item id, place)
item_removed ks ls others id place =
    item_changed (λ b x. cond b false x) (λ o. refl) ks ls others id place (remove (listed_of ks others) (Item id, place))
    (less_so (listed_of ks others) (Item id) place)

other_added : (items : List (ItemId × ℕ)) (ks : Listed) (x : Element) → element_id x ≡ None → (place : ℕ) →
    listed_of items (insert ks (x, place)) ≡ insert (listed_of items ks) (x, place)
other_added items ks x none place =
    other_changed (λ b x. cond b true x) (λ o. refl) items ks (insert ks (x, place)) x none place (insert (listed_of items ks) (x, place))
    (more_so (listed_of items ks) x place) (more_so ks x place)

other_removed : (items : List (ItemId × ℕ)) (ks : Listed) (x : Element) → element_id x ≡ None → (place : ℕ) →
    listed_of items (remove ks (x, place)) ≡ remove (listed_of items ks) (x, place)
other_removed items ks x none place =
    other_changed (λ b x. cond b false x) (λ o. refl) items ks (remove ks (x, place)) x none place (remove (listed_of items ks) (x, place))
    (less_so (listed_of items ks) x place) (less_so ks x place)

-- the only element of an id
pub made_of : (e : Element) (id : ItemId) → element_id e ≡ Some id → e ≡ Item id
made_of (Item a) id is = cc
made_of (Layer cell layer) id is = absurd cc
made_of (Calls cell) id is = absurd cc
made_of (Cell number) id is = absurd cc
made_of (Content number) id is = absurd cc
made_of (Uses number) id is = absurd cc

-- ---- as the trees tell it

-- what follows from a success follows where it is one
pub on_ok : {X Y : Type 0} {P Q : Type 0} (r : Result X Y) → (P → Q) → OnOk r P → OnOk r Q
on_ok (Ok x) f h = f h
on_ok (Err y) f h = tt

module _ (items : BTreeSet (ItemId × ℕ)) (others s : Listed) (view : listed_of items.keys others ≡ s) where
  under_item : (e : Element) (id : ItemId) → element_id e ≡ Some id → (p : ℕ) → is_listed s e p ≡ is_under id_cmp items id p
  under_item e id is p =
      ap (λ (x : Listed). is_listed x e p) (sym view) ∙ ap (λ f. is_listed (listed_of items.keys others) f p) (made_of e id is)
      ∙ item_there items.keys others id p

  under_other : (e : Element) → element_id e ≡ None → (p : ℕ) → is_listed s e p ≡ is_listed others e p
  under_other e none p = ap (λ (x : Listed). is_listed x e p) (sym view) ∙ other_there items.keys others e none p

  pub first_item : (e : Element) (id : ItemId) → element_id e ≡ Some id → (from : ℕ) (o : Option ℕ) →
      IsFirst (is_under id_cmp items id) from o → IsFirst (is_listed s e) from o
  first_item e id is from o =
      first_alike (is_under id_cmp items id) (is_listed s e) from o (λ p. sym (under_item e id is p))

  pub first_other : (e : Element) → element_id e ≡ None → (from : ℕ) (o : Option ℕ) →
      IsFirst (is_listed others e) from o → IsFirst (is_listed s e) from o
  first_other e none from o =
      first_alike (is_listed others e) (is_listed s e) from o (λ p. sym (under_other e none p))

  pub gathered_item : (e : Element) (id : ItemId) → element_id e ≡ Some id → (below : ℕ) (old new : List ℕ) →
      new ≡ old ++ map (λ k. k.1) (pairs_below id_cmp id below items) → (p : ℕ) →
      has_place new p ≡ (has_place old p || (nat_lt p below && is_listed s e p))
  gathered_item e id is below old new more p =
      ap (λ ps. has_place ps p) more ∙ has_more old (pairs_below id_cmp id below items) p
      ∙ ap (λ b. has_place old p || b) (below_so id_cmp items id below p ∙ ap (λ b. nat_lt p below && b) (sym (under_item e id is p)))

  pub gathered_other : (e : Element) → element_id e ≡ None → (below : ℕ) (old new : List ℕ)
      → ((p : ℕ) → has_place new p ≡ (has_place old p || (nat_lt p below && is_listed others e p)))
      → (p : ℕ) → has_place new p ≡ (has_place old p || (nat_lt p below && is_listed s e p))
  gathered_other e none below old new more p =
      more p ∙ ap (λ b. has_place old p || (nat_lt p below && b)) (sym (under_other e none p))

  pub added_item : (e : Element) (id : ItemId) → element_id e ≡ Some id → (place : ℕ) (ls : List (ItemId × ℕ))
      → ((q : ItemId × ℕ) → list_any (is_at (pair_order id_cmp q)) ls
      ≡ cond (is_at (pair_order id_cmp (id, place)) q) true (list_any (is_at (pair_order id_cmp q)) items.keys))
      → listed_of ls others ≡ insert s (e, place)
  added_item e id is place ls h =
      item_added items.keys ls others id place h ∙ (λ i. insert (view i) (sym (made_of e id is) i, place))

  pub removed_item : (e : Element) (id : ItemId) → element_id e ≡ Some id → (place : ℕ) (ls : List (ItemId × ℕ))
      → ((q : ItemId × ℕ) → list_any (is_at (pair_order id_cmp q)) ls
      ≡ cond (is_at (pair_order id_cmp (id, place)) q) false (list_any (is_at (pair_order id_cmp q)) items.keys))
      → listed_of ls others ≡ remove s (e, place)
  removed_item e id is place ls h =
      item_removed items.keys ls others id place h ∙ (λ i. remove (view i) (sym (made_of e id is) i, place))

  pub added_other : (e : Element) → element_id e ≡ None → (place : ℕ) (new : Listed) → new ≡ insert others (e, place) →
      listed_of items.keys new ≡ insert s (e, place)
  added_other e none place new more =
      ap (listed_of items.keys) more ∙ other_added items.keys others e none place ∙ ap (λ (x : Listed). insert x (e, place)) view

  pub removed_other : (e : Element) → element_id e ≡ None → (place : ℕ) (new : Listed) → new ≡ remove others (e, place) →
      listed_of items.keys new ≡ remove s (e, place)
  removed_other e none place new less =
      ap (listed_of items.keys) less ∙ other_removed items.keys others e none place ∙ ap (λ (x : Listed). remove x (e, place)) view

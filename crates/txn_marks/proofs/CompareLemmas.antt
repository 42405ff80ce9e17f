-- Layouts that have the same in an element agree on it.
use Rattle.std.proofs.Common.{◌≡◌, ℕ, ◌==◌, Bool, true, false, ◌&&◌, cond, List, [], ◌∷◌, Option, None, Some, filter, map, option_map}
use Rattle.std.proofs.Common.{refl, ap, ap₂, sym, subst, ◌∙◌}
use Rattle.std.proofs.lemmas.Bool.Decides.{Decides-and, Decides-eqb, Decides-like}
use Rattle.std.proofs.lemmas.Slice.Eq.{bytes_eq-Decides, slice_eq-Decides}
use Rattle.std.specs.Bool.{Decides}
use Rattle.std.specs.declared.cmp.Ordering.{Ordering}
use Rattle.std.specs.Cmp.Lexicographic.{pointwise}
use Rattle.std.specs.FinMap.{IsAntisymmetric, entries, find, get, get-entries}
use Rattle.std.specs.FinSet.{contains-items, from_list, items}
use Rattle.std.specs.List.{AllByRecursion, cons_option, filter_map, list_all}
use Rattle.std.specs.Ordering.{eq_by_cmp}
use Rattle.lay_point.specs.Same.{names_eq, names_eq_equiv}
use Rattle.lay_point.specs.SameTurn.{turn_eq}
use Rattle.lay_cells.specs.contracts.cell_id.CellIdPartialEq.TheImpl as cell_impl
use Rattle.lay_cells.specs.declared.cell_id.CellId.{CellId}
use Rattle.lay_cells.specs.declared.cell_id.CellId.TheVariants.{Symbol, Top}
use Rattle.lay_cells.specs.SameCell.{cell_eq, cell_eq-Decides}
use Rattle.lay_cells.proofs.GraphLemmas.{cells_swapped}
use Rattle.lay_layouts.specs.contracts.item.ItemPartialEq.TheImpl as item_impl
use Rattle.lay_layouts.specs.declared.id.ItemId.{ItemId}
use Rattle.lay_layouts.specs.declared.item.Item as item
use Rattle.lay_layouts.specs.declared.item.Item.TheVariants.{Placed, Shape}
use Rattle.lay_layouts.specs.declared.slot.CellSlot.{CellSlot}
use Rattle.lay_layouts.specs.IdOrder.{ids_exact, ids_total}
use Rattle.lay_layouts.specs.Ids.{id_cmp}
use Rattle.lay_layouts.specs.Items.{cell_of, items_in}
use Rattle.lay_layouts.specs.Layout.{Layout, item_at}
use Rattle.lay_layouts.specs.Lent.{LentCall, LentShape, call_lent, calls_in, shape_on, shapes_in}
use Rattle.lay_layouts.specs.Same.{item_eq, item_eq-Decides, option_item_eq, option_item_eq-Decides, rings_eq}
use Rattle.lay_layouts.specs.SameLayout.{id_eq, id_eq-Decides}
use Rattle.txn_commands.specs.declared.element.Element.{Element}
use Rattle.txn_commands.specs.declared.element.Element.TheVariants.{Calls, Cell, Content, Item, Layer, Uses}
use Rattle.txn_commands.specs.Agreement.{Agree, AgreeOn, AreAlike}
use Rattle.txn_commands.specs.Compared.{agrees, entry_eq, lying, same_in, same_lying}
use Rattle.txn_commands.specs.Elements.{Touched, element_cmp}
use Rattle.txn_commands.specs.Lies.{lies, lies_slot}
use Rattle.txn_commands.proofs.Agreements.{equal-alike}
use Rattle.txn_commands.proofs.Lying.{entries_found}
use Rattle.txn_commands.proofs.Maps.{same_key}
use Rattle.txn_commands.proofs.Steps.{option_slot_eq-Decides}
use Rattle.txn_marks.proofs.SetLemmas.{all_items, each_passes}

-- ---- entries that pass a test

module _ {K V : Type 0} {R : K → K → Ordering} (exact : IsAntisymmetric R) (test : K × V → Bool) where
  -- an entry that is found, and passes, is found among those that pass
  found_passing : (es : List (K × V)) (q : K) (v : V) → find R q es ≡ Some v → test (q, v) ≡ true → find R q (filter test es) ≡ Some v
  found_passing [] q v at passes = at
  found_passing (e ∷ es) q v at passes = by_key (eq_by_cmp R q e.0) refl at (found_passing es q v) where
    kept : (b : Bool) → test e ≡ b → b ≡ true → eq_by_cmp R q e.0 ≡ true → e.1 ≡ v →
        find R q (cond b (e ∷ filter test es) (filter test es)) ≡ Some v
    kept true is pass here value = ap (λ b. cond b (Some e.1) (find R q (filter test es))) here ∙ ap Some value
    kept false is pass here value = absurd cc

    passed : (b : Bool) → eq_by_cmp R q e.0 ≡ false → find R q (filter test es) ≡ Some v →
        find R q (cond b (e ∷ filter test es) (filter test es)) ≡ Some v
    passed true other rest = ap (λ b. cond b (Some e.1) (find R q (filter test es))) other ∙ rest
    passed false other rest = rest

    by_key : (b : Bool) → eq_by_cmp R q e.0 ≡ b → cond b (Some e.1) (find R q es) ≡ Some v →
        (find R q es ≡ Some v → test (q, v) ≡ true → find R q (filter test es) ≡ Some v) →
        find R q (filter test (e ∷ es)) ≡ Some v
    by_key true is h rest =
        let value : e.1 ≡ v = cc in
        let key : q ≡ e.0 = same_key exact q e.0 is in
        kept (test e) refl (ap test (λ i. (sym key i, value i)) ∙ passes) is value
    by_key false is h rest = passed (test e) is (rest h passes)

  filtered_all : (P : K × V → Type 0) (es : List (K × V)) → AllByRecursion P es → AllByRecursion P (filter test es)
  filtered_all P [] all = tt
  filtered_all P (e ∷ es) all = by_test (test e) (filtered_all P es all.1) where
    by_test : (b : Bool) → AllByRecursion P (filter test es) → AllByRecursion P (cond b (e ∷ filter test es) (filter test es))
    by_test true rest = (all.0, rest)
    by_test false rest = rest

  -- what holds of all entries holds of one that is found
  found_so : (P : K → V → Type 0) (es : List (K × V)) (q : K) (v : V) → AllByRecursion (λ e. P e.0 e.1) es → find R q es ≡ Some v → P q v
  found_so P [] q v all at = absurd cc
  found_so P (e ∷ es) q v all at = by_key (eq_by_cmp R q e.0) refl at (found_so P es q v all.1) where
    by_key : (b : Bool) → eq_by_cmp R q e.0 ≡ b → cond b (Some e.1) (find R q es) ≡ Some v → (find R q es ≡ Some v → P q v) → P q v
    by_key true is h rest =
        let value : e.1 ≡ v = cc in
        let key : q ≡ e.0 = same_key exact q e.0 is in
        subst (λ (k : K). P k v) (sym key) (subst (λ (w : V). P e.0 w) value all.0)
    by_key false is h rest = rest h

-- maps with the same entries that pass have the same values that pass
passing_back : (test : ItemId → item.Item → Bool) (l m : Layout) →
    filter (λ e. test e.0 e.1) (entries l.items) ≡ filter (λ e. test e.0 e.1) (entries m.items) → (id : ItemId) (v : item.Item) →
    item_at l id ≡ Some v → test id v ≡ true → item_at m id ≡ Some v
passing_back test l m same id v at passes =
    let pass : ItemId × item.Item → Bool = λ e. test e.0 e.1 in
    let there : find id_cmp id (filter pass (entries l.items)) ≡ Some v =
    found_passing ids_exact pass (entries l.items) id v (sym (get-entries l.items id) ∙ at) passes in
    found_so ids_exact pass (λ k w. item_at m k ≡ Some w) (filter pass (entries m.items)) id v
    (filtered_all ids_exact pass (λ e. item_at m e.0 ≡ Some e.1) (entries m.items) (entries_found ids_total m.items))
    (ap (find id_cmp id) (sym same) ∙ there)

-- ---- elements

entry_eq-Decides : (a b : ItemId × item.Item) → Decides (entry_eq a b) (a ≡ b)
entry_eq-Decides a b = Decides-like (entry_eq a b) (λ both. λ i. (both.0 i, both.1 i))
    (λ e. (ap (λ (p : ItemId × item.Item). p.0) e, ap (λ (p : ItemId × item.Item). p.1) e))
    (Decides-and _ _ (id_eq-Decides a.0 b.0) (item_eq-Decides a.1 b.1))

same_entries : (e : Element) (l m : Layout) → same_lying e l m ≡ true → lying e (entries l.items) ≡ lying e (entries m.items)
same_entries e l m same =
    (slice_eq-Decides entry_eq-Decides (lying e (entries l.items)) (lying e (entries m.items)) (same_lying e l m) refl).0 same

-- values without a test that passes are alike
never_alike : {V : Type 0} (test : V → Bool) (x y : Option V) → ((v : V) → test v ≡ false) → AreAlike test x y
never_alike test x y never = record {
  forth = λ v e t. let no : false ≡ true = sym (never v) ∙ t in absurd cc;
  back = λ v e t. let no : false ≡ true = sym (never v) ∙ t in absurd cc;
}

-- the same items that lie in an element that has no slot
lying_agree : (e : Element) (l m : Layout) → ((number : ℕ) (slot : CellSlot) → lies_slot e number slot ≡ false) → same_lying e l m ≡ true →
    Agree l m e
lying_agree e l m none same = record {
  items = λ id. record {
    forth = λ v at t. passing_back (lies e) l m (same_entries e l m same) id v at t;
    back = λ v at t. passing_back (lies e) m l (sym (same_entries e l m same)) id v at t;
  };
  symbols = λ number. never_alike (lies_slot e number) _ _ (none number);
}

-- of one key the same value
one_alike : {K V : Type 0} (test : K → Bool) (value : K → Option V) (other : K → Option V) (k : K) →
    ((q : K) → test q ≡ true → k ≡ q) → value k ≡ other k → (q : K) → AreAlike (λ v. test q) (value q) (other q)
one_alike test value other k only same q = by_test (test q) refl where
  by_test : (b : Bool) → test q ≡ b → AreAlike (λ v. test q) (value q) (other q)
  by_test true is = equal-alike (λ v. test q) (value q) (other q) (subst (λ p. value p ≡ other p) (only q is) same)
  by_test false is = never_alike (λ v. test q) (value q) (other q) (λ v. is)

item_agree : (l m : Layout) (a : ItemId) → option_item_eq (item_at l a) (item_at m a) ≡ true → Agree l m (Item a)
item_agree l m a same = record {
  items = one_alike (id_eq a) (item_at l) (item_at m) a (λ q h. (id_eq-Decides a q).0 h)
      ((option_item_eq-Decides (item_at l a) (item_at m a)).0 same);
  symbols = λ number. never_alike (lies_slot (Item a) number) _ _ (λ slot. refl);
}

cell_agree : (l m : Layout) (n : ℕ) → same_in l m (Cell n) ≡ true → Agree l m (Cell n)
cell_agree l m n same = record {
  items = λ id. never_alike (lies (Cell n) id) _ _ (no_item id);
  symbols = one_alike (λ number. n == number) (get l.symbols) (get m.symbols) n (λ q h. (Decides-eqb n q).0 h)
      ((option_slot_eq-Decides (get l.symbols n) (get m.symbols n)).0 same);
} where
  no_item : (id : ItemId) (v : item.Item) → lies (Cell n) id v ≡ false
  no_item id (Shape cell layer rings) = refl
  no_item id (Placed cell target turn) = refl

pub same_in_agree : (l m : Layout) (e : Element) → same_in l m e ≡ true → Agree l m e
same_in_agree l m (Item a) same = item_agree l m a same
same_in_agree l m (Layer c x) same = lying_agree (Layer c x) l m (λ number slot. refl) same
same_in_agree l m (Calls c) same = lying_agree (Calls c) l m (λ number slot. refl) same
same_in_agree l m (Cell n) same = cell_agree l m n same
same_in_agree l m (Content n) same = lying_agree (Content n) l m (λ number slot. refl) same
same_in_agree l m (Uses n) same = lying_agree (Uses n) l m (λ number slot. refl) same

-- ---- footprints

pub agrees_on : (l m : Layout) (touched : Touched) → agrees l m touched ≡ true → AgreeOn l m touched
unfolding agrees
agrees_on l m touched all e there =
    same_in_agree l m e (each_passes (same_in l m) (items touched) all e (sym (contains-items touched e) ∙ there))

-- a tree of elements decides as their set does
pub agrees_keys : (l m : Layout) (ks : List Element) → list_all (same_in l m) ks ≡ agrees l m (from_list {R = element_cmp} ks)
unfolding agrees
agrees_keys l m ks = all_items (same_in l m) ks

-- ---- what is lent of a cell

cell_tested : (c d : CellId) → (cell_impl.ghosts).eq c d ≡ cell_eq c d
cell_tested Top Top = refl
cell_tested Top (Symbol n) = refl
cell_tested (Symbol m) Top = refl
cell_tested (Symbol m) (Symbol n) = refl

-- what `==` of items tests
pub item_tested : (x y : item.Item) → (item_impl.ghosts).eq x y ≡ item_eq x y
item_tested (Shape c l r) (Shape d m s) = λ i. cell_tested c d i && (names_eq l m && rings_eq r s)
item_tested (Shape c l r) (Placed d t v) = refl
item_tested (Placed c t v) (Shape d m s) = refl
item_tested (Placed c t v) (Placed d u w) = λ i. cell_tested c d i && (t == u && turn_eq v w)

-- what is picked from those that pass one test, and of which those that pass another are made again
module _ {X Y : Type 0} (p q : X → Bool) (pick : X → Option Y) (again : Y → X)
    (fit : (x : X) → cond (p x) (Some x) None ≡ option_map again (cond (q x) (pick x) None)) where
  remade : (xs : List X) → filter p xs ≡ map again (filter_map pick (filter q xs))
  remade [] = refl
  remade (x ∷ xs) = by_test (p x) (q x) (pick x) refl (fit x) (remade xs) where
    by_test : (a b : Bool) (o : Option Y) → pick x ≡ o → cond a (Some x) None ≡ option_map again (cond b o None) →
        filter p xs ≡ map again (filter_map pick (filter q xs)) →
        cond a (x ∷ filter p xs) (filter p xs) ≡ map again (filter_map pick (cond b (x ∷ filter q xs) (filter q xs)))
    by_test true true (Some y) is same rest =
        let here : x ≡ again y = cc in
        (λ i. here i ∷ rest i) ∙ sym (ap (λ o. map again (cons_option o (filter_map pick (filter q xs)))) is)
    by_test true true None is same rest = absurd cc
    by_test true false o is same rest = absurd cc
    by_test false true (Some y) is same rest = absurd cc
    by_test false true None is same rest = rest ∙ sym (ap (λ o. map again (cons_option o (filter_map pick (filter q xs)))) is)
    by_test false false o is same rest = rest

  module _ (E : X → X → Bool) (F : Y → Y → Bool) (same : (y z : Y) → E (again y) (again z) ≡ F y z) where
    same_again : (ys zs : List Y) → pointwise F ys zs ≡ pointwise E (map again ys) (map again zs)
    same_again [] [] = refl
    same_again [] (z ∷ zs) = refl
    same_again (y ∷ ys) [] = refl
    same_again (y ∷ ys) (z ∷ zs) = λ i. sym (same y z) i && same_again ys zs i

    -- decides as these do
    picked_decide : (xs ys : List X) →
        pointwise F (filter_map pick (filter q xs)) (filter_map pick (filter q ys)) ≡ pointwise E (filter p xs) (filter p ys)
    picked_decide xs ys =
        same_again (filter_map pick (filter q xs)) (filter_map pick (filter q ys))
        ∙ (λ i. pointwise E (sym (remade xs) i) (sym (remade ys) i))

-- nothing is made of nothing
nothing_again : {X Y : Type 0} (again : Y → X) (b : Bool) → None ≡ option_map again (cond b None None)
nothing_again again true = refl
nothing_again again false = refl

and_regroup : (a b c : Bool) → (a && (b && c)) ≡ ((a && b) && c)
and_regroup true b c = refl
and_regroup false b c = refl

-- the same rings under the same id
abbrev pub shape_eq : LentShape → LentShape → Bool
shape_eq a b = id_eq a.0 b.0 && rings_eq a.1 b.1

module _ (c : CellId) (x : List ℕ) where
  abbrev shape_again : LentShape → ItemId × item.Item
  shape_again s = (s.0, Shape c x s.1)

  shape_fits : (id : ItemId) (v : item.Item) → cond (lies (Layer c x) id v) (Some (id, v)) None
      ≡ option_map shape_again (cond (cell_eq (cell_of v) c) (shape_on x id v) None)
  shape_fits id (Placed cell target turn) = nothing_again shape_again (cell_eq cell c)
  shape_fits id (Shape cell name rings) =
      by_tests (cell_eq c cell) (names_eq x name) refl refl
      ∙ ap₂ (λ a b. option_map shape_again (cond a (cond b (Some (id, rings)) None) None)) (cells_swapped c cell)
      (names_eq_equiv.symm x name) where
        by_tests : (a b : Bool) → cell_eq c cell ≡ a → names_eq x name ≡ b →
            cond (a && b) (Some (id, Shape cell name rings)) None ≡ option_map shape_again (cond a (cond b (Some (id, rings)) None) None)
        by_tests true true here on =
            let own : cell ≡ c = sym ((cell_eq-Decides c cell).0 here) in
            let layer : name ≡ x = sym ((bytes_eq-Decides x name).0 on) in
            λ i. Some (id, Shape (own i) (layer i) rings)
        by_tests true false here on = refl
        by_tests false b here on = refl

  same_shape : (s t : LentShape) → entry_eq (shape_again s) (shape_again t) ≡ shape_eq s t
  same_shape s t =
      λ i. id_eq s.0 t.0 && ((cell_eq-Decides c c).1 refl i && ((bytes_eq-Decides x x).1 refl i && rings_eq s.1 t.1))

  -- the shapes that are lent decide
  pub same_layer : (l m : Layout) → pointwise shape_eq (shapes_in l c x) (shapes_in m c x) ≡ same_lying (Layer c x) l m
  unfolding items_in shapes_in
  same_layer l m =
      picked_decide (λ e. lies (Layer c x) e.0 e.1) (λ e. cell_eq (cell_of e.1) c) (λ e. shape_on x e.0 e.1) shape_again
      (λ e. shape_fits e.0 e.1) entry_eq shape_eq same_shape (entries l.items) (entries m.items)

-- the same target and turn under the same id
abbrev pub call_eq : LentCall → LentCall → Bool
call_eq a b = (id_eq a.0 b.0 && a.1 == b.1) && turn_eq a.2 b.2

module _ (c : CellId) where
  abbrev call_again : LentCall → ItemId × item.Item
  call_again k = (k.0, Placed c k.1 k.2)

  call_fits : (id : ItemId) (v : item.Item) → cond (lies (Calls c) id v) (Some (id, v)) None
      ≡ option_map call_again (cond (cell_eq (cell_of v) c) (call_lent id v) None)
  call_fits id (Shape cell name rings) = nothing_again call_again (cell_eq cell c)
  call_fits id (Placed cell target turn) =
      by_cell (cell_eq c cell) refl ∙ ap (λ b. option_map call_again (cond b (Some (id, target, turn)) None)) (cells_swapped c cell) where
        by_cell : (b : Bool) → cell_eq c cell ≡ b →
            cond b (Some (id, Placed cell target turn)) None ≡ option_map call_again (cond b (Some (id, target, turn)) None)
        by_cell true here = λ i. Some (id, Placed (sym ((cell_eq-Decides c cell).0 here) i) target turn)
        by_cell false here = refl

  same_call : (k n : LentCall) → entry_eq (call_again k) (call_again n) ≡ call_eq k n
  same_call k n =
      (λ i. id_eq k.0 n.0 && ((cell_eq-Decides c c).1 refl i && (k.1 == n.1 && turn_eq k.2 n.2)))
      ∙ and_regroup (id_eq k.0 n.0) (k.1 == n.1) (turn_eq k.2 n.2)

  -- the calls that are lent decide
  pub same_calls : (l m : Layout) → pointwise call_eq (calls_in l c) (calls_in m c) ≡ same_lying (Calls c) l m
  unfolding items_in calls_in
  same_calls l m =
      picked_decide (λ e. lies (Calls c) e.0 e.1) (λ e. cell_eq (cell_of e.1) c) (λ e. call_lent e.0 e.1) call_again
      (λ e. call_fits e.0 e.1) entry_eq call_eq same_call (entries l.items) (entries m.items)

-- the items of the symbol are its content
content : (n : ℕ) (l : Layout) → items_in l (Symbol n) ≡ lying (Content n) (entries l.items)
unfolding items_in
content n l = λ i. filter (λ e. cells_swapped (cell_of e.1) (Symbol n) i) (entries l.items)

pub same_content : (n : ℕ) (l m : Layout) →
    pointwise entry_eq (items_in l (Symbol n)) (items_in m (Symbol n)) ≡ same_lying (Content n) l m
same_content n l m = λ i. pointwise entry_eq (content n l i) (content n m i)

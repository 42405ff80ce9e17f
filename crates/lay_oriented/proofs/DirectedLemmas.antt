-- Items after the writes of turned shapes: which they are, and that the layout stays sound.
use Rattle.std.proofs.Common.{◌≡◌, ◌∙◌, List, [], ◌∷◌, Option, Some, None, inl, inr, cond, refl, ap, sym, subst}
use Rattle.std.proofs.Common.{IsTrue}
use Rattle.std.specs.declared.cmp.Ordering.{Ordering}
use Rattle.std.specs.declared.cmp.Ordering.TheVariants.{Equal, Greater, Less}
use Rattle.std.specs.FinMap.{FinMap, entries, entries_sorted, find, get, get-entries, get-from_entries, same_map}
use Rattle.std.specs.List.{AllByRecursion}
use Rattle.std.specs.List.Sorted.{IsStrictlySortedBy}
use Rattle.std.specs.Map.{keys_of}
use Rattle.std.specs.Ordering.{eq_by_cmp, is_eq}
use Rattle.std.proofs.lemmas.Option.{same_Some}
use Rattle.lay_point.proofs.BoolLaws.{true_by_T}
use Rattle.lay_cells.specs.declared.cell_id.CellId.{CellId}
use Rattle.lay_cells.specs.Walks.{IsAcyclic}
use Rattle.lay_layouts.specs.declared.id.ItemId.{ItemId}
use Rattle.lay_layouts.specs.declared.item.Item.{Item}
use Rattle.lay_layouts.specs.declared.item.Item.TheVariants.{Placed, Shape}
use Rattle.lay_layouts.specs.Calls.{calls_among, calls_of}
use Rattle.lay_layouts.specs.IdOrder.{ids_exact, ids_total}
use Rattle.lay_layouts.specs.Ids.{id_cmp}
use Rattle.lay_layouts.specs.Layout.{AreRising, Layout, Write, changed, is_cell, map_of_items, put_all}
use Rattle.lay_layouts.specs.Sound.{IsSound, IsSoundItem}
use Rattle.lay_layouts.proofs.LatestLemmas.{get-put_all, latest, unwritten}
use Rattle.lay_layouts.proofs.MapLemmas.{entries_again, sorted_keys}
use Rattle.lay_oriented.specs.Directed.{AreDirected, IsDirectedBut, IsStaying, IsTurned}
use Rattle.lay_oriented.specs.Steps.{AreWrites, IsShapeOf}

-- ---- what an id has after writes

-- the first id has what it is to have, and another what it has behind it
first_after : (id : ItemId) (x : Item) (other found old : Option Item) (ws : List Write) (q : ItemId)
    → AllByRecursion (λ y. id_cmp id y ≡ Less) (keys_of ws) → found ≡ latest ws q old
    → cond (eq_by_cmp id_cmp q id) (Some x) found
    ≡ latest ws q (cond (eq_by_cmp id_cmp q id) (Some x) (cond (eq_by_cmp id_cmp q id) other old))
first_after id x other found old ws q above is = by (id_cmp q id) refl where
  by : (o : Ordering) → id_cmp q id ≡ o
      → cond (is_eq o) (Some x) found ≡ latest ws q (cond (is_eq o) (Some x) (cond (is_eq o) other old))
  by Less apart = is
  by Equal same =
      sym (unwritten ws q (Some x) (subst (λ k. AllByRecursion (λ y. id_cmp k y ≡ Less) (keys_of ws)) (sym (ids_exact q id same)) above))
  by Greater apart = is

chosen_twice : (o : Ordering) (x old : Option Item) → cond (is_eq o) x (cond (is_eq o) x old) ≡ cond (is_eq o) x old
chosen_twice Less x old = refl
chosen_twice Equal x old = refl
chosen_twice Greater x old = refl

-- ---- the writes

-- what is so of each id is so of each that is written
all_written : (P : ItemId → Type 0) (es : List (ItemId × Item)) (ws : List Write) (n : List (CellId × ItemId))
    → AllByRecursion P (keys_of es)
    → AreWrites es ws n → AllByRecursion P (keys_of ws)
all_written P [] ws n all is = subst (λ (v : List Write). AllByRecursion P (keys_of v)) (sym is.0) tt
all_written P (e ∷ es) ws n all (inl same) = all_written P es ws n all.1 same.1
all_written P (e ∷ es) ws n all (inr (inl turned)) =
    subst (λ (v : List Write). AllByRecursion P (keys_of v)) (sym turned.2) (all.0, all_written P es turned.1 n all.1 turned.4)
all_written P (e ∷ es) ws n all (inr (inr other)) = all_written P es ws other.1 all.1 other.4

rising_first : (w : Write) (ws : List Write) → AllByRecursion (λ y. id_cmp w.0 y ≡ Less) (keys_of ws) → AreRising id_cmp ws
    → AreRising id_cmp (w ∷ ws)
rising_first w [] all rising = tt
rising_first w (v ∷ ws) all rising = (all.0, rising)

rising_all : (es : List (ItemId × Item)) (ws : List Write) (n : List (CellId × ItemId)) → IsStrictlySortedBy id_cmp (keys_of es)
    → AreWrites es ws n
    → AreRising id_cmp ws
unfolding IsStrictlySortedBy
rising_all [] ws n sorted is = subst (λ (v : List Write). AreRising id_cmp v) (sym is.0) tt
rising_all (e ∷ es) ws n sorted (inl same) = rising_all es ws n sorted.1 same.1
rising_all (e ∷ es) ws n sorted (inr (inl turned)) =
    subst (λ (v : List Write). AreRising id_cmp v) (sym turned.2)
    (rising_first (e.0, Some turned.0) turned.1 (all_written (λ y. id_cmp e.0 y ≡ Less) es turned.1 n sorted.0 turned.4)
    (rising_all es turned.1 n sorted.1 turned.4))
rising_all (e ∷ es) ws n sorted (inr (inr other)) = rising_all es ws other.1 sorted.1 other.4

sorted_entries : (items : FinMap id_cmp Item) → IsStrictlySortedBy id_cmp (keys_of (entries items))
sorted_entries items = sorted_keys id_cmp (entries items) (true_by_T _ (entries_sorted items))

pub writes_rise : (items : FinMap id_cmp Item) (ws : List Write) (n : List (CellId × ItemId)) → AreWrites (entries items) ws n
    → AreRising id_cmp ws
writes_rise items ws n is = rising_all (entries items) ws n (sorted_entries items) is

-- ---- the entries after them

abbrev after : (es : List (ItemId × Item)) (ws : List Write) (n : List (CellId × ItemId)) → AreWrites es ws n → List (ItemId × Item)
after [] ws n is = []
after (e ∷ es) ws n (inl same) = e ∷ after es ws n same.1
after (e ∷ es) ws n (inr (inl turned)) = (e.0, turned.0) ∷ after es turned.1 n turned.4
after (e ∷ es) ws n (inr (inr other)) = e ∷ after es ws other.1 other.4

keys_of-after : (es : List (ItemId × Item)) (ws : List Write) (n : List (CellId × ItemId)) (is : AreWrites es ws n)
    → keys_of (after es ws n is) ≡ keys_of es
keys_of-after [] ws n is = refl
keys_of-after (e ∷ es) ws n (inl same) = ap (λ l. e.0 ∷ l) (keys_of-after es ws n same.1)
keys_of-after (e ∷ es) ws n (inr (inl turned)) = ap (λ l. e.0 ∷ l) (keys_of-after es turned.1 n turned.4)
keys_of-after (e ∷ es) ws n (inr (inr other)) = ap (λ l. e.0 ∷ l) (keys_of-after es ws other.1 other.4)

find-after : (es : List (ItemId × Item)) (ws : List Write) (n : List (CellId × ItemId)) (is : AreWrites es ws n)
    → IsStrictlySortedBy id_cmp (keys_of es)
    → (q : ItemId) → find id_cmp q (after es ws n is) ≡ latest ws q (find id_cmp q es)
unfolding IsStrictlySortedBy
find-after [] ws n is sorted q = ap (λ (v : List Write). latest v q None) (sym is.0)
find-after (e ∷ es) ws n (inl same) sorted q =
    first_after e.0 e.1 (Some e.1) (find id_cmp q (after es ws n same.1)) (find id_cmp q es) ws q
    (all_written (λ y. id_cmp e.0 y ≡ Less) es ws n sorted.0 same.1) (find-after es ws n same.1 sorted.1 q)
    ∙ ap (latest ws q) (chosen_twice (id_cmp q e.0) (Some e.1) (find id_cmp q es))
find-after (e ∷ es) ws n (inr (inl turned)) sorted q =
    first_after e.0 turned.0 (Some e.1) (find id_cmp q (after es turned.1 n turned.4)) (find id_cmp q es) turned.1 q
    (all_written (λ y. id_cmp e.0 y ≡ Less) es turned.1 n sorted.0 turned.4) (find-after es turned.1 n turned.4 sorted.1 q)
    ∙ ap (λ (v : List Write). latest v q (cond (eq_by_cmp id_cmp q e.0) (Some e.1) (find id_cmp q es))) (sym turned.2)
find-after (e ∷ es) ws n (inr (inr other)) sorted q =
    first_after e.0 e.1 (Some e.1) (find id_cmp q (after es ws other.1 other.4)) (find id_cmp q es) ws q
    (all_written (λ y. id_cmp e.0 y ≡ Less) es ws other.1 sorted.0 other.4) (find-after es ws other.1 other.4 sorted.1 q)
    ∙ ap (latest ws q) (chosen_twice (id_cmp q e.0) (Some e.1) (find id_cmp q es))

get-after : (items : FinMap id_cmp Item) (ws : List Write) (n : List (CellId × ItemId)) (is : AreWrites (entries items) ws n) (q : ItemId)
    → get (put_all items ws) q ≡ find id_cmp q (after (entries items) ws n is)
get-after items ws n is q =
    get-put_all items ws q ∙ ap (latest ws q) (get-entries items q) ∙ sym (find-after (entries items) ws n is (sorted_entries items) q)

entries-after : (items : FinMap id_cmp Item) (ws : List Write) (n : List (CellId × ItemId)) (is : AreWrites (entries items) ws n)
    → entries (put_all items ws) ≡ after (entries items) ws n is
entries-after items ws n is =
    ap entries (same_map ids_total ids_exact (put_all items ws) (map_of_items (after (entries items) ws n is)) (λ q.
    get-after items ws n is q ∙ sym (get-from_entries ids_total (after (entries items) ws n is) q)))
    ∙ entries_again id_cmp ids_total (after (entries items) ws n is)
    (subst (IsStrictlySortedBy id_cmp) (sym (keys_of-after (entries items) ws n is)) (sorted_entries items))

-- ---- they are directed

staying : (id : ItemId) (x : Item) (cell : CellId) → IsShapeOf cell x → IsStaying id x ((cell, id) ∷ [])
staying id (Shape cell' layer rings) cell same = ap (λ c. (c, id) ∷ []) (sym same)
staying id (Placed cell' target turn) cell same = absurd same

directed-after : (es : List (ItemId × Item)) (ws : List Write) (n : List (CellId × ItemId)) (is : AreWrites es ws n)
    → AreDirected es (after es ws n is) n
directed-after [] ws n is = is.1
directed-after (e ∷ es) ws n (inl same) = (refl, ([], n, refl, inl (refl, refl, same.0), directed-after es ws n same.1))
directed-after (e ∷ es) ws n (inr (inl turned)) =
    (refl, ([], n, refl, inr (inl (refl, turned.3)), directed-after es turned.1 n turned.4))
directed-after (e ∷ es) ws n (inr (inr other)) =
    (refl, ((other.0, e.0) ∷ [], other.1, other.2, inr (inr (refl, staying e.0 e.1 other.0 other.3)), directed-after es ws other.1 other.4))

pub writes_direct : (l : Layout) (ws : List Write) (n : List (CellId × ItemId)) → AreWrites (entries l.items) ws n
    → IsDirectedBut l (changed l (record { items = ws; symbols = [] })) n
writes_direct l ws n is = record {
  symbols = refl;
  items = subst (λ es. AreDirected (entries l.items) es n) (sym (entries-after l.items ws n is)) (directed-after (entries l.items) ws n is);
}

-- ---- and sound

same_calls : (id : ItemId) (x : Item) (cs bs : List (ItemId × Item)) → calls_among cs ≡ calls_among bs
    → calls_among ((id, x) ∷ cs) ≡ calls_among ((id, x) ∷ bs)
same_calls id (Shape cell layer rings) cs bs is = is
same_calls id (Placed cell target turn) cs bs is = ap (λ l. (cell, target) ∷ l) is

turned_calls : (id : ItemId) (x y : Item) (cs bs : List (ItemId × Item)) → IsTurned x y → calls_among cs ≡ calls_among bs
    → calls_among ((id, y) ∷ cs) ≡ calls_among ((id, x) ∷ bs)
turned_calls id (Shape cell layer rings) (Shape cell' layer' rings') cs bs turned is = is
turned_calls id (Shape cell layer rings) (Placed cell' target turn) cs bs turned is = absurd turned
turned_calls id (Placed cell target turn) y cs bs turned is = absurd turned

calls_among-after : (es : List (ItemId × Item)) (ws : List Write) (n : List (CellId × ItemId)) (is : AreWrites es ws n)
    → calls_among (after es ws n is) ≡ calls_among es
calls_among-after [] ws n is = refl
calls_among-after (e ∷ es) ws n (inl same) = same_calls e.0 e.1 (after es ws n same.1) es (calls_among-after es ws n same.1)
calls_among-after (e ∷ es) ws n (inr (inl turned)) =
    turned_calls e.0 e.1 turned.0 (after es turned.1 n turned.4) es turned.3 (calls_among-after es turned.1 n turned.4)
calls_among-after (e ∷ es) ws n (inr (inr other)) =
    same_calls e.0 e.1 (after es ws other.1 other.4) es (calls_among-after es ws other.1 other.4)

turned_sound : (l : Layout) (x y : Item) → IsTurned x y → IsSoundItem l x → IsSoundItem l y
turned_sound l (Shape cell layer rings) (Shape cell' layer' rings') turned sound =
    (subst (λ c. IsTrue (is_cell l c)) (sym turned.0) sound.0, turned.2)
turned_sound l (Shape cell layer rings) (Placed cell' target turn) turned sound = absurd turned
turned_sound l (Placed cell target turn) y turned sound = absurd turned

-- what is found of the first, or behind it
sound_first : (l : Layout) (q id : ItemId) (x y : Item) (found old : Option Item)
    → (IsSoundItem l x → IsSoundItem l y)
    → ((z : Item) → cond (eq_by_cmp id_cmp q id) (Some x) old ≡ Some z → IsSoundItem l z)
    → (((z : Item) → old ≡ Some z → IsSoundItem l z) → (z : Item) → found ≡ Some z → IsSoundItem l z)
    → (z : Item) → cond (eq_by_cmp id_cmp q id) (Some y) found ≡ Some z → IsSoundItem l z
sound_first l q id x y found old keeps all behind = by (id_cmp q id) all where
  by : (o : Ordering) → ((z : Item) → cond (is_eq o) (Some x) old ≡ Some z → IsSoundItem l z)
      → (z : Item) → cond (is_eq o) (Some y) found ≡ Some z → IsSoundItem l z
  by Less sound z there = behind sound z there
  by Equal sound z there = subst (IsSoundItem l) (same_Some y z there) (keeps (sound x refl))
  by Greater sound z there = behind sound z there

sound-after : (l : Layout) (q : ItemId) (es : List (ItemId × Item)) (ws : List Write) (n : List (CellId × ItemId)) (is : AreWrites es ws n)
    → ((x : Item) → find id_cmp q es ≡ Some x → IsSoundItem l x)
    → (y : Item) → find id_cmp q (after es ws n is) ≡ Some y → IsSoundItem l y
sound-after l q [] ws n is sound = λ y there. absurd cc
sound-after l q (e ∷ es) ws n (inl same) sound =
    sound_first l q e.0 e.1 e.1 (find id_cmp q (after es ws n same.1)) (find id_cmp q es) (λ s. s) sound
    (sound-after l q es ws n same.1)
sound-after l q (e ∷ es) ws n (inr (inl turned)) sound =
    sound_first l q e.0 e.1 turned.0 (find id_cmp q (after es turned.1 n turned.4)) (find id_cmp q es)
    (turned_sound l e.1 turned.0 turned.3) sound (sound-after l q es turned.1 n turned.4)
sound-after l q (e ∷ es) ws n (inr (inr other)) sound =
    sound_first l q e.0 e.1 e.1 (find id_cmp q (after es ws other.1 other.4)) (find id_cmp q es) (λ s. s) sound
    (sound-after l q es ws other.1 other.4)

-- the same cells
sound_same : (l : Layout) (items : FinMap id_cmp Item) (y : Item) → IsSoundItem l y
    → IsSoundItem (record { symbols = l.symbols; items = items }) y
sound_same l items (Shape cell layer rings) sound = sound
sound_same l items (Placed cell target turn) sound = sound

pub writes_sound : (l : Layout) (ws : List Write) (n : List (CellId × ItemId)) → AreWrites (entries l.items) ws n → IsSound l
    → IsSound (changed l (record { items = ws; symbols = [] }))
unfolding calls_of
writes_sound l ws n is sound = record {
  numbers = sound.numbers;
  apart = sound.apart;
  items = λ q y there. sound_same l (put_all l.items ws) y (sound-after l q (entries l.items) ws n is
      (λ x found. sound.items q x (get-entries l.items q ∙ found)) y (sym (get-after l.items ws n is q) ∙ there));
  acyclic =
      subst IsAcyclic (sym (ap calls_among (entries-after l.items ws n is) ∙ calls_among-after (entries l.items) ws n is))
      sound.acyclic;
}

-- Lists that are made of lists in order, and the walks and places of a layout.
use Rattle.std.proofs.Common.{◌≡◌, inl, inr, ⊎_elim, ℕ, zero, suc, Bool, true, false, cond, List, [], ◌∷◌, ◌++◌, length, map}
use Rattle.std.proofs.Common.{Option, Some, None, refl, sym, ap, subst, ◌∙◌}
use Rattle.std.specs.Prelude.{filter, flat_map}
use Rattle.std.specs.List.{cons_option, filter_map}
use Rattle.std.specs.Ordering.{is_lt}
use Rattle.std.specs.FinMap.{entries, entries_sorted, is_sorted}
use Rattle.std.specs.FinMap.Entries.{below_all}
use Rattle.std.proofs.lemmas.Bool.{and_parts}
use Rattle.lay_point.specs.Same.{names_eq}
use Rattle.lay_point.specs.Turns.{unturned}
use Rattle.lay_point.proofs.Members.{Has, has, has-append}
use Rattle.lay_point.proofs.BoolLaws.{Less_by_test, true_by_T}
use Rattle.lay_point.proofs.ListLaws.{map-append, map-has}
use Rattle.lay_cells.specs.declared.cell_id.CellId.{CellId}
use Rattle.lay_cells.specs.declared.cell_id.CellId.TheVariants.{Symbol}
use Rattle.lay_cells.specs.SameCell.{cell_eq}
use Rattle.lay_cells.specs.WalkLists.{walks_within}
use Rattle.lay_layouts.specs.declared.id.ItemId.{ItemId}
use Rattle.lay_layouts.specs.declared.item.Item.{Item}
use Rattle.lay_layouts.specs.declared.item.Item.TheVariants.{Placed, Shape}
use Rattle.lay_layouts.specs.Calls.{calls_of}
use Rattle.lay_layouts.specs.Ids.{id_cmp}
use Rattle.lay_layouts.specs.Items.{cell_of, items_in}
use Rattle.lay_layouts.specs.Layout.{Layout}
use Rattle.lay_layouts.specs.Lent.{LentCall, LentShape, call_lent, calls_in, shape_on, shapes_in}
use Rattle.lay_flat.specs.Ends.{end_along, end_of, target_of, walks_of}
use Rattle.lay_flat.specs.Flattening.{drawn_at, ends_of}
use Rattle.lay_flat.specs.Order.{AreInOrder, IsIdBefore, IsPlaceBefore, IsWalkBefore, ShapesAreNumberedInOrder, WalkedShape}
use Rattle.lay_flat.specs.Order.{drawn_of, places, places_on}

-- ---- lists in order
abbrev InOrder : {A : Type 0} → (A → A → Type 0) → List A → Type 0
InOrder {A} Before [] = Unit {0}
InOrder {A} Before (x ∷ xs) = ((y : A) → Has xs y → Before x y) × InOrder Before xs

said : {A : Type 0} (Before : A → A → Type 0) (xs : List A) → InOrder Before xs → AreInOrder Before xs
said Before [] h = tt
said Before (x ∷ xs) h = ((λ y m. h.0 y (has xs y m)), said Before xs h.1)

has_filter : {A : Type 0} (test : A → Bool) (xs : List A) (y : A) → Has (filter test xs) y → Has xs y
has_filter test [] y m = absurd m
has_filter test (x ∷ xs) y m = by_test (test x) (has_filter test xs y) m
  where
    by_test : (b : Bool) → (Has (filter test xs) y → Has xs y) → Has (cond b (x ∷ filter test xs) (filter test xs)) y → Has (x ∷ xs) y
    by_test true later (inl same) = inl same
    by_test true later (inr m) = inr (later m)
    by_test false later m = inr (later m)

filter_in_order : {A : Type 0} (Before : A → A → Type 0) (test : A → Bool) (xs : List A) → InOrder Before xs
    → InOrder Before (filter test xs)
filter_in_order Before test [] h = tt
filter_in_order Before test (x ∷ xs) h = by_test (test x) (filter_in_order Before test xs h.1)
  where
    by_test : (b : Bool) → InOrder Before (filter test xs) → InOrder Before (cond b (x ∷ filter test xs) (filter test xs))
    by_test true rest = ((λ y m. h.0 y (has_filter test xs y m)), rest)
    by_test false rest = rest

has_filter_map : {A B : Type 0} (f : A → Option B) (xs : List A) (v : B) → Has (filter_map f xs) v
    → (x : A) × Has xs x × (f x ≡ Some v)
has_filter_map f [] v m = absurd m
has_filter_map {A} {B} f (x ∷ xs) v m = by_answer (f x) refl (has_filter_map f xs v) m
  where
    by_answer : (o : Option B) → f x ≡ o → (Has (filter_map f xs) v → (x : A) × Has xs x × (f x ≡ Some v))
        → Has (cons_option o (filter_map f xs)) v → (y : A) × Has (x ∷ xs) y × (f y ≡ Some v)
    by_answer None e later m = let r = later m in (r.0, inr r.1, r.2)
    by_answer (Some u) e later (inl same) = (x, inl refl, e ∙ ap Some same)
    by_answer (Some u) e later (inr m) = let r = later m in (r.0, inr r.1, r.2)

filter_map_in_order : {A B : Type 0} (Before : A → A → Type 0) (After : B → B → Type 0) (f : A → Option B)
    → ((x y : A) (u v : B) → f x ≡ Some u → f y ≡ Some v → Before x y → After u v) → (xs : List A) → InOrder Before xs
    → InOrder After (filter_map f xs)
filter_map_in_order Before After f keeps [] h = tt
filter_map_in_order {A} {B} Before After f keeps (x ∷ xs) h = by_answer (f x) refl (filter_map_in_order Before After f keeps xs h.1)
  where
    by_answer : (o : Option B) → f x ≡ o → InOrder After (filter_map f xs) → InOrder After (cons_option o (filter_map f xs))
    by_answer None e rest = rest
    by_answer (Some u) e rest = (
      (λ v m. let r = has_filter_map f xs v m in keeps x r.0 u v e r.2 (h.0 r.0 r.1)),
      rest,
    )

map_in_order : {A B : Type 0} (Before : A → A → Type 0) (After : B → B → Type 0) (f : A → B)
    → ((x y : A) → Before x y → After (f x) (f y)) → (xs : List A) → InOrder Before xs → InOrder After (map f xs)
map_in_order Before After f keeps [] h = tt
map_in_order Before After f keeps (x ∷ xs) h = (
  (λ v m. let r = map-has f xs v m in subst (After (f x)) r.2 (keeps x r.0 (h.0 r.0 r.1))),
  map_in_order Before After f keeps xs h.1,
)

append_in_order : {A : Type 0} (Before : A → A → Type 0) (us vs : List A) → InOrder Before us → InOrder Before vs
    → ((u v : A) → Has us u → Has vs v → Before u v) → InOrder Before (us ++ vs)
append_in_order Before [] vs h g across = g
append_in_order Before (u ∷ us) vs h g across = (
  (λ v m. ⊎_elim (λ (here : Has us v). h.0 v here) (λ (there : Has vs v). across u v (inl refl) there) (has-append us vs v m)),
  append_in_order Before us vs h.1 g (λ w v m n. across w v (inr m) n),
)

has_flat : {A B : Type 0} (f : A → List B) (xs : List A) (v : B) → Has (flat_map f xs) v → (x : A) × Has xs x × Has (f x) v
has_flat f [] v m = absurd m
has_flat f (x ∷ xs) v m = ⊎_elim (λ (here : Has (f x) v). (x, inl refl, here))
    (λ (there : Has (flat_map f xs) v). let r = has_flat f xs v there in (r.0, inr r.1, r.2)) (has-append (f x) (flat_map f xs) v m)

flat_in_order : {A B : Type 0} (Before : A → A → Type 0) (After : B → B → Type 0) (f : A → List B)
    → ((x : A) → InOrder After (f x)) → ((x y : A) (u v : B) → Before x y → Has (f x) u → Has (f y) v → After u v)
    → (xs : List A) → InOrder Before xs → InOrder After (flat_map f xs)
flat_in_order Before After f each across [] h = tt
flat_in_order Before After f each across (x ∷ xs) h =
    append_in_order After (f x) (flat_map f xs) (each x) (flat_in_order Before After f each across xs h.1)
    (λ u v m n. let r = has_flat f xs v n in across x r.0 u v (h.0 r.0 r.1) m r.2)

-- ---- items by their ids
abbrev IsEntryBefore : ItemId × Item → ItemId × Item → Type 0
IsEntryBefore e f = IsIdBefore e.0 f.0

below : (id : ItemId) (es : List (ItemId × Item)) → below_all id_cmp id es ≡ true → (e : ItemId × Item) → Has es e → IsIdBefore id e.0
below id [] h e m = absurd m
below id (f ∷ es) h e (inl same) =
    let both = and_parts (is_lt (id_cmp id f.0)) (below_all id_cmp id es) h in
    subst (λ (z : ItemId × Item). IsIdBefore id z.0) same (Less_by_test (id_cmp id f.0) both.0)
below id (f ∷ es) h e (inr m) =
    let both = and_parts (is_lt (id_cmp id f.0)) (below_all id_cmp id es) h in
    below id es both.1 e m

entries_in_order : (es : List (ItemId × Item)) → is_sorted id_cmp es ≡ true → InOrder IsEntryBefore es
entries_in_order [] h = tt
entries_in_order (e ∷ es) h =
    let both = and_parts (below_all id_cmp e.0 es) (is_sorted id_cmp es) h in
    ((λ f m. below e.0 es both.0 f m), entries_in_order es both.1)

items_in_order : (layout : Layout) (cell : CellId) → InOrder IsEntryBefore (items_in layout cell)
unfolding items_in
items_in_order layout cell =
    filter_in_order IsEntryBefore (λ entry. cell_eq (cell_of entry.1) cell) (entries layout.items)
    (entries_in_order (entries layout.items) (true_by_T _ (entries_sorted layout.items)))

-- ---- calls and shapes of a cell
abbrev IsCallBefore : LentCall → LentCall → Type 0
IsCallBefore c d = IsIdBefore c.0 d.0

abbrev IsShapeBefore : LentShape → LentShape → Type 0
IsShapeBefore s t = IsIdBefore s.0 t.0

call_id : (id : ItemId) (item : Item) (c : LentCall) → call_lent id item ≡ Some c → id ≡ c.0
call_id id (Shape cell layer rings) c e = absurd cc
call_id id (Placed cell target turn) c e = let same : (id, target, turn) ≡ c = cc in ap (λ (z : LentCall). z.0) same

shape_id : (layer : List ℕ) (id : ItemId) (item : Item) (s : LentShape) → shape_on layer id item ≡ Some s → id ≡ s.0
shape_id layer id (Placed cell target turn) s e = absurd cc
shape_id layer id (Shape cell name rings) s e = by_test (names_eq name layer) e
  where
    by_test : (b : Bool) → cond b (Some (id, rings)) None ≡ Some s → id ≡ s.0
    by_test true e = let same : (id, rings) ≡ s = cc in ap (λ (z : LentShape). z.0) same
    by_test false e = absurd cc

calls_in_order : (layout : Layout) (cell : CellId) → InOrder IsCallBefore (calls_in layout cell)
unfolding calls_in
calls_in_order layout cell =
    filter_map_in_order IsEntryBefore IsCallBefore (λ entry. call_lent entry.0 entry.1)
    (λ e f c d is_c is_d less. (λ i. id_cmp (sym (call_id e.0 e.1 c is_c) i) (sym (call_id f.0 f.1 d is_d) i)) ∙ less)
    (items_in layout cell) (items_in_order layout cell)

shapes_in_order : (layout : Layout) (cell : CellId) (layer : List ℕ) → InOrder IsShapeBefore (shapes_in layout cell layer)
unfolding shapes_in
shapes_in_order layout cell layer =
    filter_map_in_order IsEntryBefore IsShapeBefore (λ entry. shape_on layer entry.0 entry.1)
    (λ e f s t is_s is_t less.
    (λ i. id_cmp (sym (shape_id layer e.0 e.1 s is_s) i) (sym (shape_id layer f.0 f.1 t is_t) i)) ∙ less)
    (items_in layout cell) (items_in_order layout cell)

-- ---- walks
abbrev going_on : Layout → ℕ → LentCall → List (List LentCall)
going_on layout n call = map (λ walk. call ∷ walk) (walks_within (calls_in layout) target_of n (Symbol (target_of call)))

walks_in_order : (layout : Layout) (n : ℕ) (cell : CellId) → InOrder IsWalkBefore (walks_within (calls_in layout) target_of n cell)
unfolding walks_within
walks_in_order layout zero cell = ((λ w m. absurd m), tt)
walks_in_order layout (suc n) cell = (
  (λ w m.
      let r = has_flat (going_on layout n) (calls_in layout cell) w m in
      let s = map-has (λ walk. r.0 ∷ walk) (walks_within (calls_in layout) target_of n (Symbol (target_of r.0))) w r.2 in
      subst (IsWalkBefore []) s.2 tt),
  flat_in_order IsCallBefore IsWalkBefore (going_on layout n)
      (λ call. map_in_order IsWalkBefore IsWalkBefore (λ walk. call ∷ walk) (λ w v less. inr (refl, less))
      (walks_within (calls_in layout) target_of n (Symbol (target_of call))) (walks_in_order layout n (Symbol (target_of call))))
      across (calls_in layout cell) (calls_in_order layout cell),
)
  where
    across : (c d : LentCall) (w v : List LentCall) → IsCallBefore c d → Has (going_on layout n c) w → Has (going_on layout n d) v
        → IsWalkBefore w v
    across c d w v less m k =
        let r = map-has (λ walk. c ∷ walk) (walks_within (calls_in layout) target_of n (Symbol (target_of c))) w m in
        let s = map-has (λ walk. d ∷ walk) (walks_within (calls_in layout) target_of n (Symbol (target_of d))) v k in
        subst (λ z. IsWalkBefore z v) r.2 (subst (IsWalkBefore (c ∷ r.0)) s.2 (inl less))

all_walks_in_order : (layout : Layout) (cell : CellId) → InOrder IsWalkBefore (walks_of layout cell)
unfolding walks_of
all_walks_in_order layout cell = walks_in_order layout (length (calls_of layout)) cell

-- ---- places
places_in_order : (layout : Layout) (cell : CellId) (layer : List ℕ) → InOrder IsPlaceBefore (places layout cell layer)
places_in_order layout cell layer =
    flat_in_order IsWalkBefore IsPlaceBefore (places_on layout cell layer)
    (λ walk. map_in_order IsShapeBefore IsPlaceBefore (λ shape. (walk, shape)) (λ s t less. inr (refl, less))
    (shapes_in layout (end_of cell walk) layer) (shapes_in_order layout (end_of cell walk) layer))
    across (walks_of layout cell) (all_walks_in_order layout cell)
  where
    across : (w v : List LentCall) (p q : WalkedShape) → IsWalkBefore w v → Has (places_on layout cell layer w) p
        → Has (places_on layout cell layer v) q → IsPlaceBefore p q
    across w v p q less m n =
        let r = map-has (λ (shape : LentShape). (w, shape)) (shapes_in layout (end_of cell w) layer) p m in
        let s = map-has (λ (shape : LentShape). (v, shape)) (shapes_in layout (end_of cell v) layer) q n in
        subst (λ z. IsPlaceBefore z q) r.2 (subst (IsPlaceBefore (w, r.0)) s.2 (inl less))

map-map : {A B C : Type 0} (g : B → C) (f : A → B) (xs : List A) → map g (map f xs) ≡ map (λ x. g (f x)) xs
map-map g f [] = refl
map-map g f (x ∷ xs) = ap (λ ys. g (f x) ∷ ys) (map-map g f xs)

drawn_along : (layout : Layout) (cell : CellId) (layer : List ℕ) (walks : List (List LentCall))
    → flat_map (drawn_at layout layer) (map (end_along cell (Some unturned)) walks)
    ≡ map drawn_of (flat_map (places_on layout cell layer) walks)
drawn_along layout cell layer [] = refl
drawn_along layout cell layer (w ∷ walks) =
    ap (λ ys. ys ++ flat_map (drawn_at layout layer) (map (end_along cell (Some unturned)) walks))
    (sym (map-map drawn_of (λ (shape : LentShape). (w, shape)) (shapes_in layout (end_of cell w) layer)))
    ∙ ap (λ ys. map drawn_of (places_on layout cell layer w) ++ ys) (drawn_along layout cell layer walks)
    ∙ sym (map-append drawn_of (places_on layout cell layer w) (flat_map (places_on layout cell layer) walks))

numbered : (layout : Layout) (cell : CellId) (layer : List ℕ)
    → flat_map (drawn_at layout layer) (ends_of layout cell) ≡ map drawn_of (places layout cell layer)
unfolding ends_of
numbered layout cell layer = drawn_along layout cell layer (walks_of layout cell)

pub numbered_in_order : ShapesAreNumberedInOrder
numbered_in_order layout cell layer = record {
  walks = said IsWalkBefore (walks_of layout cell) (all_walks_in_order layout cell);
  shapes = said IsPlaceBefore (places layout cell layer) (places_in_order layout cell layer);
  numbered = numbered layout cell layer;
}

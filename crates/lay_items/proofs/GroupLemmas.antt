-- Groups of items: a cell's shapes on a layer and its calls are those of their groups.
use Rattle.std.proofs.Common.{◌≡◌, ◌∙◌, ℕ, Bool, true, false, List, [], ◌∷◌, Option, Some, None, ap, arith, cond, refl, sym}
use Rattle.std.specs.Prelude.{◌==◌, ◌&&◌, filter}
use Rattle.std.specs.List.{cons_option, filter_map}
use Rattle.std.proofs.lemmas.Bool.Decides.{Decides-eqb, same_from_decides}
use Rattle.std.proofs.lemmas.Slice.Eq.{bytes_eq-Decides}
use Rattle.lay_point.specs.Same.{names_eq}
use Rattle.lay_cells.specs.declared.cell_id.CellId.{CellId}
use Rattle.lay_cells.specs.declared.cell_id.CellId.TheVariants.{Symbol, Top}
use Rattle.lay_cells.specs.SameCell.{cell_eq, cell_eq-Decides}
use Rattle.lay_layouts.specs.declared.id.ItemId.{ItemId}
use Rattle.lay_layouts.specs.declared.item.Item.{Item}
use Rattle.lay_layouts.specs.declared.item.Item.TheVariants.{Placed, Shape}
use Rattle.lay_layouts.specs.Items.{cell_of, standing_in}
use Rattle.lay_layouts.specs.Lent.{LentShape, call_lent, calls_lent, shape_on, shapes_among}
use Rattle.lay_items.specs.declared.group.By.TheVariants.{Layer}
use Rattle.lay_items.specs.Runs.{HeldItem, call_group, cell_key, group_in, layer_group, layer_tag, of_group, same_group, tag_of}

-- ---- lists

filter_same : {A : Type 0} (p q : A → Bool) → ((x : A) → p x ≡ q x) → (xs : List A) → filter p xs ≡ filter q xs
filter_same p q same [] = refl
filter_same p q same (x ∷ xs) = λ i. cond (same x i) (x ∷ filter_same p q same xs i) (filter_same p q same xs i)

-- those that pass both tests are those of the first that pass the second
filter_twice : {A : Type 0} (p q : A → Bool) (xs : List A) → filter (λ x. p x && q x) xs ≡ filter q (filter p xs)
filter_twice p q [] = refl
filter_twice {A} p q (x ∷ xs) = cases (p x) (filter_twice p q xs) where
  cases : (s : Bool) → filter (λ y. p y && q y) xs ≡ filter q (filter p xs)
      → cond (s && q x) (x ∷ filter (λ y. p y && q y) xs) (filter (λ y. p y && q y) xs)
      ≡ filter q (cond s (x ∷ filter p xs) (filter p xs))
  cases true rest = ap (λ ys. cond (q x) (x ∷ ys) ys) rest
  cases false rest = rest

-- what gives nothing may be left out before
skipped : {X Y : Type 0} (g : X → Option Y) (p : X → Bool) → ((x : X) → p x ≡ false → g x ≡ None) → (xs : List X)
    → filter_map g (filter p xs) ≡ filter_map g xs
skipped g p none [] = refl
skipped {X} {Y} g p none (x ∷ xs) = cases (p x) refl (skipped g p none xs) where
  cases : (b : Bool) → p x ≡ b → filter_map g (filter p xs) ≡ filter_map g xs
      → filter_map g (cond b (x ∷ filter p xs) (filter p xs)) ≡ cons_option (g x) (filter_map g xs)
  cases true is rest = ap (cons_option (g x)) rest
  cases false is rest = rest ∙ ap (λ o. cons_option o (filter_map g xs)) (sym (none x is))

-- ---- cells

-- cells with one key are the same
same_cell : (item : Item) (cell : CellId) → (cell_key (cell_of item) == cell_key cell) ≡ cell_eq (cell_of item) cell
same_cell item cell =
    sym (same_from_decides (cell_eq (cell_of item) cell) (cell_key (cell_of item) == cell_key cell) (cell_eq-Decides (cell_of item) cell) (
      λ e. same_key (cell_of item) cell ((Decides-eqb (cell_key (cell_of item)) (cell_key cell)).0 e),
      λ e. (Decides-eqb (cell_key (cell_of item)) (cell_key cell)).1 (ap cell_key e),
    )) where
      same_key : (a b : CellId) → cell_key a ≡ cell_key b → a ≡ b
      same_key Top Top e = refl
      same_key Top (Symbol n) e = absurd (omega (arith, e))
      same_key (Symbol m) Top e = absurd (omega (arith, e))
      same_key (Symbol m) (Symbol n) e = let same : m ≡ n = omega (arith, e) in ap Symbol same

-- ---- tags

abbrev has_tag : ℕ → HeldItem → Bool
has_tag tag e = tag_of e.1 == tag

-- those of a cell and a tag are those of the tag among the cell's
of_tag : (cell : CellId) (tag : ℕ) (es : List HeldItem)
    → of_group Layer (record { cell = cell_key cell; tag = tag }) es ≡ filter (has_tag tag) (standing_in cell es)
of_tag cell tag es =
    filter_same (λ (e : HeldItem). same_group (group_in Layer e.1) (record { cell = cell_key cell; tag = tag }))
    (λ (e : HeldItem). cell_eq (cell_of e.1) cell && has_tag tag e) (λ e. ap (λ b. b && has_tag tag e) (same_cell e.1 cell)) es
    ∙ filter_twice (λ (e : HeldItem). cell_eq (cell_of e.1) cell) (has_tag tag) es

-- shapes on a layer have its tag
shapes_of_tag : (layer : List ℕ) (es : List HeldItem) → shapes_among layer (filter (has_tag (layer_tag layer)) es) ≡ shapes_among layer es
shapes_of_tag layer es =
    skipped (λ (e : HeldItem). shape_on layer e.0 e.1) (has_tag (layer_tag layer)) (λ e. none e.0 e.1) es where
      none : (id : ItemId) (item : Item) → (tag_of item == layer_tag layer) ≡ false → shape_on layer id item ≡ None
      none id (Placed cell target turn) other = refl
      none id (Shape cell name rings) other = cases (names_eq name layer) refl where
        found : Bool → Option LentShape
        found b = cond b (Some (id, rings)) None

        cases : (b : Bool) → names_eq name layer ≡ b → found b ≡ None
        cases true is =
            let same : layer_tag name ≡ layer_tag layer = ap layer_tag ((bytes_eq-Decides name layer).0 is) in
            let here : (layer_tag name == layer_tag layer) ≡ true = (Decides-eqb (layer_tag name) (layer_tag layer)).1 same in
            absurd cc
        cases false is = refl

-- and calls have theirs
calls_of_tag : (es : List HeldItem) → calls_lent (filter (has_tag 0) es) ≡ calls_lent es
calls_of_tag es =
    skipped (λ (e : HeldItem). call_lent e.0 e.1) (has_tag 0) (λ e. none e.0 e.1) es where
      none : (id : ItemId) (item : Item) → (tag_of item == 0) ≡ false → call_lent id item ≡ None
      none id (Placed cell target turn) other = absurd cc
      none id (Shape cell name rings) other = refl

-- the shapes of a layer's group on the layer are the cell's on it
pub shapes_of_layer : (cell : CellId) (layer : List ℕ) (es : List HeldItem)
    → shapes_among layer (of_group Layer (layer_group cell layer) es) ≡ shapes_among layer (standing_in cell es)
shapes_of_layer cell layer es = ap (shapes_among layer) (of_tag cell (layer_tag layer) es) ∙ shapes_of_tag layer (standing_in cell es)

-- and the calls of the calls' group are the cell's
pub calls_of_cell : (cell : CellId) (es : List HeldItem)
    → calls_lent (of_group Layer (call_group cell) es) ≡ calls_lent (standing_in cell es)
calls_of_cell cell es = ap calls_lent (of_tag cell 0 es) ∙ calls_of_tag (standing_in cell es)

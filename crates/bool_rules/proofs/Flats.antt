-- A flattening of a sound layout has rings whose turned points are in range.
use Rattle.std.proofs.Common.{◌≡◌, ℕ, ◌+◌, Bool, true, false, List, [], ◌∷◌, length, refl, subst}
use Rattle.std.specs.Prelude.{◌||◌, not, nat_lt, None, Some, Result, Ok, Err, if◌then◌else◌, is_none, unwrap_or}
use Rattle.std.specs.FinMap.{entries, get}
use Rattle.std.specs.List.{AllByRecursion, list_all, list_any}
use Rattle.std.proofs.lemmas.List.Elements.{All-from_recursion, recursion_from_All}
use Rattle.lay_point.specs.Rings.{IsRing}
use Rattle.lay_point.specs.Same.{names_eq}
use Rattle.lay_point.specs.Turns.{unturned}
use Rattle.lay_point.proofs.ListLaws.{all_weaker}
use Rattle.lay_cells.specs.declared.cell_id.CellId.{CellId}
use Rattle.lay_layouts.specs.declared.id.ItemId.{ItemId}
use Rattle.lay_layouts.specs.declared.item.Item.{Item}
use Rattle.lay_layouts.specs.declared.item.Item.TheVariants.{Placed, Shape}
use Rattle.lay_layouts.specs.IdOrder.{ids_exact, ids_total}
use Rattle.lay_layouts.specs.Items.{items_in}
use Rattle.lay_layouts.specs.Layout.{Layout, is_cell}
use Rattle.lay_layouts.specs.Lent.{LentShape, shape_on, shapes_in}
use Rattle.lay_layouts.specs.Sound.{IsSound, IsSoundItem}
use Rattle.lay_layouts.proofs.EntryLemmas.{entries-found}
use Rattle.lay_flat.specs.declared.ends.End.{End}
use Rattle.lay_flat.specs.declared.fault.FlatFault.{FlatFault}
use Rattle.lay_flat.specs.declared.fault.FlatFault.TheVariants.{NoCell, OutOfRange, TooMany}
use Rattle.lay_flat.specs.declared.flat.TheConstants.{MAX_RINGS}
use Rattle.lay_flat.specs.Flat.{FlatRing, IsFlat, is_within}
use Rattle.lay_flat.specs.Flattening.{Drawn, drawn_at, ends_of, flat_at, flat_of, on_success, rings_at, rings_from, rings_of, tested}
use Rattle.bool_rules.specs.Laws.{FlatteningsAreFlat}
use Rattle.bool_rules.proofs.Everywhere.{IfKept, all-append, all-filter, all-filter_map, all-flat_map}
use Rattle.bool_rules.proofs.Everywhere.{all-map, tested_each}

-- a shape's rings are rings
abbrev HasRings : LentShape → Type 0
HasRings shape = AllByRecursion IsRing shape.1

abbrev IsDrawnSo : Drawn → Type 0
IsDrawnSo drawn = AllByRecursion IsRing drawn.1

abbrev IsOfRing : FlatRing → Type 0
IsOfRing ring = IsRing ring.0

module _ (layout : Layout) (sound : IsSound layout) where
  abbrev IsHeld : ItemId × Item → Type 0
  IsHeld entry = IsSoundItem layout entry.1

  all_held : AllByRecursion IsHeld (entries layout.items)
  all_held =
      all_weaker (λ e. get layout.items e.0 ≡ Some e.1) IsHeld (λ e at. sound.items e.0 e.1 at) (entries layout.items)
      (recursion_from_All (λ e. get layout.items e.0 ≡ Some e.1) (entries layout.items) (entries-found ids_total ids_exact layout.items))

  held_in : (cell : CellId) → AllByRecursion IsHeld (items_in layout cell)
  unfolding items_in
  held_in cell = all-filter IsHeld _ (entries layout.items) all_held

  lent : (layer : List ℕ) (id : ItemId) (item : Item) → IsSoundItem layout item → IfKept HasRings (shape_on layer id item)
  lent layer id (Shape cell name rings) held = by_test (names_eq name layer) where
    by_test : (t : Bool) → IfKept HasRings (if t then Some (id, rings) else None)
    by_test true = held.1.each
    by_test false = tt
  lent layer id (Placed cell target turn) held = tt

  shapes_drawn : (cell : CellId) (layer : List ℕ) → AllByRecursion HasRings (shapes_in layout cell layer)
  unfolding shapes_in
  shapes_drawn cell layer =
      all-filter_map IsHeld HasRings (λ e. shape_on layer e.0 e.1) (λ e held. lent layer e.0 e.1 held) (items_in layout cell) (held_in cell)

  drawn_there : (layer : List ℕ) (end : End) → AllByRecursion IsDrawnSo (drawn_at layout layer end)
  drawn_there layer end =
      all-map HasRings IsDrawnSo (λ shape. (unwrap_or end.turn unturned, shape.1)) (λ shape h. h) (shapes_in layout end.cell layer)
      (shapes_drawn end.cell layer)

  of_shape : (number : ℕ) (shape : Drawn) → IsDrawnSo shape → AllByRecursion IsOfRing (rings_of number shape)
  of_shape number shape h = all-map IsRing IsOfRing (λ ring. (ring, shape.0, number)) (λ ring is. is) shape.1 h

  from_shapes : (number : ℕ) (shapes : List Drawn) → AllByRecursion IsDrawnSo shapes → AllByRecursion IsOfRing (rings_from number shapes)
  from_shapes number [] all = tt
  from_shapes number (shape ∷ shapes) all =
      all-append IsOfRing (rings_of number shape) (rings_from (number + 1) shapes) (of_shape number shape all.0)
      (from_shapes (number + 1) shapes all.1)

  all_ends : (ends : List End) → AllByRecursion (λ end. Unit {0}) ends
  all_ends [] = tt
  all_ends (end ∷ ends) = (tt, all_ends ends)

  pub of_rings : (layer : List ℕ) (ends : List End) → AllByRecursion IsOfRing (rings_at layout layer ends)
  of_rings layer ends =
      from_shapes 0 _ (all-flat_map (λ end. Unit {0}) IsDrawnSo (drawn_at layout layer)
      (λ end h. drawn_there layer end) ends (all_ends ends))

-- what is accepted is the rings that were tested
pub record AreTested (rings out : List FlatRing) : Type 0 where
  pub same : rings ≡ out
  pub within : list_all is_within rings ≡ true

accepted : (ends : List End) (rings out : List FlatRing) → flat_at ends rings ≡ Ok out → AreTested rings out
unfolding flat_at
accepted ends rings out h = by_tests (nat_lt MAX_RINGS (length rings)) (list_any (λ end. is_none end.turn) ends)
    (list_all is_within rings) refl h where
      by_tests : (many outside within : Bool) → list_all is_within rings ≡ within →
          (if many then Err TooMany else (if outside || not within then Err OutOfRange else Ok rings)) ≡ Ok out → AreTested rings out
      by_tests true outside within e g = absurd (cc)
      by_tests false true within e g = absurd (cc)
      by_tests false false false e g = absurd (cc)
      by_tests false false true e g = record { same = cc; within = e }

both : (rings : List FlatRing) → AllByRecursion IsOfRing rings → AllByRecursion (λ r. is_within r ≡ true) rings →
    AllByRecursion IsFlat rings
both [] drawn within = tt
both (ring ∷ rings) drawn within = (record { drawn = drawn.0; within = within.0 }, both rings drawn.1 within.1)

-- an accepted flattening is of the rings at its ends
came : (layout : Layout) (cell : CellId) (layer : List ℕ) (out : List FlatRing) → flat_of layout cell layer ≡ Ok out →
    flat_at (ends_of layout cell) (rings_at layout layer (ends_of layout cell)) ≡ Ok out
unfolding flat_of
came layout cell layer out h = by_cell (is_cell layout cell) (tested layout cell) h where
  answer : Result (List FlatRing) FlatFault
  answer = flat_at (ends_of layout cell) (rings_at layout layer (ends_of layout cell))

  by_cell : (t : Bool) (r : Result (Unit {0}) FlatFault) → (if t then on_success r (λ _. answer) else Err NoCell) ≡ Ok out → answer ≡ Ok out
  by_cell true (Ok x) g = g
  by_cell true (Err fault) g = absurd (cc)
  by_cell false r g = absurd (cc)

pub flattenings_are_flat : FlatteningsAreFlat
flattenings_are_flat layout sound cell layer out h =
    let rings = rings_at layout layer (ends_of layout cell) in
    let ok = accepted (ends_of layout cell) rings out (came layout cell layer out h) in
    let flat = both rings (of_rings layout sound layer (ends_of layout cell)) (tested_each is_within rings ok.within) in
    All-from_recursion IsFlat out (subst (AllByRecursion IsFlat) ok.same flat)

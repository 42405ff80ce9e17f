-- The layout of a text's meaning is sound.
use Rattle.std.proofs.Common.{◌≡◌, ◌≤◌, ◌+◌, ℕ, suc, Bool, true, false, cond, List, [], ◌∷◌}
use Rattle.std.proofs.Common.{Some, All, refl, sym, ◌∙◌, ap, subst, arith, get_or}
use Rattle.std.specs.Prelude.{◌||◌, is_some, nat_eq}
use Rattle.std.specs.FinMap.{find, get-from_entries}
use Rattle.std.specs.Cmp.{Equal-is, eq_by_cmp_equiv, nat_cmp_total}
use Rattle.std.proofs.lemmas.Bool.Decides.{Decides-eqb, same_from_decides}
use Rattle.std.proofs.lemmas.Map.Lookups.{exact_unsigned}
use Rattle.std.specs.List.{AllByRecursion, cons_option}
use Rattle.std.specs.Ordering.{eq_by_cmp, nat_cmp}
use Rattle.std.proofs.lemmas.Bool.{eqb-true}
use Rattle.std.proofs.lemmas.List.Elements.{All-head, All-tail}
use Rattle.lay_cells.specs.declared.cell_id.CellId.{CellId}
use Rattle.lay_cells.specs.declared.cell_id.CellId.TheVariants.{Symbol, Top}
use Rattle.lay_cells.specs.declared.cells.TheConstants.{MAX_SYMBOL}
use Rattle.lay_cells.specs.Symbols.{has_cell, has_symbol}
use Rattle.lay_cells.specs.Walks.{IsAcyclic}
use Rattle.cif_read.specs.declared.element.Element.{Element}
use Rattle.cif_read.specs.declared.element.Figure.{Figure}
use Rattle.cif_read.specs.declared.element.Figure.TheVariants.{Call, Polygon}
use Rattle.cif_read.specs.Contents.{Contents, IsSoundElement, IsSoundFigure, IsSoundFile, element_calls, with_call}
use Rattle.lay_layouts.specs.declared.slot.CellSlot.{CellSlot}
use Rattle.lay_layouts.specs.declared.slot.CellSlot.TheVariants.{Base}
use Rattle.lay_layouts.specs.Calls.{as_call, calls_among, calls_of}
use Rattle.lay_layouts.specs.Calls as calls
use Rattle.cif_layout.specs.FromCif.{item_in, item_of, items_of_elements, layout_of}
use Rattle.lay_layouts.specs.IdOrder.{ids_total}
use Rattle.lay_layouts.specs.Layout.{is_cell}
use Rattle.lay_layouts.specs.LayoutWith.{numbered_from, placed_from}
use Rattle.lay_layouts.specs.Sound.{IsSound, IsSoundItem}
use Rattle.lay_items.proofs.SoundLemmas.{one_ring}
use Rattle.lay_items.proofs.NumberedLemmas.{entries-numbered, found-all}

-- ---- symbols

-- the two tests of equal numbers agree
same_test : (n m : ℕ) → eq_by_cmp nat_cmp n m ≡ nat_eq n m
same_test n m = same_from_decides (eq_by_cmp nat_cmp n m) (nat_eq n m) (
  λ e. exact_unsigned n m ((Equal-is (nat_cmp n m)).0 e),
  λ e. ap (eq_by_cmp nat_cmp n) (sym e) ∙ (eq_by_cmp_equiv nat_cmp_total).refl n,
)
    (Decides-eqb n m)

-- what is so of all numbers is so of one that is found
found_number : (P : ℕ → Type 0) (p m : ℕ) (numbers : List ℕ) (slot : CellSlot) → All P numbers
    → find nat_cmp m (placed_from p numbers) ≡ Some slot → P m
found_number P p m [] slot all at = absurd cc
found_number P p m (n ∷ ns) slot all at =
    by (eq_by_cmp nat_cmp m n) refl (found_number P (p + 1) m ns slot (All-tail P n ns all)) at where
      by : (b : Bool) → eq_by_cmp nat_cmp m n ≡ b → (find nat_cmp m (placed_from (p + 1) ns) ≡ Some slot → P m)
          → cond b (Some (Base p)) (find nat_cmp m (placed_from (p + 1) ns)) ≡ Some slot → P m
      by true e rest at = subst P (sym (eqb-true m n (sym (same_test m n) ∙ e))) (All-head P n ns all)
      by false e rest at = rest at

-- the number that is found at a place is the one of the list there
found_place : (p m place : ℕ) (numbers : List ℕ) → find nat_cmp m (placed_from p numbers) ≡ Some (Base place)
    → (i : ℕ) × (place ≡ p + i) × (get_or numbers i 0 ≡ m)
found_place p m place [] at = absurd cc
found_place p m place (n ∷ ns) at =
    by (eq_by_cmp nat_cmp m n) refl (found_place (p + 1) m place ns) at where
      by : (b : Bool) → eq_by_cmp nat_cmp m n ≡ b
          → (find nat_cmp m (placed_from (p + 1) ns) ≡ Some (Base place) → (i : ℕ) × (place ≡ p + 1 + i) × (get_or ns i 0 ≡ m))
          → cond b (Some (Base p)) (find nat_cmp m (placed_from (p + 1) ns)) ≡ Some (Base place)
          → (i : ℕ) × (place ≡ p + i) × (get_or (n ∷ ns) i 0 ≡ m)
      by true e rest at =
          let same : p ≡ place = cc in
          (0, omega (arith, same), sym (eqb-true m n (sym (same_test m n) ∙ e)))
      by false e rest at =
          let found = rest at in
          (suc found.0, omega (arith, found.1), found.2)

same_place : (m n place : ℕ) (numbers : List ℕ) → find nat_cmp m (placed_from 1 numbers) ≡ Some (Base place)
    → find nat_cmp n (placed_from 1 numbers) ≡ Some (Base place) → m ≡ n
same_place m n place numbers at other =
    let a = found_place 1 m place numbers at in
    let b = found_place 1 n place numbers other in
    let same : a.0 ≡ b.0 = omega (arith, a.1, b.1) in
    sym a.2 ∙ ap (λ i. get_or numbers i 0) same ∙ b.2

-- a symbol of the list is one of the layout
placed_symbol : (p n : ℕ) (numbers : List ℕ) → has_symbol numbers n ≡ true → is_some (find nat_cmp n (placed_from p numbers)) ≡ true
placed_symbol p n [] h = absurd cc
placed_symbol p n (m ∷ ms) h = by (nat_eq n m) (same_test n m) (placed_symbol (p + 1) n ms) h where
  by : (b : Bool) → eq_by_cmp nat_cmp n m ≡ b
      → (has_symbol ms n ≡ true → is_some (find nat_cmp n (placed_from (p + 1) ms)) ≡ true) → (b || has_symbol ms n) ≡ true
      → is_some (cond (eq_by_cmp nat_cmp n m) (Some (Base p)) (find nat_cmp n (placed_from (p + 1) ms))) ≡ true
  by true e rest h = rw e refl
  by false e rest h = rw e (rest h)

-- a cell of the text is one of the layout
has-is : (file : Contents) (cell : CellId) → has_cell file.symbols cell ≡ true → is_cell (layout_of file) cell ≡ true
has-is file Top h = refl
has-is file (Symbol n) h =
    ap is_some (get-from_entries nat_cmp_total (placed_from 1 file.symbols) n) ∙ placed_symbol 1 n file.symbols h

-- ---- items

sound_item : (file : Contents) (e : Element) → IsSoundElement file.symbols e → IsSoundItem (layout_of file) (item_of e)
sound_item file e sound = by e.figure sound.1 where
  by : (f : Figure) → IsSoundFigure file.symbols f → IsSoundItem (layout_of file) (item_in e.cell f)
  by (Polygon layer ring) is = (has-is file e.cell sound.0, one_ring ring is)
  by (Call target turn) is = (has-is file e.cell sound.0, has-is file (Symbol target) is.0, is.1)

sound_items : (file : Contents) (es : List Element) → All (IsSoundElement file.symbols) es
    → AllByRecursion (IsSoundItem (layout_of file)) (items_of_elements es)
sound_items file [] all = tt
sound_items file (e ∷ es) all = (
  sound_item file e (All-head (IsSoundElement file.symbols) e es all),
  sound_items file es (All-tail (IsSoundElement file.symbols) e es all),
)

-- ---- calls

one_call : (cell : CellId) (f : Figure) (rest : List calls.Call) → cons_option (as_call (item_in cell f)) rest ≡ with_call cell f rest
one_call cell (Polygon layer ring) rest = refl
one_call cell (Call target turn) rest = refl

-- the calls of the layout are those of the text
same_calls : (k : ℕ) (es : List Element) → calls_among (numbered_from k (items_of_elements es)) ≡ element_calls es
same_calls k [] = refl
same_calls k (e ∷ es) =
    one_call e.cell e.figure (calls_among (numbered_from (k + 1) (items_of_elements es)))
    ∙ ap (with_call e.cell e.figure) (same_calls (k + 1) es)

pub layout_of-sound : (file : Contents) → IsSoundFile file → IsSound (layout_of file)
unfolding calls_of
layout_of-sound file sound = record {
  numbers = λ number slot at. found_number (λ n. n ≤ MAX_SYMBOL) 1 number file.symbols slot sound.numbers
      (sym (get-from_entries nat_cmp_total (placed_from 1 file.symbols) number) ∙ at);
  apart = λ m n place at other. same_place m n place file.symbols
      (sym (get-from_entries nat_cmp_total (placed_from 1 file.symbols) m) ∙ at)
      (sym (get-from_entries nat_cmp_total (placed_from 1 file.symbols) n) ∙ other);
  items = λ id item at. found-all (IsSoundItem (layout_of file)) 1 (items_of_elements file.elements) id item
      (sound_items file file.elements sound.elements)
      (sym (get-from_entries ids_total (numbered_from 1 (items_of_elements file.elements)) id) ∙ at);
  acyclic = subst IsAcyclic (sym (ap calls_among (entries-numbered 1 (items_of_elements file.elements)) ∙ same_calls 1 file.elements))
      sound.acyclic;
}

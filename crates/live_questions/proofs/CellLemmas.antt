-- The numbers of symbols in any order, sorted, are those of the symbols by number; a cell has no more items than its layout.
use Rattle.std.proofs.Common.{◌≡◌, ◌≤◌, ℕ, Bool, true, false, ◌||◌, List, [], ◌∷◌, Option, Some, None, cond, length, refl, ap, sym}
use Rattle.std.proofs.Common.{◌∙◌, subst, nat_eq, arith}
use Rattle.std.specs.BTreeMap.{is_at}
use Rattle.std.specs.Cmp.{Equal-is, eq_by_cmp_equiv, nat_cmp_total}
use Rattle.std.specs.FinMap as finite
use Rattle.std.specs.FinMap.{FinMap, contains_key, contains_key-keys, entries, entries_sorted, get}
use Rattle.std.specs.List.{AllByRecursion, list_any}
use Rattle.std.specs.List.Sorted.{IsStrictlySortedBy}
use Rattle.std.specs.Ordering.{eq_by_cmp, nat_cmp}
use Rattle.std.proofs.lemmas.Bool.{eqb-true}
use Rattle.std.proofs.lemmas.Bool.Decides.{Decides-eqb, same_from_decides}
use Rattle.std.proofs.lemmas.List.Elements.{recursion_from_All}
use Rattle.std.proofs.lemmas.List.Sums.{count_by-le-length, length-filter}
use Rattle.std.proofs.lemmas.Map.Lookups.{btree_set_from_contains, exact_unsigned}
use Rattle.lay_point.proofs.BoolLaws.{true_by_T}
use Rattle.lay_cells.specs.Symbols.{has_symbol}
use Rattle.lay_cells.specs.declared.cell_id.CellId.{CellId}
use Rattle.lay_cells.specs.SameCell.{cell_eq}
use Rattle.lay_layouts.specs.declared.id.ItemId.{ItemId}
use Rattle.lay_layouts.specs.declared.item.Item.{Item}
use Rattle.lay_layouts.specs.Items.{cell_of, items_in, standing_in}
use Rattle.lay_layouts.specs.Layout.{Layout}
use Rattle.lay_layouts.specs.declared.slot.CellSlot.{CellSlot}
use Rattle.lay_layouts.specs.SlotOrder.{in_slot_order}
use Rattle.lay_layouts.proofs.EntryLemmas.{order-symbols, symbols-ordered}
use Rattle.lay_layouts.proofs.MapLemmas.{sorted_keys}

-- ---- numbers

-- a number that is there is as all are
any_of : (P : ℕ → Type 0) (n : ℕ) (xs : List ℕ) → AllByRecursion P xs → list_any (nat_eq n) xs ≡ true → P n
any_of P n [] all any = absurd cc
any_of P n (x ∷ xs) all any = by (nat_eq n x) refl any (any_of P n xs all.1) where
  by : (b : Bool) → nat_eq n x ≡ b → (b || list_any (nat_eq n) xs) ≡ true → (list_any (nat_eq n) xs ≡ true → P n) → P n
  by true is any rest = subst P (sym (eqb-true n x is)) all.0
  by false is any rest = rest any

-- the numbers in slot order are those of the symbols
ordered_numbers : (symbols : FinMap nat_cmp CellSlot) (n : ℕ) → has_symbol (in_slot_order symbols) n ≡ contains_key symbols n
ordered_numbers symbols n = by (get symbols n) refl where
  no_slot : get symbols n ≡ None → (slot : CellSlot) × (get symbols n ≡ Some slot) → has_symbol (in_slot_order symbols) n ≡ false
  no_slot none there = absurd (let no : ◌≡◌ {A = Option CellSlot} None (Some there.0) = sym none ∙ there.1 in cc)

  by : (o : Option CellSlot) → get symbols n ≡ o → has_symbol (in_slot_order symbols) n ≡ contains_key symbols n
  by (Some slot) at = symbols-ordered symbols n slot at ∙ sym (rw at refl)
  by None none = elim (has_symbol (in_slot_order symbols) n) as
      (λ b. has_symbol (in_slot_order symbols) n ≡ b → b ≡ contains_key symbols n) [
        | true ↦ λ any.
            sym any
            ∙ no_slot none (any_of (λ m. (slot : CellSlot) × (get symbols m ≡ Some slot)) n (in_slot_order symbols)
            (recursion_from_All _ (in_slot_order symbols) (order-symbols symbols)) any)
            ∙ sym (rw none refl)
        | false ↦ λ any. sym (rw none refl)
      ] refl

-- numbers in order, of just the symbols, are those by number
pub numbers_sorted : (symbols : FinMap nat_cmp CellSlot) (numbers : List ℕ) → IsStrictlySortedBy nat_cmp numbers
    → ((q : ℕ) → list_any (is_at (nat_cmp q)) numbers ≡ has_symbol (in_slot_order symbols) q) → numbers ≡ finite.keys symbols
numbers_sorted symbols numbers sorted same =
    btree_set_from_contains nat_cmp_total (record { keys = numbers }) (record { keys = finite.keys symbols }) sorted
    (sorted_keys nat_cmp (entries symbols) (true_by_T _ (entries_sorted symbols)))
    (λ q. same q ∙ ordered_numbers symbols q ∙ contains_key-keys symbols q) exact_unsigned

-- the order of numbers ties the same ones
tied : (k q : ℕ) → is_at (nat_cmp k) q ≡ nat_eq q k
tied k q = same_from_decides (eq_by_cmp nat_cmp k q) (nat_eq q k) (
  λ e. sym (exact_unsigned k q ((Equal-is (nat_cmp k q)).0 e)),
  λ e. ap (eq_by_cmp nat_cmp k) e ∙ (eq_by_cmp_equiv nat_cmp_total).refl k,
) (Decides-eqb q k)

-- a number goes over from those that are left to those that were taken
pub number_taken : (k q : ℕ) (old new left : Bool) → new ≡ cond (is_at (nat_cmp k) q) true old
    → (left || new) ≡ ((nat_eq q k || left) || old)
number_taken k q old new left is = ap (λ b. left || b) (is ∙ ap (λ t. cond t true old) (tied k q)) ∙ by (nat_eq q k) left where
  by : (t b : Bool) → (b || cond t true old) ≡ ((t || b) || old)
  by true true = refl
  by true false = refl
  by false b = refl

-- ---- counts

-- a cell has no more items than the layout
pub length-items_in : (layout : Layout) (cell : CellId) → length (items_in layout cell) ≤ finite.len layout.items
unfolding items_in
length-items_in layout cell = rw (finite.len-entries layout.items) (length-standing (finite.entries layout.items)) where
  length-standing : (entries : List (ItemId × Item)) → length (standing_in cell entries) ≤ length entries
  length-standing entries =
      let counted = length-filter (λ (e : ItemId × Item). cell_eq (cell_of e.1) cell) entries in
      let bounded = count_by-le-length (λ (e : ItemId × Item). cell_eq (cell_of e.1) cell) entries in
      omega arith

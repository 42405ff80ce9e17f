-- The entries of a map are found under their keys; the numbers in slot order are those of the symbols, each once.
use Rattle.std.proofs.Common.{◌≡◌, ℕ, Bool, true, false, ◌||◌, List, [], ◌∷◌, map}
use Rattle.std.proofs.Common.{Option, Some, None, cond, refl, ap, sym, ◌∙◌, subst, All, nat_eq}
use Rattle.std.specs.declared.cmp.Ordering.{Ordering}
use Rattle.std.specs.Cmp.{Equal-is, IsTotalOrder, eq_by_cmp_equiv, nat_cmp_total}
use Rattle.std.specs.FinMap.{FinMap, IsAntisymmetric, entries, entries_sorted, find, get, get-entries, get-from_entries}
use Rattle.std.specs.List.{IsDistinct, list_any}
use Rattle.std.specs.Ordering.{eq_by_cmp, is_eq, nat_cmp, ordering_then}
use Rattle.std.proofs.lemmas.Bool.{eqb-true, or_right}
use Rattle.std.proofs.lemmas.Bool.Decides.{Decides-eqb}
use Rattle.std.proofs.lemmas.List.Elements.{All-cons, All-map, All-nil, All-tail, All-head, All-weaker, recursion_from_All}
use Rattle.std.proofs.lemmas.Map.Lookups.{exact_pairs, exact_unsigned}
use Rattle.lay_point.proofs.BoolLaws.{true_by_T}
use Rattle.lay_cells.specs.Symbols.{has_symbol}
use Rattle.lay_layouts.specs.declared.slot.CellSlot.{CellSlot}
use Rattle.lay_layouts.specs.SlotOrder.{Standing, by_slot_order, in_slot_order, rank, standing_cmp, standing_of}
use Rattle.lay_layouts.proofs.DistinctLemmas.{AreDistinct}
use Rattle.lay_layouts.proofs.SlotLemmas.{find-standings, is_eq-then, of_rank, sorted-distinct, standings_exact, standings_total}

-- ---- entries

module _ {K X : Type 0} {R : K → K → Ordering} (total : IsTotalOrder R) (exact : IsAntisymmetric R) where
  -- distinct entries are found under their keys
  found-distinct : (es : List (K × X)) → AreDistinct R es → All (λ e. find R e.0 es ≡ Some e.1) es
  found-distinct [] h = All-nil (λ e. find R e.0 [] ≡ Some e.1)
  found-distinct (x ∷ es) h =
      All-cons (λ e. find R e.0 (x ∷ es) ≡ Some e.1) x es
      (ap (λ b. cond b (Some x.1) (find R x.0 es)) ((eq_by_cmp_equiv total).refl x.0))
      (All-weaker (λ e. find R e.0 es ≡ Some e.1) (λ e. find R e.0 (x ∷ es) ≡ Some e.1) (λ e at. by e at (eq_by_cmp R e.0 x.0) refl) es
      (found-distinct es h.1))
    where
      by : (e : K × X) → find R e.0 es ≡ Some e.1 → (b : Bool) → eq_by_cmp R e.0 x.0 ≡ b → cond b (Some x.1) (find R e.0 es) ≡ Some e.1
      by e at true is =
          let none : find R e.0 es ≡ None = ap (λ k. find R k es) (exact e.0 x.0 ((Equal-is (R e.0 x.0)).0 is)) ∙ h.0 in
          absurd (let no : ◌≡◌ {A = Option X} None (Some e.1) = sym none ∙ at in cc)
      by e at false is = at

  entries-distinct : (m : FinMap R X) → AreDistinct R (entries m)
  entries-distinct m = sorted-distinct R (entries m) (true_by_T _ (entries_sorted m))

  pub entries-found : (m : FinMap R X) → All (λ e. get m e.0 ≡ Some e.1) (entries m)
  entries-found m =
      All-weaker (λ e. find R e.0 (entries m) ≡ Some e.1) (λ e. get m e.0 ≡ Some e.1) (λ e at. get-entries m e.0 ∙ at) (entries m)
      (found-distinct (entries m) (entries-distinct m))

-- ---- symbols

-- the number of a symbol under the standing of its slot
pub record IsStanding (symbols : FinMap nat_cmp CellSlot) (k : Standing × ℕ) : Type 0 where
  pub slot : CellSlot
  pub at : get symbols k.1 ≡ Some slot
  pub under : k.0 ≡ (rank slot, k.1)

ranked : (symbols : FinMap nat_cmp CellSlot) (k : Standing × ℕ) (o : Option CellSlot) → get symbols k.0.1 ≡ o
    → of_rank k.0.0 k.0.1 o ≡ Some k.1
    → IsStanding symbols k
ranked symbols k None at e = absurd cc
ranked symbols k (Some slot) at e = by (is_eq by_rank) refl e where
  by_rank : Ordering
  by_rank = ordering_then (nat_cmp k.0.0.0 (rank slot).0) (nat_cmp k.0.0.1 (rank slot).1)

  by : (b : Bool) → is_eq by_rank ≡ b → cond b (Some k.0.1) None ≡ Some k.1 → IsStanding symbols k
  by true is e =
      let number : k.0.1 ≡ k.1 = cc in
      let same : k.0.0 ≡ rank slot =
      exact_pairs nat_cmp nat_cmp exact_unsigned exact_unsigned k.0.0 (rank slot) ((Equal-is by_rank).0 is) in
      record { slot = slot; at = ap (get symbols) (sym number) ∙ at; under = λ i. (same i, number i) }
  by false is e = absurd cc

-- what the map by standings has
standing_at : (symbols : FinMap nat_cmp CellSlot) (r : ℕ × ℕ) (n : ℕ)
    → get (by_slot_order (entries symbols)) (r, n) ≡ of_rank r n (get symbols n)
standing_at symbols r n =
    get-from_entries standings_total (map standing_of (entries symbols)) (r, n)
    ∙ find-standings (entries symbols) r n (entries-distinct nat_cmp_total (λ a b e. exact_unsigned a b e) symbols)
    ∙ ap (of_rank r n) (sym (get-entries symbols n))

module _ (symbols : FinMap nat_cmp CellSlot) where
  unfoldable pub standings : List (Standing × ℕ)
  standings = entries (by_slot_order (entries symbols))

  pub all_standing : All (IsStanding symbols) standings
  unfolding standings
  all_standing =
      All-weaker (λ k. get (by_slot_order (entries symbols)) k.0 ≡ Some k.1) (IsStanding symbols)
      (λ k at. ranked symbols k (get symbols k.0.1) refl (sym (standing_at symbols k.0.0 k.0.1) ∙ at)) standings
      (entries-found standings_total standings_exact (by_slot_order (entries symbols)))

  pub order_is : in_slot_order symbols ≡ map (λ e. e.1) standings
  unfolding in_slot_order standings
  order_is = refl

  -- each number in slot order is a symbol's
  pub order-symbols : All (λ n. (slot : CellSlot) × (get symbols n ≡ Some slot)) (in_slot_order symbols)
  order-symbols =
      subst (All (λ n. (slot : CellSlot) × (get symbols n ≡ Some slot))) (sym order_is)
      (All-map (λ n. (slot : CellSlot) × (get symbols n ≡ Some slot)) (λ e. e.1) standings
      (All-weaker (IsStanding symbols) (λ e. (slot : CellSlot) × (get symbols e.1 ≡ Some slot)) (λ e s. (s.slot, s.at)) standings
      all_standing))

  -- a number that is found is among the values
  found_value : (q : Standing) (n : ℕ) (es : List (Standing × ℕ)) → find standing_cmp q es ≡ Some n
      → list_any (nat_eq n) (map (λ e. e.1) es) ≡ true
  found_value q n [] at = absurd cc
  found_value q n (e ∷ es) at = by (eq_by_cmp standing_cmp q e.0) at (found_value q n es) where
    by : (b : Bool) → cond b (Some e.1) (find standing_cmp q es) ≡ Some n
        → (find standing_cmp q es ≡ Some n → list_any (nat_eq n) (map (λ e. e.1) es) ≡ true)
        → (nat_eq n e.1 || list_any (nat_eq n) (map (λ e. e.1) es)) ≡ true
    by true at rest =
        let same : n ≡ e.1 = cc in
        ap (λ b. b || list_any (nat_eq n) (map (λ e. e.1) es)) ((Decides-eqb n e.1).1 same)
    by false at rest = or_right (nat_eq n e.1) (list_any (nat_eq n) (map (λ e. e.1) es)) (rest at)

  -- each symbol is found under its standing
  pub found_standing : (n : ℕ) (slot : CellSlot) → get symbols n ≡ Some slot → find standing_cmp (rank slot, n) standings ≡ Some n
  unfolding standings
  found_standing n slot at =
      let same : is_eq (ordering_then (nat_cmp (rank slot).0 (rank slot).0) (nat_cmp (rank slot).1 (rank slot).1)) ≡ true =
      is_eq-then (nat_cmp (rank slot).0 (rank slot).0) (nat_cmp (rank slot).1 (rank slot).1)
      ∙ rw ((eq_by_cmp_equiv nat_cmp_total).refl (rank slot).0, (eq_by_cmp_equiv nat_cmp_total).refl (rank slot).1) refl in
      sym (get-entries (by_slot_order (entries symbols)) (rank slot, n))
      ∙ standing_at symbols (rank slot) n ∙ ap (of_rank (rank slot) n) at ∙ ap (λ b. cond b (Some n) None) same

  -- each symbol's number is in slot order
  pub symbols-ordered : (n : ℕ) (slot : CellSlot) → get symbols n ≡ Some slot → has_symbol (in_slot_order symbols) n ≡ true
  symbols-ordered n slot at =
      subst (λ (ns : List ℕ). has_symbol ns n ≡ true) (sym order_is) (found_value (rank slot, n) n standings (found_standing n slot at))

  -- numbers under different standings differ
  apart : (k : Standing × ℕ) (es : List (Standing × ℕ)) → find standing_cmp k.0 es ≡ None → IsStanding symbols k
      → All (IsStanding symbols) es
      → All (λ e. find standing_cmp e.0 es ≡ Some e.1) es → All (λ n. nat_eq k.1 n ≡ false) (map (λ e. e.1) es)
  apart k es none s stands found =
      All-map (λ n. nat_eq k.1 n ≡ false) (λ e. e.1) es
      (λ i d h. by _ (stands i d h) (found i d h) _ refl)
    where
      by : (e : Standing × ℕ) → IsStanding symbols e → find standing_cmp e.0 es ≡ Some e.1 → (b : Bool) → nat_eq k.1 e.1 ≡ b → b ≡ false
      by e t at true is =
          let number : k.1 ≡ e.1 = eqb-true k.1 e.1 is in
          let slots : Some s.slot ≡ Some t.slot = sym s.at ∙ ap (get symbols) number ∙ t.at in
          let slot : s.slot ≡ t.slot = cc in
          let same : k.0 ≡ e.0 = s.under ∙ (λ i. (rank (slot i), number i)) ∙ sym t.under in
          absurd (let no : ◌≡◌ {A = Option ℕ} None (Some e.1) = sym none ∙ ap (λ q. find standing_cmp q es) same ∙ at in cc)
      by e t at false is = refl

  all_apart : (es : List (Standing × ℕ)) → AreDistinct standing_cmp es → All (IsStanding symbols) es → IsDistinct nat_eq (map (λ e. e.1) es)
  unfolding IsDistinct
  all_apart [] h stands = tt
  all_apart (k ∷ es) h stands =
      let rest = All-tail (IsStanding symbols) k es stands in (
        recursion_from_All (λ n. nat_eq k.1 n ≡ false) (map (λ e. e.1) es)
            (apart k es h.0 (All-head (IsStanding symbols) k es stands) rest (found-distinct standings_total standings_exact es h.1)),
        all_apart es h.1 rest,
      )

  -- no number is twice in slot order
  pub order-distinct : IsDistinct nat_eq (in_slot_order symbols)
  unfolding standings
  order-distinct =
      subst (IsDistinct nat_eq) (sym order_is)
      (all_apart standings (entries-distinct standings_total standings_exact (by_slot_order (entries symbols))) all_standing)

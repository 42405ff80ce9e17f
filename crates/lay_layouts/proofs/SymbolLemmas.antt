-- The numbers of symbols by slots are distinct, so each is added behind the others.
use Rattle.std.proofs.Common.{◌≡◌, ◌∙◌, ◌++◌, ◌||◌, ℕ, Bool, true, false, List, [], ◌∷◌}
use Rattle.std.proofs.Common.{Option, Some, None, cond, refl, ap, sym, map, arith, nat_eq}
use Rattle.std.specs.declared.cmp.Ordering.TheVariants.{Equal, Less}
use Rattle.std.specs.Cmp.{Equal-is, eq_by_cmp_equiv}
use Rattle.std.specs.FinMap.{FinMap, entries, entries_sorted, find, get, get-entries, get-from_entries, is_sorted}
use Rattle.std.specs.List.{AllByRecursion, IsDistinct}
use Rattle.std.specs.List.Sorted.{IsStrictlySortedBy}
use Rattle.std.specs.Map.{keys_of}
use Rattle.std.specs.Ordering.{eq_by_cmp, is_eq, nat_cmp, ordering_then}
use Rattle.std.proofs.lemmas.Bool.Decides.{nat_tests}
use Rattle.std.proofs.lemmas.Map.Lookups.{exact_pairs, exact_unsigned}
use Rattle.lay_point.proofs.BoolLaws.{true_by_T}
use Rattle.lay_cells.specs.Symbols.{has_symbol, with_symbol}
use Rattle.lay_layouts.specs.declared.slot.CellSlot.{CellSlot}
use Rattle.lay_layouts.specs.SlotOrder.{Standing, by_slot_order, in_slot_order, rank, standing_cmp, standing_of}
use Rattle.lay_layouts.proofs.DistinctLemmas.{AreDistinct}
use Rattle.lay_layouts.proofs.MapLemmas.{sorted_keys}
use Rattle.lay_layouts.proofs.SlotLemmas.{find-standings, of_rank, sorted-distinct, standings_exact, standings_total}

rank_at : Option CellSlot → ℕ × ℕ
rank_at None = (0, 0)
rank_at (Some slot) = rank slot

-- what a number is ordered by
abbrev standing_at : FinMap nat_cmp CellSlot → ℕ → Standing
standing_at symbols n = (rank_at (get symbols n), n)

module _ (symbols : FinMap nat_cmp CellSlot) where
  -- a number that is found stands by its slot
  stands : (q : Standing) (n : ℕ) (o : Option CellSlot) → get symbols q.1 ≡ o → of_rank q.0 q.1 o ≡ Some n → q ≡ standing_at symbols n
  unfolding rank_at
  stands q n None is e = absurd cc
  stands q n (Some slot) is e =
      by_test (is_eq (ordering_then (nat_cmp q.0.0 (rank slot).0) (nat_cmp q.0.1 (rank slot).1))) refl e where
        by_test : (b : Bool) → is_eq (ordering_then (nat_cmp q.0.0 (rank slot).0) (nat_cmp q.0.1 (rank slot).1)) ≡ b
            → cond b (Some q.1) None ≡ Some n → q ≡ standing_at symbols n
        by_test true same e =
            let number : q.1 ≡ n = cc in
            let ranked : q.0 ≡ rank slot = exact_pairs nat_cmp nat_cmp exact_unsigned exact_unsigned q.0 (rank slot)
            ((Equal-is (ordering_then (nat_cmp q.0.0 (rank slot).0) (nat_cmp q.0.1 (rank slot).1))).0 same) in
            let place : q.0 ≡ rank_at (get symbols n) =
            ranked ∙ sym (ap rank_at (sym (ap (get symbols) number) ∙ is)) in
            (λ i. (place i, number i))
        by_test false same e = absurd cc

  -- all that are in the map of standings stand so
  all_stand : (es : List (Standing × ℕ)) → AreDistinct standing_cmp es
      → ((q : Standing) (n : ℕ) → find standing_cmp q es ≡ Some n → q ≡ standing_at symbols n)
      → AllByRecursion (λ (e : Standing × ℕ). e.0 ≡ standing_at symbols e.1) es
  all_stand [] h each = tt
  all_stand (e ∷ es) h each = (
    each e.0 e.1 (ap (λ b. cond b (Some e.1) (find standing_cmp e.0 es)) ((eq_by_cmp_equiv standings_total).refl e.0)),
    all_stand es h.1 (λ q n at. each q n (behind q n (eq_by_cmp standing_cmp q e.0) refl at)),
  ) where
    behind : (q : Standing) (n : ℕ) (b : Bool) → eq_by_cmp standing_cmp q e.0 ≡ b → find standing_cmp q es ≡ Some n
        → cond b (Some e.1) (find standing_cmp q es) ≡ Some n
    behind q n true is at =
        let none : find standing_cmp q es ≡ None =
        ap (λ k. find standing_cmp k es) (standings_exact q e.0 ((Equal-is (standing_cmp q e.0)).0 is)) ∙ h.0 in
        absurd cc
    behind q n false is at = at

  -- so their numbers are distinct
  numbers_distinct : (es : List (Standing × ℕ)) → IsStrictlySortedBy standing_cmp (keys_of es)
      → AllByRecursion (λ (e : Standing × ℕ). e.0 ≡ standing_at symbols e.1) es → IsDistinct nat_eq (map (λ (e : Standing × ℕ). e.1) es)
  unfolding IsStrictlySortedBy IsDistinct
  numbers_distinct [] sorted all = tt
  numbers_distinct (e ∷ es) sorted all = (others es sorted.0 all.1, numbers_distinct es sorted.1 all.1) where
    differ : (f : Standing × ℕ) → standing_cmp e.0 f.0 ≡ Less → f.0 ≡ standing_at symbols f.1 → (b : Bool) → nat_eq e.1 f.1 ≡ b → b ≡ false
    differ f less at false is = refl
    differ f less at true is =
        let number : e.1 ≡ f.1 = grind (arith, nat_tests) in
        let place : e.0 ≡ f.0 = all.0 ∙ ap (standing_at symbols) number ∙ sym at in
        let same : standing_cmp e.0 f.0 ≡ Equal =
        ap (standing_cmp e.0) (sym place) ∙ (Equal-is (standing_cmp e.0 e.0)).0 ((eq_by_cmp_equiv standings_total).refl e.0) in
        absurd cc

    others : (fs : List (Standing × ℕ)) → AllByRecursion (λ y. standing_cmp e.0 y ≡ Less) (keys_of fs)
        → AllByRecursion (λ (f : Standing × ℕ). f.0 ≡ standing_at symbols f.1) fs
        → AllByRecursion (λ y. nat_eq e.1 y ≡ false) (map (λ (f : Standing × ℕ). f.1) fs)
    others [] less at = tt
    others (f ∷ fs) less at = (differ f less.0 at.0 (nat_eq e.1 f.1) refl, others fs less.1 at.1)

  pub in_slot_order-distinct : IsDistinct nat_eq (in_slot_order symbols)
  unfolding in_slot_order
  in_slot_order-distinct =
      let m : FinMap standing_cmp ℕ = by_slot_order (entries symbols) in
      let sorted : is_sorted standing_cmp (entries m) ≡ true = true_by_T _ (entries_sorted m) in
      numbers_distinct (entries m) (sorted_keys standing_cmp (entries m) sorted)
      (all_stand (entries m) (sorted-distinct standing_cmp (entries m) sorted) (λ q n at.
      stands q n (get symbols q.1) refl (ap (of_rank q.0 q.1) (get-entries symbols q.1)
      ∙ sym (find-standings (entries symbols) q.0 q.1 (sorted-distinct nat_cmp (entries symbols) (true_by_T _ (entries_sorted symbols))))
      ∙ sym (get-from_entries standings_total (map standing_of (entries symbols)) q) ∙ get-entries m q ∙ at)))

  -- the standings are inserted in turn
  pub standings-distinct : (es : List (ℕ × CellSlot)) → AreDistinct nat_cmp es → AreDistinct standing_cmp (map standing_of es)
  standings-distinct [] h = tt
  standings-distinct (e ∷ es) h =
      (find-standings es (rank e.1) e.0 h.1 ∙ ap (of_rank (rank e.1) e.0) h.0, standings-distinct es h.1)

-- a number that is in no earlier place is added behind the others
pub with_symbol-new : (symbols : List ℕ) (n : ℕ) (rest : List ℕ) → IsDistinct nat_eq (symbols ++ n ∷ rest)
    → with_symbol symbols n ≡ symbols ++ n ∷ []
unfolding IsDistinct
with_symbol-new symbols n rest distinct = ap (λ b. cond b symbols (symbols ++ n ∷ [])) (absent symbols distinct) where
  first : (xs : List ℕ) (x : ℕ) → AllByRecursion (λ y. nat_eq x y ≡ false) (xs ++ n ∷ rest) → nat_eq x n ≡ false
  first [] x all = all.0
  first (y ∷ ys) x all = first ys x all.1

  turned : (x : ℕ) → nat_eq x n ≡ false → nat_eq n x ≡ false
  turned x e = grind (arith, nat_tests)

  absent : (xs : List ℕ) → IsDistinct nat_eq (xs ++ n ∷ rest) → has_symbol xs n ≡ false
  absent [] distinct = refl
  absent (x ∷ xs) distinct = ap (λ b. b || has_symbol xs n) (turned x (first xs x distinct.0)) ∙ absent xs distinct.1

-- The symbols of a list, in slots of a text, stand in the order of the list.
use Rattle.std.proofs.Common.{◌≡◌, ◌<◌, ℕ, ◌+◌, drop, get_or, length, Bool, true, false, ◌&&◌}
use Rattle.std.proofs.Common.{List, [], ◌∷◌, Option, Some, None, cond, refl, ap, sym, ◌∙◌, arith, map}
use Rattle.std.proofs.Common.{nat_eq}
use Rattle.std.specs.declared.cmp.Ordering.{Ordering}
use Rattle.std.specs.declared.cmp.Ordering.TheVariants.{Equal, Greater, Less}
use Rattle.std.specs.Cmp.{Equal-is, IsTotalOrder, eq_by_cmp_equiv, nat_cmp_is, nat_cmp_total}
use Rattle.std.specs.FinMap.{FinMap, IsAntisymmetric, insert, entries, entries_sorted}
use Rattle.std.specs.FinMap.{find, get-entries, get-from_entries, is_sorted, same_map, values}
use Rattle.std.specs.FinMap.Entries.{below_all}
use Rattle.std.specs.List.{AllByRecursion, IsDistinct}
use Rattle.std.specs.List.Sorted.{IsStrictlySortedBy}
use Rattle.std.specs.Map.{keys_of}
use Rattle.std.specs.Ordering.{eq_by_cmp, is_eq, is_lt, nat_cmp, ordering_then}
use Rattle.std.proofs.lemmas.Bool.{and_parts}
use Rattle.std.proofs.lemmas.Bool.Decides.{Decides-eqb, same_from_decides}
use Rattle.std.proofs.lemmas.Cmp.{on_total, then_total}
use Rattle.std.proofs.lemmas.List.{at_drop_more}
use Rattle.std.proofs.lemmas.Map.Lookups.{exact_pairs, exact_unsigned}
use Rattle.lay_point.proofs.BoolLaws.{true_by_T}
use Rattle.lay_layouts.specs.declared.slot.CellSlot.{CellSlot}
use Rattle.lay_layouts.specs.declared.slot.CellSlot.TheVariants.{Base}
use Rattle.lay_layouts.specs.Layout.{symbols_of}
use Rattle.lay_layouts.specs.LayoutWith.{placed_from}
use Rattle.lay_layouts.specs.SlotOrder.{by_slot_order, in_slot_order, rank, standing_cmp, standing_of}
use Rattle.lay_layouts.proofs.DistinctLemmas.{AreDistinct, inserted}
use Rattle.lay_layouts.proofs.MapLemmas.{entries_again}

pub standings_total : IsTotalOrder standing_cmp
standings_total =
    then_total (then_total (on_total (λ s. s.0.0) nat_cmp_total) (on_total (λ s. s.0.1) nat_cmp_total))
    (on_total (λ s. s.1) nat_cmp_total)

pub standings_exact : IsAntisymmetric standing_cmp
standings_exact = exact_pairs _ nat_cmp (exact_pairs nat_cmp nat_cmp exact_unsigned exact_unsigned) exact_unsigned

-- the number of the symbol in a slot, where that has this rank
abbrev pub of_rank : ℕ × ℕ → ℕ → Option CellSlot → Option ℕ
of_rank r n None = None
of_rank r n (Some slot) = cond (is_eq (ordering_then (nat_cmp r.0 (rank slot).0) (nat_cmp r.1 (rank slot).1))) (Some n) None

pub is_eq-then : (a b : Ordering) → is_eq (ordering_then a b) ≡ (is_eq a && is_eq b)
is_eq-then Less b = refl
is_eq-then Equal b = refl
is_eq-then Greater b = refl

-- with another number behind it, nothing is found
rank_alone : (same : Bool) (n m : ℕ) (rest : Option ℕ) → n ≡ m → rest ≡ None → cond (same && true) (Some m) rest ≡ cond same (Some n) None
rank_alone true n m rest e none = ap Some (sym e)
rank_alone false n m rest e none = none

other_number : (same : Bool) (x rest : Option ℕ) → cond (same && false) x rest ≡ rest
other_number true x rest = refl
other_number false x rest = refl

-- a symbol of a list with distinct numbers is found by its standing where its slot has that rank
pub find-standings : (es : List (ℕ × CellSlot)) (r : ℕ × ℕ) (n : ℕ) → AreDistinct nat_cmp es
    → find standing_cmp (r, n) (map standing_of es) ≡ of_rank r n (find nat_cmp n es)
find-standings [] r n h = refl
find-standings (e ∷ es) r n h =
    let by_rank : Ordering = ordering_then (nat_cmp r.0 (rank e.1).0) (nat_cmp r.1 (rank e.1).1) in
    let rest : Option ℕ = find standing_cmp (r, n) (map standing_of es) in
    ap (λ b. cond b (Some e.0) rest) (is_eq-then by_rank (nat_cmp n e.0))
    ∙ by_number (find-standings es r n h.1) (eq_by_cmp nat_cmp n e.0) refl where
      by_number : find standing_cmp (r, n) (map standing_of es) ≡ of_rank r n (find nat_cmp n es) → (b : Bool) → eq_by_cmp nat_cmp n e.0 ≡ b
          → cond (is_eq (ordering_then (nat_cmp r.0 (rank e.1).0) (nat_cmp r.1 (rank e.1).1)) && b) (Some e.0)
          (find standing_cmp (r, n) (map standing_of es))
          ≡ of_rank r n (cond b (Some e.1) (find nat_cmp n es))
      by_number behind true is =
          let same : n ≡ e.0 = exact_unsigned n e.0 ((Equal-is (nat_cmp n e.0)).0 is) in
          rank_alone _ n e.0 _ same (behind ∙ ap (of_rank r n) (ap (λ k. find nat_cmp k es) same ∙ h.0))
      by_number behind false is = other_number _ (Some e.0) _ ∙ behind

-- a key below all others isn't found among them
find-below : {K X : Type 0} (R : K → K → Ordering) (k : K) (es : List (K × X)) → below_all R k es ≡ true → find R k es ≡ None
find-below R k [] h = refl
find-below {K} {X} R k (e ∷ es) h =
    let both = and_parts (is_lt (R k e.0)) (below_all R k es) h in
    ap (λ o. cond (is_eq o) (Some e.1) (find R k es)) (less (R k e.0) both.0) ∙ find-below R k es both.1 where
      less : (o : Ordering) → is_lt o ≡ true → o ≡ Less
      less Less h = refl
      less Equal h = absurd cc
      less Greater h = absurd cc

-- keys in order are distinct
pub sorted-distinct : {K X : Type 0} (R : K → K → Ordering) (es : List (K × X)) → is_sorted R es ≡ true → AreDistinct R es
sorted-distinct R [] h = tt
sorted-distinct R (e ∷ es) h =
    let both = and_parts (below_all R e.0 es) (is_sorted R es) h in
    (find-below R e.0 es both.0, sorted-distinct R es both.1)

-- symbols by their standings, from their list or from the map of it
pub by_slot_order-entries : (es : List (ℕ × CellSlot)) → AreDistinct nat_cmp es → by_slot_order (entries (symbols_of es)) ≡ by_slot_order es
by_slot_order-entries es h =
    let m : FinMap nat_cmp CellSlot = symbols_of es in
    same_map standings_total standings_exact _ _ (λ q.
    get-from_entries standings_total (map standing_of (entries m)) q
    ∙ find-standings (entries m) q.0 q.1 (sorted-distinct nat_cmp (entries m) (true_by_T _ (entries_sorted m)))
    ∙ ap (of_rank q.0 q.1) (sym (get-entries m q.1) ∙ get-from_entries nat_cmp_total es q.1)
    ∙ sym (find-standings es q.0 q.1 h) ∙ sym (get-from_entries standings_total (map standing_of es) q))

-- symbols in order of their standings are in the order of their slots
in_slot_order-sorted : (es : List (ℕ × CellSlot)) → AreDistinct nat_cmp es → IsStrictlySortedBy standing_cmp (keys_of (map standing_of es))
    → in_slot_order (symbols_of es) ≡ map (λ e. e.1) (map standing_of es)
unfolding in_slot_order
in_slot_order-sorted es h sorted =
    ap values (by_slot_order-entries es h) ∙ ap (map (λ e. e.1)) (entries_again standing_cmp standings_total (map standing_of es) sorted)

pub lesser : (p q : ℕ) → p < q → nat_cmp p q ≡ Less
lesser p q h = sym (nat_cmp_is p q Less h)

-- a place before all others
place_first : (n p q : ℕ) (numbers : List ℕ) → p < q
    → AllByRecursion (λ y. standing_cmp ((0, p), n) y ≡ Less) (keys_of (map standing_of (placed_from q numbers)))
place_first n p q [] h = tt
place_first n p q (m ∷ numbers) h =
    (ap (λ o. ordering_then (ordering_then (nat_cmp 0 0) o) (nat_cmp n m)) (lesser p q h), place_first n p (q + 1) numbers (omega arith))

places_sorted : (p : ℕ) (numbers : List ℕ) → IsStrictlySortedBy standing_cmp (keys_of (map standing_of (placed_from p numbers)))
unfolding IsStrictlySortedBy
places_sorted p [] = tt
places_sorted p (n ∷ numbers) = (place_first n p (p + 1) numbers (omega arith), places_sorted (p + 1) numbers)

numbers_again : (p : ℕ) (numbers : List ℕ) → map (λ e. e.1) (map standing_of (placed_from p numbers)) ≡ numbers
numbers_again p [] = refl
numbers_again p (n ∷ numbers) = ap (λ ns. n ∷ ns) (numbers_again (p + 1) numbers)

unplaced : (n p : ℕ) (numbers : List ℕ) → AllByRecursion (λ y. nat_eq n y ≡ false) numbers → find nat_cmp n (placed_from p numbers) ≡ None
unplaced n p [] h = refl
unplaced n p (m ∷ numbers) h =
    ap (λ b. cond b (Some (Base p)) (find nat_cmp n (placed_from (p + 1) numbers))) (same_test n m ∙ h.0)
    ∙ unplaced n (p + 1) numbers h.1 where
      same_test : (n m : ℕ) → eq_by_cmp nat_cmp n m ≡ nat_eq n m
      same_test n m = same_from_decides (eq_by_cmp nat_cmp n m) (nat_eq n m) (
        λ e. exact_unsigned n m ((Equal-is (nat_cmp n m)).0 e),
        λ e. ap (eq_by_cmp nat_cmp n) (sym e) ∙ (eq_by_cmp_equiv nat_cmp_total).refl n,
      )
          (Decides-eqb n m)

-- symbols with distinct numbers are distinct
pub placed-distinct : (p : ℕ) (numbers : List ℕ) → IsDistinct nat_eq numbers → AreDistinct nat_cmp (placed_from p numbers)
unfolding IsDistinct
placed-distinct p [] h = tt
placed-distinct p (n ∷ numbers) h = (unplaced n (p + 1) numbers h.0, placed-distinct (p + 1) numbers h.1)

-- so they stand in the order of the list
pub in_slot_order-placed : (numbers : List ℕ) → IsDistinct nat_eq numbers → in_slot_order (symbols_of (placed_from 1 numbers)) ≡ numbers
in_slot_order-placed numbers h = in_slot_order-sorted (placed_from 1 numbers) (placed-distinct 1 numbers h) (places_sorted 1 numbers)
    ∙ numbers_again 1 numbers

-- no symbols stand in any order
pub in_slot_order-none : in_slot_order (symbols_of []) ≡ []
unfolding IsDistinct
in_slot_order-none = in_slot_order-placed [] tt

-- one symbol more of a list is inserted
pub placed_more : (old : FinMap nat_cmp CellSlot) (numbers : List ℕ) (p n place : ℕ) (whole : FinMap nat_cmp CellSlot) → p < length numbers
    → get_or numbers p n ≡ n → place ≡ p + 1 → inserted old (placed_from (p + 1) (drop p numbers)) ≡ whole
    → inserted (insert old n (Base place)) (placed_from (p + 1 + 1) (drop (p + 1) numbers)) ≡ whole
placed_more old numbers p n place whole h number is so_far =
    ap (λ k. inserted (insert old n (Base k)) (placed_from (p + 1 + 1) (drop (p + 1) numbers))) is
    ∙ ap (λ k. inserted (insert old k (Base (p + 1))) (placed_from (p + 1 + 1) (drop (p + 1) numbers))) (sym number)
    ∙ sym (at_drop_more (λ ns. inserted old (placed_from (p + 1) ns)) numbers p n h) ∙ so_far

-- The edges that cross a row, and their order.
use Rattle.std.proofs.Common.{◌≡◌, ◌≢◌, inl, inr, ℕ, zero, suc, ◌+◌, ◌<◌, Bool, true, false, cond, List, [], ◌∷◌, ◌++◌}
use Rattle.std.proofs.Common.{add-one, ◌≤◌, length, get_or, map, take, Contains, ℤ, ◌*ℤ◌, ◌≤ℤ◌, ◌<ℤ◌, refl, sym, ap, subst, ◌∙◌}
use Rattle.std.proofs.Common.{⊎_elim, arith}
use Rattle.std.specs.Prelude.{int_le, int_lt, nat_eq, All}
use Rattle.std.specs.Cmp.{IsStrictWeakOrder}
use Rattle.std.specs.List.{AllByRecursion, IsDistinct}
use Rattle.std.specs.List.Sorted.{IsPermutation, IsSortedBy}
use Rattle.std.specs.Ordering.{int_cmp, is_lt}
use Rattle.std.specs.declared.cmp.Ordering.TheVariants.{Equal, Greater, Less}
use Rattle.std.proofs.lemmas.Int.{ints}
use Rattle.std.proofs.lemmas.Bool.{and_parts, cases_lt}
use Rattle.std.proofs.lemmas.Bool.Decides.{nat_tests}
use Rattle.std.proofs.lemmas.List.{get_or_default, map-append}
use Rattle.std.proofs.lemmas.List.Elements.{All-push, recursion_from_All}
use Rattle.std.proofs.lemmas.List.Sorted.{All-permutation, Contains-permutation, IsPermutation-map}
use Rattle.std.proofs.lemmas.Map.Keys.{IsDistinct-IsPermutation}
use Rattle.lay_point.proofs.Signs.{below_or_same}
use Rattle.lay_point.proofs.Tests.{false_lt, le_true, lt_false, lt_true}
use Rattle.lay_point.specs.declared.point.Point.{Point}
use Rattle.lay_point.specs.Edges.{IsEdgeBefore}
use Rattle.lay_point.specs.Rising.{IsRising}
use Rattle.lay_point.proofs.EdgeOrder.{edges_are_strict}
use Rattle.lay_point.proofs.Members.{Has, contains, has}
use Rattle.lay_point.proofs.ListLaws.{before_by_number, has_get}
use Rattle.face_side_laws.proofs.Rows.{Spans, apart_in_row, fraction_le}
use Rattle.face_rows.proofs.UpwardLemmas.{up_meet}
use Rattle.snap_chains.specs.Rounded.{AreClean}
use Rattle.face_rows.specs.declared.crossing.Crossing.{Crossing}
use Rattle.face_rows.specs.Crossings.{IsCrossingOf, crossing_numbers}
use Rattle.face_rows.proofs.PickedLemmas.{picked_more, picked_passed}
use Rattle.face_rows.specs.Rows.{AreRowEdges, CrossesRow, IsLeftOf, crosses_row, crossing, rise, upward}

-- ---- tests
one_way_lt : (a b : ℤ) → int_lt a b ≡ true → int_lt b a ≡ false
one_way_lt a b h = grind (arith, ints)

pub spans_of : (row : ℤ) (e : Point × Point) → crosses_row row e ≡ true → Spans row (upward e)
spans_of row e h =
    let both = and_parts (int_le (upward e).0.y row) (int_lt row (upward e).1.y) h in
    record { low = le_true (upward e).0.y row both.0; high = lt_true row (upward e).1.y both.1 }

-- ---- elements by number
-- different numbers are of different edges
pub other_edge : (edges : List (Point × Point)) (m n : ℕ) (d : Point × Point) → IsRising IsEdgeBefore edges → m ≢ n
    → m < length edges → n < length edges → ¬ (get_or edges m d ≡ get_or edges n d)
other_edge edges m n d h apart inside_m inside_n same = ⊎_elim
    (λ (less : m < n). edges_are_strict.irreflexive (get_or edges m d)
    (subst (IsEdgeBefore (get_or edges m d)) (sym same) (before_by_number IsEdgeBefore edges_are_strict edges m n d h less inside_n)))
    (λ (le : n ≤ m). edges_are_strict.irreflexive (get_or edges n d)
    (subst (IsEdgeBefore (get_or edges n d)) same
    (before_by_number IsEdgeBefore edges_are_strict edges n m d h (below m n apart le) inside_m)))
    (cases_lt m n)
  where
    below : (m n : ℕ) → m ≢ n → n ≤ m → n < m
    below m n apart le = omega arith

-- ---- those that cross, in the order of the edges
-- the places of those of the first n edges that cross
pub record AreCrossings (edges : List (Point × Point)) (row : ℤ) (n : ℕ) (cs : List Crossing) : Type 0 where
  pub numbers : map (λ c. c.number) cs ≡ crossing_numbers row 0 (take n edges)
  pub places : All (IsCrossingOf edges row) cs

pub crossing_more : (edges : List (Point × Point)) (row : ℤ) (n : ℕ) (e : Point × Point) (old new : List Crossing) (c : Crossing)
    → n < length edges → e ≡ get_or edges n e → crosses_row row e ≡ true → c.number ≡ n → c.x ≡ crossing row e → c.rise ≡ rise e
    → new ≡ old ++ c ∷ [] → AreCrossings edges row n old → AreCrossings edges row (n + 1) new
crossing_more edges row n e old new c less is_e so number x up is_new h =
    let any : (d : Point × Point) → e ≡ get_or edges n d = λ d. is_e ∙ get_or_default edges n e d less in
    record {
      numbers = ap (map (λ z. z.number)) is_new ∙ map-append (λ (z : Crossing). z.number) old (c ∷ [])
          ∙ (λ i. h.numbers i ++ number i ∷ [])
          ∙ sym (picked_more (crosses_row row) (λ k f. k) edges n e less is_e so);
      places = subst (All (IsCrossingOf edges row)) (sym is_new) (All-push (IsCrossingOf edges row) old c h.places (record {
        given = subst (λ m. m < length edges) (sym number) less;
        crosses = λ d. subst (λ m. crosses_row row (get_or edges m d) ≡ true) (sym number)
            (subst (λ f. crosses_row row f ≡ true) (any d) so);
        x = λ d. x ∙ ap (crossing row) (any d) ∙ ap (λ m. crossing row (get_or edges m d)) (sym number);
        rise = λ d. up ∙ ap rise (any d) ∙ ap (λ m. rise (get_or edges m d)) (sym number);
      }));
    }

pub crossing_passed : (edges : List (Point × Point)) (row : ℤ) (n : ℕ) (e : Point × Point) (old : List Crossing)
    → n < length edges → e ≡ get_or edges n e → crosses_row row e ≡ false → AreCrossings edges row n old
    → AreCrossings edges row (n + 1) old
crossing_passed edges row n e old less is_e not_so h = record {
  numbers = h.numbers ∙ sym (picked_passed (crosses_row row) (λ k f. k) edges n e less is_e not_so);
  places = h.places;
}

-- ---- each number once
abbrev IsOtherThan : ℕ → ℕ → Type 0
IsOtherThan m n = nat_eq m n ≡ false

numbers_from : (row : ℤ) (n : ℕ) (es : List (Point × Point)) (m : ℕ) → m < n → AllByRecursion (IsOtherThan m) (crossing_numbers row n es)
numbers_from row n [] m less = tt
numbers_from row n (e ∷ es) m less = by_test (crosses_row row e) (numbers_from row (n + 1) es m (omega arith))
  where
    by_test : (b : Bool) → AllByRecursion (IsOtherThan m) (crossing_numbers row (n + 1) es)
        → AllByRecursion (IsOtherThan m) (cond b (n ∷ crossing_numbers row (n + 1) es) (crossing_numbers row (n + 1) es))
    by_test true h = (grind (arith, nat_tests), h)
    by_test false h = h

numbers_distinct : (row : ℤ) (n : ℕ) (es : List (Point × Point)) → IsDistinct nat_eq (crossing_numbers row n es)
unfolding IsDistinct
numbers_distinct row n [] = tt
numbers_distinct row n (e ∷ es) = by_test (crosses_row row e) (numbers_distinct row (n + 1) es)
  where
    by_test : (b : Bool) → IsDistinct nat_eq (crossing_numbers row (n + 1) es)
        → IsDistinct nat_eq (cond b (n ∷ crossing_numbers row (n + 1) es) (crossing_numbers row (n + 1) es))
    by_test true h = (numbers_from row (n + 1) es n (omega arith), h)
    by_test false h = h

numbers_have : (row : ℤ) (n : ℕ) (es : List (Point × Point)) (i : ℕ) → i < length es
    → ((d : Point × Point) → crosses_row row (get_or es i d) ≡ true) → Has (crossing_numbers row n es) (n + i)
numbers_have row n [] i less so = absurd (omega arith)
numbers_have row n (e ∷ es) zero less so = by_test (crosses_row row e) (so e)
  where
    by_test : (b : Bool) → b ≡ true
        → Has (cond b (n ∷ crossing_numbers row (n + 1) es) (crossing_numbers row (n + 1) es)) (n + zero)
    by_test true h = inl (omega arith)
    by_test false h = absurd cc
numbers_have row n (e ∷ es) (suc i) less so = by_test (crosses_row row e) (numbers_have row (n + 1) es i (omega arith) so)
  where
    same : (n + 1) + i ≡ n + suc i
    same = omega arith

    by_test : (b : Bool) → Has (crossing_numbers row (n + 1) es) ((n + 1) + i)
        → Has (cond b (n ∷ crossing_numbers row (n + 1) es) (crossing_numbers row (n + 1) es)) (n + suc i)
    by_test true h = inr (subst (Has (crossing_numbers row (n + 1) es)) same h)
    by_test false h = subst (Has (crossing_numbers row (n + 1) es)) same h

-- ---- in order
abbrev pub is_left : Crossing → Crossing → Bool
is_left a b = int_lt (b.rise *ℤ a.x) (a.rise *ℤ b.x)

pub compared : (p q : ℤ) → is_lt (int_cmp p q) ≡ int_lt p q
compared p q = by_tests (int_lt p q) (int_lt q p)
  where
    by_tests : (a b : Bool) → is_lt (cond a Less (cond b Greater Equal)) ≡ a
    by_tests true b = refl
    by_tests false true = refl
    by_tests false false = refl

pub ranks : IsStrictWeakOrder is_left
ranks = record {
  one_way = λ a b h. one_way_lt (b.rise *ℤ a.x) (a.rise *ℤ b.x) h;
  chain = λ a b c h g. false_lt (c.rise *ℤ a.x) (a.rise *ℤ c.x)
      (fraction_le c.rise c.x b.rise b.x a.rise a.x c.positive b.positive a.positive
      (lt_false (c.rise *ℤ b.x) (b.rise *ℤ c.x) g) (lt_false (b.rise *ℤ a.x) (a.rise *ℤ b.x) h));
}

module _ (edges : List (Point × Point)) (row : ℤ) (rising : IsRising IsEdgeBefore edges) (clean : AreClean edges) where
  pub left_of : (a b : Crossing) → IsCrossingOf edges row a → IsCrossingOf edges row b → nat_eq a.number b.number ≡ false → is_left b a ≡
      false
      → IsLeftOf edges row a.number b.number
  left_of a b ha hb apart sorted d =
      let e = get_or edges a.number d in
      let f = get_or edges b.number d in
      let other : ¬ (e ≡ f) = other_edge edges a.number b.number d rising (grind (arith, nat_tests)) ha.given hb.given in
      let meet = up_meet e f (clean e f (contains edges e (has_get edges a.number d ha.given))
      (contains edges f (has_get edges b.number d hb.given)) other) in
      let le : (b.rise *ℤ a.x) ≤ℤ (a.rise *ℤ b.x) = lt_false (a.rise *ℤ b.x) (b.rise *ℤ a.x) sorted in
      let here : (rise f *ℤ crossing row e) ≤ℤ (rise e *ℤ crossing row f) =
      coe 0 1 (i. (hb.rise d i *ℤ ha.x d i) ≤ℤ (ha.rise d i *ℤ hb.x d i)) le in
      ⊎_elim (λ (less : (rise f *ℤ crossing row e) <ℤ (rise e *ℤ crossing row f)). less)
      (λ (same : rise f *ℤ crossing row e ≡ rise e *ℤ crossing row f).
      absurd (apart_in_row row (upward e) (upward f) (spans_of row e (ha.crosses d)) (spans_of row f (hb.crosses d)) meet (sym same)))
      (below_or_same (rise f *ℤ crossing row e) (rise e *ℤ crossing row f) here)

  all_rising : (cs : List Crossing) → AllByRecursion (IsCrossingOf edges row) cs → IsDistinct nat_eq (map (λ c. c.number) cs)
      → ((k : ℕ) (d : Crossing) → suc k < length cs → is_left (get_or cs (suc k) d) (get_or cs k d) ≡ false)
      → IsRising (IsLeftOf edges row) (map (λ c. c.number) cs)
  unfolding IsDistinct
  all_rising [] all apart sorted = tt
  all_rising (a ∷ []) all apart sorted = tt
  all_rising (a ∷ b ∷ cs) all apart sorted = (
    left_of a b all.0 all.1.0 apart.0.0 (sorted zero a (omega arith)),
    all_rising (b ∷ cs) all.1 apart.1 (λ k d less. sorted (suc k) d (omega arith)),
  )

  pub crosses_of : (cs : List Crossing) (n : ℕ) → AllByRecursion (IsCrossingOf edges row) cs → Has (map (λ c. c.number) cs) n
      → CrossesRow edges row n
  crosses_of [] n all m = absurd m
  crosses_of (c ∷ cs) n all (inl same) = subst (CrossesRow edges row) same (all.0.given, all.0.crosses)
  crosses_of (c ∷ cs) n all (inr m) = crosses_of cs n all.1 m

  -- those that cross, sorted by their places, are the row's edges
  pub row_edges_of : (cs sorted : List Crossing) → map (λ c. c.number) cs ≡ crossing_numbers row 0 edges → All (IsCrossingOf edges row) cs
      → IsPermutation cs sorted → IsSortedBy is_left sorted → AreRowEdges edges row (map (λ c. c.number) sorted)
  row_edges_of cs sorted numbers places moved order =
      let all = recursion_from_All (IsCrossingOf edges row) sorted (All-permutation (IsCrossingOf edges row) cs sorted moved places) in
      let moved_numbers = IsPermutation-map (λ (c : Crossing). c.number) cs sorted moved in
      let apart : IsDistinct nat_eq (map (λ c. c.number) sorted) =
      IsDistinct-IsPermutation nat_eq flips (map (λ c. c.number) cs) (map (λ c. c.number) sorted) moved_numbers
      (subst (IsDistinct nat_eq) (sym numbers) (numbers_distinct row 0 edges)) in
      record {
        exact = λ n. (
          (λ m. crosses_of sorted n all (has (map (λ c. c.number) sorted) n m)),
          (λ g. Contains-permutation (map (λ c. c.number) cs) (map (λ c. c.number) sorted) n moved_numbers
              (subst (λ ns. Contains ns n) (sym numbers)
              (contains (crossing_numbers row 0 edges) n (from_zero n (numbers_have row 0 edges n g.0 g.1))))),
        );
        rising = all_rising sorted all apart (λ k d less. subst (λ m. is_left (get_or sorted m d) (get_or sorted k d) ≡ false) (add-one k)
            (order k d (omega arith) (omega arith)));
      }
    where
      flips : (m n : ℕ) → nat_eq m n ≡ nat_eq n m
      flips m n = grind (arith, nat_tests)

      from_zero : (n : ℕ) → Has (crossing_numbers row 0 edges) (0 + n) → Has (crossing_numbers row 0 edges) n
      from_zero n m = subst (Has (crossing_numbers row 0 edges)) (omega arith) m

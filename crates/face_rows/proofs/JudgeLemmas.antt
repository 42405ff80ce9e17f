-- Behind a gap of a row are the edges that are right of a place; so the shapes that an odd number of them lists are those
-- that hold at the place.
use Rattle.std.proofs.Common.{◌≡◌, ◌≢◌, inl, inr, ℕ, zero, suc, ◌+◌, ◌<◌, ◌≤◌, Bool, true, false, ◌&&◌, List, [], ◌∷◌}
use Rattle.std.proofs.Common.{length, get_or, drop, Contains, ℤ, pos, ◌*ℤ◌, ◌<ℤ◌, refl, sym, ap, ap₂, subst, ◌∙◌, ⊎_elim, arith}
use Rattle.std.specs.Prelude.{int_le, int_lt, nat_eq}
use Rattle.std.specs.List.{list_any, zip}
use Rattle.std.proofs.lemmas.Bool.{and_from, cases_lt}
use Rattle.std.proofs.lemmas.Bool.Decides.{Decides-eqb}
use Rattle.std.proofs.lemmas.List.{get_or_default}
use Rattle.std.specs.Cmp.{both_ways}
use Rattle.lay_point.proofs.Signs.{linear}
use Rattle.lay_point.proofs.Tests.{lt_true, true_le, true_lt}
use Rattle.lay_point.specs.declared.point.Point.{Point}
use Rattle.lay_point.specs.Edges.{IsEdgeBefore}
use Rattle.lay_point.specs.Parity.{xor, parity, distance_right, is_crossed}
use Rattle.lay_point.specs.Rising.{IsRising}
use Rattle.lay_point.proofs.Members.{Has, contains, has}
use Rattle.lay_point.proofs.Parity.{IsEquality, parity_of_occurrences}
use Rattle.lay_point.proofs.Rising.{IsStrictOrder, rising_rest}
use Rattle.lay_point.proofs.ListLaws.{before_by_number, has_get, has_number, number_has}
use Rattle.lay_point.proofs.NumberLaws.{numbers_are_strict}
use Rattle.face_side_laws.proofs.Rows.{IsInRow, Spans, beside, crossed_spans, fraction_lt, right_in_row, spans_crossed}
use Rattle.face_rows.proofs.UpwardLemmas.{up_crossed, up_meet, up_rises}
use Rattle.snap_chains.specs.declared.owner.Owner.{Owner}
use Rattle.snap_chains.specs.Rounded.{AreClean, Owned, is_owner_listed}
use Rattle.face_rows.specs.Labels.{Item, odd_of, owned_items}
use Rattle.face_rows.specs.Lines.{edge_at, nowhere, owners_at}
use Rattle.face_rows.specs.Rows.{AreRowEdges, CrossesRow, IsLeftOf, crosses_row, crossing, rise, upward}
use Rattle.face_rows.proofs.OwnerLemmas.{parity_any}
use Rattle.face_rows.proofs.RowLemmas.{other_edge, spans_of}

-- ---- lists by number
drop_has : (xs : List ℕ) (gap i : ℕ) → gap ≤ i → i < length xs → Has (drop gap xs) (get_or xs i 0)
drop_has [] gap i le less = absurd (omega arith)
drop_has (x ∷ xs) zero i le less = has_get (x ∷ xs) i 0 less
drop_has (x ∷ xs) (suc gap) zero le less = absurd (omega arith)
drop_has (x ∷ xs) (suc gap) (suc i) le less = drop_has xs gap i (omega arith) (omega arith)

pub record IsAt (xs : List ℕ) (gap n i : ℕ) : Type 0 where
  pub behind : gap ≤ i
  pub inside : i < length xs
  pub is : get_or xs i 0 ≡ n

has_at_zero : (xs : List ℕ) (n : ℕ) → Has xs n → (i : ℕ) × IsAt xs 0 n i
has_at_zero [] n m = absurd m
has_at_zero (x ∷ xs) n (inl same) = (zero, record { behind = omega arith; inside = omega arith; is = same })
has_at_zero (x ∷ xs) n (inr m) =
    let h = has_at_zero xs n m in
    let i = h.1 in
    (suc h.0, record { behind = omega arith; inside = omega (arith, i.inside); is = i.is })

pub has_drop : (xs : List ℕ) (gap n : ℕ) → Has (drop gap xs) n → (i : ℕ) × IsAt xs gap n i
has_drop [] zero n m = absurd m
has_drop [] (suc gap) n m = absurd m
has_drop (x ∷ xs) zero n m = has_at_zero (x ∷ xs) n m
has_drop (x ∷ xs) (suc gap) n m =
    let h = has_drop xs gap n m in
    let i = h.1 in
    (suc h.0, record { behind = omega (arith, i.behind); inside = omega (arith, i.inside); is = i.is })

rising_drop : (Before : ℕ → ℕ → Type 0) (xs : List ℕ) (gap : ℕ) → IsRising Before xs → IsRising Before (drop gap xs)
rising_drop Before [] zero h = tt
rising_drop Before [] (suc gap) h = tt
rising_drop Before (x ∷ xs) zero h = h
rising_drop Before (x ∷ xs) (suc gap) h = rising_drop Before xs gap (rising_rest Before x xs h)

-- the numbers from n on
abbrev pub numbers_from : ℕ → List (Point × Point) → List ℕ
numbers_from n [] = []
numbers_from n (e ∷ es) = n ∷ numbers_from (n + 1) es

pub below_rising : (n : ℕ) (es : List (Point × Point)) → IsRising (λ m k. m < k) (numbers_from n es)
below_rising n [] = tt
below_rising n (e ∷ []) = tt
below_rising n (e ∷ f ∷ es) = (omega arith, below_rising (n + 1) (f ∷ es))

pub numbers_have : (n : ℕ) (es : List (Point × Point)) (i : ℕ) → i < length es → Has (numbers_from n es) (n + i)
numbers_have n [] i less = absurd (omega arith)
numbers_have n (e ∷ es) zero less = inl (omega arith)
numbers_have n (e ∷ es) (suc i) less =
    let same : (n + 1) + i ≡ n + suc i = omega arith in
    inr (subst (Has (numbers_from (n + 1) es)) same (numbers_have (n + 1) es i (omega arith)))

numbers_in : (n : ℕ) (es : List (Point × Point)) (m : ℕ) → Has (numbers_from n es) m → (i : ℕ) × (i < length es) × (m ≡ n + i)
numbers_in n [] m h = absurd h
numbers_in n (e ∷ es) m (inl same) = (zero, omega arith, omega arith)
numbers_in n (e ∷ es) m (inr h) = let g = numbers_in (n + 1) es m h in (suc g.0, omega (arith, g.1), omega (arith, g.2))

-- a parity over items is one over their numbers
pub by_number : (f : Item → Bool) (g : ℕ → Bool) (n : ℕ) (es : List (Point × Point)) (os : List (List Owner)) → length os ≡ length es
    → ((i : ℕ) → i < length es → g (n + i) ≡ f (get_or es i nowhere, get_or os i [])) → parity g (numbers_from n es) ≡ parity f (zip es os)
by_number f g n [] os count same = refl
by_number f g n (e ∷ es) [] count same = absurd (omega arith)
by_number f g n (e ∷ es) (o ∷ os) count same =
    let first : n ≡ n + zero = omega arith in
    ap₂ xor (ap g first ∙ same zero (omega arith))
    (by_number f g (n + 1) es os (omega arith) (λ i less.
    let shifted : (n + 1) + i ≡ n + suc i = omega arith in ap g shifted ∙ same (suc i) (omega arith)))

pub nat_equality : IsEquality nat_eq
nat_equality = record {
  itself = λ m. (Decides-eqb m m).1 refl;
  apart = λ m n other. by_test (nat_eq m n) other (λ t. (Decides-eqb m n).0 t);
}
  where
    by_test : (b : Bool) {m n : ℕ} → ¬ (m ≡ n) → (b ≡ true → m ≡ n) → b ≡ false
    by_test true other same = absurd (other (same refl))
    by_test false other same = refl

-- ---- the order of a row
-- both cross the row, and the first does so left of the second
pub record IsBeforeIn (edges : List (Point × Point)) (row : ℤ) (m n : ℕ) : Type 0 where
  pub first : CrossesRow edges row m
  pub second : CrossesRow edges row n
  pub left : IsLeftOf edges row m n

rise_positive : (row : ℤ) (e : Point × Point) → crosses_row row e ≡ true → pos 0 <ℤ rise e
rise_positive row e h = let s = spans_of row e h in omega (arith, linear, s.low, s.high)

pub before_strict : (edges : List (Point × Point)) (row : ℤ) → IsStrictOrder (IsBeforeIn edges row)
before_strict edges row = record {
  irreflexive = λ m h. let less = h.left nowhere in omega (arith, linear, less);
  transitive = λ l m n h g. record {
    first = h.first;
    second = g.second;
    left = λ d.
        let e = get_or edges l d in
        let f = get_or edges m d in
        let k = get_or edges n d in
        fraction_lt (rise e) (crossing row e) (rise f) (crossing row f) (rise k) (crossing row k) (rise_positive row e (h.first.1 d))
        (rise_positive row f (h.second.1 d)) (rise_positive row k (g.second.1 d)) (h.left d) (g.left d);
  };
}

pub before_rising : (edges : List (Point × Point)) (row : ℤ) (ns : List ℕ) → ((n : ℕ) → Has ns n → CrossesRow edges row n)
    → IsRising (IsLeftOf edges row) ns → IsRising (IsBeforeIn edges row) ns
before_rising edges row [] all h = tt
before_rising edges row (m ∷ []) all h = tt
before_rising edges row (m ∷ n ∷ ns) all h = (
  record { first = all m (inl refl); second = all n (inr (inl refl)); left = h.0 },
  before_rising edges row (n ∷ ns) (λ k g. all k (inr g)) h.1,
)

-- ---- a place and its row
-- the edge is right of the place
abbrev pub is_right : ℤ → ℤ → ℤ → Owned → ℕ → Bool
is_right k x y r n = int_lt (pos 0) (distance_right k x y (upward (edge_at r n)).0 (upward (edge_at r n)).1)

module _ (r : Owned) (rising : IsRising IsEdgeBefore r.0) (paired : length r.1 ≡ length r.0) (clean : AreClean r.0) (row k x y : ℤ)
    (place : IsInRow row k y) (numbers : List ℕ) (edges : AreRowEdges r.0 row numbers) where
  abbrev right : ℕ → Bool
  right n = is_right k x y r n

  in_order : IsRising (IsBeforeIn r.0 row) numbers
  in_order = before_rising r.0 row numbers (λ n m. (edges.exact n).0 (contains numbers n m)) edges.rising

  far : (n : ℕ) → right n ≡ true → pos 0 <ℤ distance_right k x y (upward (edge_at r n)).0 (upward (edge_at r n)).1
  far n t = lt_true (pos 0) (distance_right k x y (upward (edge_at r n)).0 (upward (edge_at r n)).1) t

  -- with an edge all further right in its row are right of the place
  further : (m n : ℕ) → IsBeforeIn r.0 row m n → right m ≡ true → right n ≡ true
  further m n h t =
      let f = edge_at r m in
      let g = edge_at r n in
      let differ : m ≢ n = λ same. let less = h.left nowhere in
      let here : (rise g *ℤ crossing row g) <ℤ (rise g *ℤ crossing row g) =
      subst (λ l. (rise g *ℤ crossing row (edge_at r l)) <ℤ (rise (edge_at r l) *ℤ crossing row g)) same less in
      omega (arith, linear, here) in
      let other : ¬ (f ≡ g) = other_edge r.0 m n nowhere rising differ h.first.0 h.second.0 in
      let meet = up_meet f g
      (clean f g (contains r.0 f (has_get r.0 m nowhere h.first.0)) (contains r.0 g (has_get r.0 n nowhere h.second.0)) other) in
      true_lt (pos 0) (distance_right k x y (upward g).0 (upward g).1)
      (right_in_row row (upward f) (upward g) k x y (beside row k y place) (spans_of row f (h.first.1 nowhere))
      (spans_of row g (h.second.1 nowhere)) meet (record { less = h.left nowhere }) (far m t))

  module _ (gap : ℕ) (ends : (j : ℕ) → suc j ≡ gap → right (get_or numbers j 0) ≡ false)
      (begins : gap < length numbers → right (get_or numbers gap 0) ≡ true) where
    behind : (i : ℕ) → gap ≤ i → i < length numbers → right (get_or numbers i 0) ≡ true
    behind i le less = ⊎_elim
        (λ (after : gap < i). further (get_or numbers gap 0) (get_or numbers i 0)
        (before_by_number (IsBeforeIn r.0 row) (before_strict r.0 row) numbers gap i 0 in_order after less) (begins (omega arith)))
        (λ (ge : i ≤ gap). let same : gap ≡ i = omega arith in subst (λ l. right (get_or numbers l 0) ≡ true) same (begins (omega arith)))
        (cases_lt gap i)

    front : (i : ℕ) → i < gap → i < length numbers → gap ≤ length numbers → right (get_or numbers i 0) ≡ true → ⊥
    front i less inside bound t = by_gap gap refl
      where
        no_way : (b : Bool) → b ≡ true → b ≡ false → ⊥
        no_way b s f = absurd cc

        by_gap : (k : ℕ) → k ≡ gap → ⊥
        by_gap zero same = omega arith
        by_gap (suc k) same = no_way (right (get_or numbers k 0)) (⊎_elim
            (λ (before : i < k). further (get_or numbers i 0) (get_or numbers k 0)
            (before_by_number (IsBeforeIn r.0 row) (before_strict r.0 row) numbers i k 0 in_order before (omega arith)) t)
            (λ (ge : k ≤ i). let here : i ≡ k = omega arith in subst (λ j. right (get_or numbers j 0) ≡ true) here t)
            (cases_lt i k)) (ends k same)

    -- behind the gap is exactly what the place's half line crosses
    behind_crossed : gap ≤ length numbers → (n : ℕ) → n < length r.0
        → parity (nat_eq n) (drop gap numbers) ≡ is_crossed k x y (edge_at r n)
    behind_crossed bound n inside =
        parity_any (IsBeforeIn r.0 row) (before_strict r.0 row) (nat_eq n) (drop gap numbers)
        (rising_drop (IsBeforeIn r.0 row) numbers gap in_order)
        (λ l m h t. nat_equality.apart n m (λ same. (before_strict r.0 row).irreflexive l
        (subst (IsBeforeIn r.0 row l) (sym same ∙ (Decides-eqb n l).0 t) h)))
        ∙ both_ways (list_any (nat_eq n) (drop gap numbers)) (is_crossed k x y (edge_at r n))
        (λ t.
        let found = has_drop numbers gap n (number_has (drop gap numbers) n t) in
        let i = found.1 in
        let f = edge_at r n in
        let there : right n ≡ true = subst (λ k. right k ≡ true) i.is (behind found.0 i.behind i.inside) in
        let member : Contains numbers n =
        subst (Contains numbers) i.is (contains numbers (get_or numbers found.0 0) (has_get numbers found.0 0 i.inside)) in
        sym (up_crossed k x y f)
        ∙ spans_crossed row k x y (upward f) place (spans_of row f (((edges.exact n).0 member).1 nowhere)) (far n there))
        (λ t.
        let f = edge_at r n in
        let c = crossed_spans row k x y (upward f) place (up_rises f)
        (up_crossed k x y f ∙ t) in
        let there : right n ≡ true = true_lt (pos 0) (distance_right k x y (upward f).0 (upward f).1) c.1 in
        let member = has_at_zero numbers n (has numbers n ((edges.exact n).1 (
          inside,
          λ d. subst (λ g. crosses_row row g ≡ true)
              (get_or_default r.0 n nowhere d inside) (spans_test row f c.0),
        ))) in
        let i = member.1 in
        has_number (drop gap numbers) n (⊎_elim
        (λ (less : member.0 < gap). absurd (front member.0 less i.inside bound (subst (λ k. right k ≡ true) (sym i.is) there)))
        (λ (le : gap ≤ member.0). subst (Has (drop gap numbers)) i.is (drop_has numbers gap member.0 le i.inside))
        (cases_lt member.0 gap)))
      where
        spans_test : (y : ℤ) (f : Point × Point) → Spans y (upward f) → crosses_row y f ≡ true
        spans_test y f s =
            and_from (int_le (upward f).0.y y) (int_lt y (upward f).1.y) (true_le (upward f).0.y y s.low) (true_lt y (upward f).1.y s.high)

    pub odd_behind : gap ≤ length numbers → (o : Owner)
        → parity (λ n. is_owner_listed o (owners_at r n)) (drop gap numbers) ≡ odd_of (owned_items r) o k x y
    odd_behind bound o =
        sym (parity_of_occurrences (λ m n. m < n) numbers_are_strict nat_eq nat_equality
        (λ n. is_owner_listed o (owners_at r n)) (numbers_from 0 r.0)
        (drop gap numbers) (below_rising 0 r.0) given)
        ∙ by_number (λ p. is_owner_listed o p.1 && is_crossed k x y p.0)
        (λ n. parity (nat_eq n) (drop gap numbers) && is_owner_listed o (owners_at r n)) 0 r.0 r.1 paired (λ i less.
        let same : 0 + i ≡ i = omega arith in
        ap (λ n. parity (nat_eq n) (drop gap numbers) && is_owner_listed o (owners_at r n)) same
        ∙ ap (λ b. b && is_owner_listed o (owners_at r i)) (behind_crossed bound i less)
        ∙ and_turned (is_crossed k x y (edge_at r i)) (is_owner_listed o (owners_at r i)))
      where
        and_turned : (a b : Bool) → (a && b) ≡ (b && a)
        and_turned true true = refl
        and_turned true false = refl
        and_turned false true = refl
        and_turned false false = refl

        given : (n : ℕ) → Has (drop gap numbers) n → Has (numbers_from 0 r.0) n
        given n m =
            let found = has_drop numbers gap n m in
            let i = found.1 in
            let member : Contains numbers n =
            subst (Contains numbers) i.is (contains numbers (get_or numbers found.0 0) (has_get numbers found.0 0 i.inside)) in
            let same : 0 + n ≡ n = omega arith in
            subst (Has (numbers_from 0 r.0)) same (numbers_have 0 r.0 n ((edges.exact n).0 member).0)

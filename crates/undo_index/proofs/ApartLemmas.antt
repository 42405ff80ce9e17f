-- Lists of places: brought in order, and compared.
use Rattle.std.proofs.Common.{◌≡◌, ℕ, ◌<◌, ◌==◌, Bool, true, false, cond, ◌||◌, List, [], ◌∷◌, ◌++◌, map, Option, Some}
use Rattle.std.proofs.Common.{refl, sym, ap, subst, ◌∙◌, arith}
use Rattle.std.specs.Prelude.{nat_lt}
use Rattle.std.proofs.lemmas.Bool.Decides.{Decides-eqb, nat_tests}
use Rattle.std.proofs.lemmas.Cmp.{nat_cmp_total, ranked}
use Rattle.std.proofs.lemmas.List.Filters.{dedup_is}
use Rattle.std.proofs.lemmas.List.Folds.{list_any-append}
use Rattle.std.proofs.lemmas.List.Kept.{IsStrictlySortedBy-dedup}
use Rattle.std.specs.declared.cmp.Ordering.TheVariants.{Less}
use Rattle.std.specs.Cmp.{unsigned_ties}
use Rattle.std.specs.List.{AllByRecursion, list_any}
use Rattle.std.specs.List.Retain.{DiffersFromLast, IsFiltered}
use Rattle.std.specs.List.Sorted.{IsPermutation, IsSorted, IsStrictlySortedBy}
use Rattle.std.specs.Ordering.{nat_cmp}
use Rattle.undo_index.specs.First.{IsFirst, first_of, has_place, is_apart, lesser}
use Rattle.undo_index.proofs.FirstLemmas.{first_alike}
use Rattle.txn_marks.proofs.OnceLemmas.{once_each}

-- ---- places gathered

has_pairs : {X : Type 0} (ks : List (X × ℕ)) (p : ℕ) → has_place (map (λ k. k.1) ks) p ≡ list_any (λ k. p == k.1) ks
has_pairs [] p = refl
has_pairs (k ∷ ks) p = ap (λ b. (p == k.1) || b) (has_pairs ks p)

-- the places of pairs behind others
pub has_more : {X : Type 0} (ps : List ℕ) (ks : List (X × ℕ)) (p : ℕ) →
    has_place (ps ++ map (λ k. k.1) ks) p ≡ (has_place ps p || list_any (λ k. p == k.1) ks)
has_more ps ks p =
    list_any-append (λ place. p == place) ps (map (λ k. k.1) ks) ∙ ap (λ b. has_place ps p || b) (has_pairs ks p)

-- ---- brought in order

pub order_has : (all sorted once : List ℕ) → IsPermutation all sorted → IsFiltered (DiffersFromLast (λ x y. x == y)) [] sorted once →
    (p : ℕ) → has_place once p ≡ has_place all p
order_has = once_each (λ x y. x == y) (λ x y. (Decides-eqb x y).0)

pub order_rises : (sorted once : List ℕ) → IsSorted nat_cmp sorted → IsFiltered (DiffersFromLast (λ x y. x == y)) [] sorted once →
    IsStrictlySortedBy nat_cmp once
order_rises sorted once order filtered =
    subst (IsStrictlySortedBy nat_cmp) (sym (dedup_is (λ x y. x == y) sorted once filtered))
    (IsStrictlySortedBy-dedup nat_cmp_total unsigned_ties sorted order)

-- ---- places that rise

pub above : (a : ℕ) (ks : List ℕ) → AllByRecursion (λ y. nat_cmp a y ≡ Less) ks → AllByRecursion (λ j. a < j) ks
above a [] all = tt
above a (k ∷ ks) all = (ranked a k Less (sym all.0), above a ks all.1)

-- below them all is what is below the first
pub further : (ks : List ℕ) (n k : ℕ) → n < k → AllByRecursion (λ j. k < j) ks → AllByRecursion (λ j. n < j) ks
further [] n k less all = tt
further (j ∷ js) n k less all = (omega (arith, less, all.0), further js n k less all.1)

other_place : (p k : ℕ) → p < k → (p == k) ≡ false
other_place p k less = by (p == k) refl where
  by : (b : Bool) → (p == k) ≡ b → b ≡ false
  by true is = let same : p ≡ k = (Decides-eqb p k).0 is in absurd (omega (arith, same, less))
  by false is = refl

-- no place below them all is one of them
pub below_all : (n : ℕ) (ks : List ℕ) → AllByRecursion (λ k. n < k) ks → has_place ks n ≡ false
below_all n [] all = refl
below_all n (k ∷ ks) all = λ i. other_place n k all.0 i || below_all n ks all.1 i

before_all : (p k : ℕ) (ks : List ℕ) → p < k → AllByRecursion (λ j. k < j) ks → has_place (k ∷ ks) p ≡ false
before_all p k ks less all = below_all p (k ∷ ks) (less, further ks p k less all)

pub own_place : (k : ℕ) (ks : List ℕ) → has_place (k ∷ ks) k ≡ true
own_place k ks = ap (λ b. b || has_place ks k) ((Decides-eqb k k).1 refl)

-- ---- compared

-- the first place that one of two rising lists has alone, by their fronts
abbrev pub apart_of : List ℕ → List ℕ → Option ℕ
apart_of [] other = first_of other
apart_of (x ∷ xs) [] = Some x
apart_of (x ∷ xs) (y ∷ ys) = cond (y == x) (apart_of xs ys) (lesser (Some x) (Some y))

-- a place that the first has alone, where neither has one below it
abbrev pub IsAlone : (ℕ → Bool) → (ℕ → Bool) → ℕ → Type 0
IsAlone one other a = (one a ≡ true) × (other a ≡ false) × ((p : ℕ) → p < a → one p ≡ false) × ((p : ℕ) → p < a → other p ≡ false)

one_first : (one other : ℕ → Bool) (a : ℕ) → IsAlone one other a → IsFirst (λ p. is_apart (one p) (other p)) 0 (Some a)
one_first one other a alone = (
  omega arith,
  (λ i. is_apart (alone.0 i) (alone.1 i)),
  λ p low less i. is_apart (alone.2 p less i) (alone.3 p less i),
)

other_first : (one other : ℕ → Bool) (a : ℕ) → IsAlone other one a → IsFirst (λ p. is_apart (one p) (other p)) 0 (Some a)
other_first one other a alone = (
  omega arith,
  (λ i. is_apart (alone.1 i) (alone.0 i)),
  λ p low less i. is_apart (alone.3 p less i) (alone.2 p less i),
)

-- a front that both have tells them not apart
both_have : (k : ℕ) (xs ys : List ℕ) → AllByRecursion (λ j. k < j) xs → AllByRecursion (λ j. k < j) ys → (p : ℕ) →
    is_apart (has_place xs p) (has_place ys p) ≡ is_apart (has_place (k ∷ xs) p) (has_place (k ∷ ys) p)
both_have k xs ys one other p = by (p == k) refl where
  by : (b : Bool) → (p == k) ≡ b → is_apart (has_place xs p) (has_place ys p) ≡ is_apart (b || has_place xs p) (b || has_place ys p)
  by true is =
      let same : p ≡ k = (Decides-eqb p k).0 is in
      ap (λ q. is_apart (has_place xs q) (has_place ys q)) same ∙ (λ i. is_apart (below_all k xs one i) (below_all k ys other i))
  by false is = refl

pub apart_first : (xs ys : List ℕ) → IsStrictlySortedBy nat_cmp xs → IsStrictlySortedBy nat_cmp ys →
    IsFirst (λ p. is_apart (has_place xs p) (has_place ys p)) 0 (apart_of xs ys)
unfolding IsStrictlySortedBy
apart_first [] [] one other = λ p low. refl
apart_first [] (y ∷ ys) one other =
    other_first (has_place []) (has_place (y ∷ ys)) y
    (own_place y ys, refl, (λ p less. before_all p y ys less (above y ys other.0)), λ p less. refl)
apart_first (x ∷ xs) [] one other =
    one_first (has_place (x ∷ xs)) (has_place []) x
    (own_place x xs, refl, (λ p less. before_all p x xs less (above x xs one.0)), λ p less. refl)
apart_first (x ∷ xs) (y ∷ ys) one other = by (y == x) refl (nat_lt y x) refl (apart_first xs ys one.1 other.1) where
  Goal : Option ℕ → Type 0
  Goal = IsFirst (λ p. is_apart (has_place (x ∷ xs) p) (has_place (y ∷ ys) p)) 0

  far_x : AllByRecursion (λ j. x < j) xs
  far_x = above x xs one.0

  far_y : AllByRecursion (λ j. y < j) ys
  far_y = above y ys other.0

  by : (b : Bool) → (y == x) ≡ b → (c : Bool) → nat_lt y x ≡ c →
      IsFirst (λ p. is_apart (has_place xs p) (has_place ys p)) 0 (apart_of xs ys)
      → Goal (cond b (apart_of xs ys) (cond c (Some y) (Some x)))
  by true is c less rest =
      let same : y ≡ x = (Decides-eqb y x).0 is in
      subst (λ k. IsFirst (λ p. is_apart (has_place (x ∷ xs) p) (has_place (k ∷ ys) p)) 0 (apart_of xs ys)) (sym same)
      (first_alike (λ p. is_apart (has_place xs p) (has_place ys p))
      (λ p. is_apart (has_place (x ∷ xs) p) (has_place (x ∷ ys) p)) 0 (apart_of xs ys)
      (both_have x xs ys far_x (subst (λ k. AllByRecursion (λ j. k < j) ys) same far_y))
      rest)
  by false is true less rest =
      let below : y < x = grind (arith, nat_tests, less) in
      other_first (has_place (x ∷ xs)) (has_place (y ∷ ys)) y (
        own_place y ys,
        before_all y x xs below far_x,
        (λ p low. before_all p y ys low far_y),
        λ p low. before_all p x xs (omega (arith, low, below)) far_x,
      )
  by false is false less rest =
      let below : x < y = grind (arith, nat_tests, less, is) in
      one_first (has_place (x ∷ xs)) (has_place (y ∷ ys)) x (
        own_place x xs,
        before_all x y ys below far_y,
        (λ p low. before_all p x xs low far_x),
        λ p low. before_all p y ys (omega (arith, low, below)) far_y,
      )

-- ---- as they are compared

pub unequal : (a b : ℕ) → (a ≡ b → ⊥) → (a == b) ≡ false
unequal a b apart = by (a == b) refl where
  by : (t : Bool) → (a == b) ≡ t → t ≡ false
  by true is = absurd (apart ((Decides-eqb a b).0 is))
  by false is = refl

module _ (one other : List ℕ) (sorted : IsStrictlySortedBy nat_cmp one) (ordered : IsStrictlySortedBy nat_cmp other) where
  abbrev pub IsTheirs : Option ℕ → Type 0
  IsTheirs = IsFirst (λ p. is_apart (has_place one p) (has_place other p)) 0

  pub all_left : (rest left : List ℕ) (result : Option ℕ) → apart_of rest left ≡ apart_of one other → apart_of rest left ≡ result →
      IsTheirs result
  all_left rest left result leaves is = subst IsTheirs (sym leaves ∙ is) (apart_first one other sorted ordered)

  pub one_ends : (rest left : List ℕ) → apart_of rest left ≡ apart_of one other → rest ≡ [] → IsTheirs (first_of left)
  one_ends rest left leaves none = all_left rest left (first_of left) leaves (ap (λ r. apart_of r left) none)

  pub other_ends : (rest left : List ℕ) (x : ℕ) (xs : List ℕ) → apart_of rest left ≡ apart_of one other → rest ≡ x ∷ xs → left ≡ [] →
      IsTheirs (lesser (Some x) (first_of left))
  other_ends rest left x xs leaves at none =
      all_left rest left (lesser (Some x) (first_of left)) leaves
      ((λ i. apart_of (at i) (none i)) ∙ sym (ap (λ l. lesser (Some x) (first_of l)) none))

  pub fronts_differ : (rest left : List ℕ) (x : ℕ) (xs : List ℕ) (y : ℕ) (ys : List ℕ) → apart_of rest left ≡ apart_of one other →
      rest ≡ x ∷ xs → left ≡ y ∷ ys → (y == x) ≡ false → IsTheirs (lesser (Some x) (first_of left))
  fronts_differ rest left x xs y ys leaves at is apart =
      all_left rest left (lesser (Some x) (first_of left)) leaves
      ((λ i. apart_of (at i) (is i)) ∙ ap (λ b. cond b (apart_of xs ys) (lesser (Some x) (Some y))) apart
      ∙ sym (ap (λ l. lesser (Some x) (first_of l)) is))

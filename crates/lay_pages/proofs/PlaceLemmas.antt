-- Which of the joined lists a write falls into.
use Rattle.std.proofs.Common.{◌⊎◌, inl, inr}
use Rattle.std.proofs.Common.{◌≡◌, ◌∙◌, ◌<◌, ◌≤◌, ◌++◌, ℕ, zero, suc, List, [], ◌∷◌}
use Rattle.std.proofs.Common.{append_assoc, refl, ap, sym, take, drop, length, get_or, arith, subst}
use Rattle.std.specs.declared.cmp.Ordering.{Ordering}
use Rattle.std.specs.declared.cmp.Ordering.TheVariants.{Equal, Greater, Less}
use Rattle.std.specs.Cmp.{IsTotalOrder}
use Rattle.std.specs.FinMap.{IsAntisymmetric}
use Rattle.std.specs.List.{AllByRecursion}
use Rattle.std.specs.List.Sorted.{IsStrictlySortedBy}
use Rattle.std.specs.Map.{keys_of}
use Rattle.lay_pages.specs.Shared.{AreSized, joined}
use Rattle.lay_pages.specs.Written.{AllAbove, AllBelow, IsFirstKey}
use Rattle.lay_pages.proofs.SearchLemmas.{turned}

-- one of the lists, and those on both sides of it
pub joined-at : {A : Type 0} (cs : List (List A)) (at : ℕ) (d : List A) → at < length cs
    → joined cs ≡ joined (take at cs) ++ (get_or cs at d ++ joined (drop (suc at) cs))
joined-at [] at d lt = absurd (omega arith)
joined-at (c ∷ cs) zero d lt = refl
joined-at (c ∷ cs) (suc at) d lt =
    ap (λ xs. c ++ xs) (joined-at cs at d (omega arith))
    ∙ sym (append_assoc c (joined (take at cs)) (get_or cs at d ++ joined (drop (suc at) cs)))

pub joined-from : {A : Type 0} (cs : List (List A)) (at : ℕ) (d : List A) → at < length cs
    → joined (drop at cs) ≡ get_or cs at d ++ joined (drop (suc at) cs)
joined-from [] at d lt = absurd (omega arith)
joined-from (c ∷ cs) zero d lt = refl
joined-from (c ∷ cs) (suc at) d lt = joined-from cs at d (omega arith)

module _ {K X : Type 0} {R : K → K → Ordering} (total : IsTotalOrder R) (exact : IsAntisymmetric R) where
  of-mid : (P : K → Type 0) (low : List (K × X)) (e : K × X) (high : List (K × X)) → AllByRecursion P (keys_of (low ++ e ∷ high)) → P e.0
  of-mid P [] e high all = all.0
  of-mid P (x ∷ low) e high all = of-mid P low e high all.1

  -- entries before one at or below the key
  pub before-head : (k : K) (low : List (K × X)) (e : K × X) (high : List (K × X)) → IsStrictlySortedBy R (keys_of (low ++ e ∷ high))
      → (o : Ordering) → R e.0 k ≡ o → (o ≡ Less) ⊎ (o ≡ Equal) → AllBelow R k low
  unfolding IsStrictlySortedBy
  before-head k [] e high sorted o is at_most = tt
  before-head k (x ∷ low) e high sorted o is at_most =
      (by at_most (of-mid (λ y. R x.0 y ≡ Less) low e high sorted.0), before-head k low e high sorted.1 o is at_most)
    where
      by : (o ≡ Less) ⊎ (o ≡ Equal) → R x.0 e.0 ≡ Less → R x.0 k ≡ Less
      by (inl less) first = total.trans x.0 e.0 k first (is ∙ less)
      by (inr equal) first = ap (R x.0) (sym (exact e.0 k (is ∙ equal))) ∙ first

  -- entries from one above the key on
  pub after-head : (k : K) (e : K × X) (high : List (K × X)) → IsStrictlySortedBy R (keys_of (e ∷ high)) → R k e.0 ≡ Less
      → AllAbove R k (e ∷ high)
  unfolding IsStrictlySortedBy
  after-head k e high sorted less = (less, all high sorted.0) where
    all : (fs : List (K × X)) → AllByRecursion (λ y. R e.0 y ≡ Less) (keys_of fs) → AllAbove R k fs
    all [] h = tt
    all (f ∷ fs) h = (total.trans k e.0 f.0 less h.0, all fs h.1)

-- what is so of all is so of one of them
pub all-at : {A : Type 0} (P : A → Type 0) (xs : List A) (at : ℕ) (d : A) → at < length xs → AllByRecursion P xs → P (get_or xs at d)
all-at P [] at d lt all = absurd (omega arith)
all-at P (x ∷ xs) zero d lt all = all.0
all-at P (x ∷ xs) (suc at) d lt all = all-at P xs at d (omega arith) all.1

pub sized-at : {A : Type 0} (cs : List (List A)) (at : ℕ) (d : List A) → at < length cs → AreSized cs
    → (1 ≤ length (get_or cs at d)) × (length (get_or cs at d) ≤ 64)
sized-at {A} cs at d lt sized = all-at (λ (xs : List A). (1 ≤ length xs) × (length xs ≤ 64)) cs at d lt sized

-- entries in order are in order from any of them on
pub sorted-right : {K X : Type 0} (R : K → K → Ordering) (low high : List (K × X)) → IsStrictlySortedBy R (keys_of (low ++ high))
    → IsStrictlySortedBy R (keys_of high)
unfolding IsStrictlySortedBy
sorted-right R [] high sorted = sorted
sorted-right R (e ∷ low) high sorted = sorted-right R low high sorted.1

module _ {K X : Type 0} {R : K → K → Ordering} (total : IsTotalOrder R) (exact : IsAntisymmetric R) where
  first-of : (k first : K) (low es high : List (K × X)) → IsFirstKey first es → IsStrictlySortedBy R (keys_of (low ++ (es ++ high)))
      → (o : Ordering) → R first k ≡ o → (o ≡ Greater → ⊥) → AllBelow R k low
  first-of k first low [] high none sorted o is at_most = absurd none
  first-of k first low (e ∷ es) high head sorted o is at_most =
      before-head total exact k low e (es ++ high) sorted o (ap (λ q. R q k) head ∙ is) (by o at_most) where
        by : (o : Ordering) → (o ≡ Greater → ⊥) → (o ≡ Less) ⊎ (o ≡ Equal)
        by Less h = inl refl
        by Equal h = inr refl
        by Greater h = absurd (h refl)

  from-first : (k first : K) (low es high : List (K × X)) → IsFirstKey first es → IsStrictlySortedBy R (keys_of (low ++ (es ++ high)))
      → R first k ≡ Greater → AllAbove R k (es ++ high)
  from-first k first low [] high none sorted is = absurd none
  from-first k first low (e ∷ es) high head sorted is =
      after-head total exact k e (es ++ high) (sorted-right R low (e ∷ (es ++ high)) sorted)
      (turned total e.0 k Greater (ap (λ q. R q k) head ∙ is))

  -- halving: the first of the lists that are left is moved
  pub low-moves : (k first : K) (cs : List (List (K × X))) (at : ℕ) (d : List (K × X)) → at < length cs
      → IsStrictlySortedBy R (keys_of (joined cs)) → IsFirstKey first (get_or cs at d) → (R first k ≡ Greater → ⊥)
      → AllBelow R k (joined (take at cs))
  low-moves k first cs at d lt sorted head at_most =
      first-of k first (joined (take at cs)) (get_or cs at d) (joined (drop (suc at) cs)) head
      (subst (λ (es : List (K × X)). IsStrictlySortedBy R (keys_of es)) (joined-at cs at d lt) sorted) (R first k) refl at_most

  -- the end of them is
  pub high-moves : (k first : K) (cs : List (List (K × X))) (at : ℕ) (d : List (K × X)) → at < length cs
      → IsStrictlySortedBy R (keys_of (joined cs)) → IsFirstKey first (get_or cs at d) → R first k ≡ Greater
      → AllAbove R k (joined (drop at cs))
  high-moves k first cs at d lt sorted head is =
      subst (λ (es : List (K × X)). AllAbove R k es) (sym (joined-from cs at d lt))
      (from-first k first (joined (take at cs)) (get_or cs at d) (joined (drop (suc at) cs)) head
      (subst (λ (es : List (K × X)). IsStrictlySortedBy R (keys_of es)) (joined-at cs at d lt) sorted) is)

-- the first key of joined lists
pub head-joined : {K X : Type 0} (k : K) (lists : List (List (K × X))) → IsFirstKey k (get_or lists 0 []) → IsFirstKey k (joined lists)
head-joined k [] head = head
head-joined k ([] ∷ lists) head = absurd head
head-joined k ((e ∷ es) ∷ lists) head = head

pub sorted-left : {K X : Type 0} (R : K → K → Ordering) (low high : List (K × X)) → IsStrictlySortedBy R (keys_of (low ++ high))
    → IsStrictlySortedBy R (keys_of low)
unfolding IsStrictlySortedBy
sorted-left R [] high sorted = tt
sorted-left {K} {X} R (e ∷ low) high sorted = (all low sorted.0, sorted-left R low high sorted.1) where
  all : (es : List (K × X)) → AllByRecursion (λ y. R e.0 y ≡ Less) (keys_of (es ++ high)) → AllByRecursion (λ y. R e.0 y ≡ Less)
      (keys_of es)
  all [] h = tt
  all (f ∷ es) h = (h.0, all es h.1)

-- each of joined lists in order is in order
pub sorted-at : {K X : Type 0} (R : K → K → Ordering) (cs : List (List (K × X))) (at : ℕ) (d : List (K × X)) → at < length cs
    → IsStrictlySortedBy R (keys_of (joined cs)) → IsStrictlySortedBy R (keys_of (get_or cs at d))
sorted-at {K} {X} R cs at d lt sorted =
    sorted-left R (get_or cs at d) (joined (drop (suc at) cs)) (sorted-right R (joined (take at cs)) (get_or cs at d ++ joined (drop
    (suc at) cs))
    (subst (λ (es : List (K × X)). IsStrictlySortedBy R (keys_of es)) (joined-at cs at d lt) sorted))

-- Of the parts of rings one at most has a place in the boxes of its rings. So some part is odd about a place exactly where
-- all rings together are.
use Rattle.std.proofs.Common.{◌≡◌, ◌≢◌, ◌⊎◌, inl, inr, ℕ, zero, suc, ◌<◌, ◌==◌, Bool, true, false, ◌||◌, List, [], ◌∷◌, length, map, get_or}
use Rattle.std.proofs.Common.{ℤ, pos, ◌≤ℤ◌, refl, sym, ap, ap₂, ◌∙◌, ⊎_elim, arith}
use Rattle.std.specs.List.{list_any}
use Rattle.std.proofs.lemmas.Bool.{false_from_ne_true}
use Rattle.std.proofs.lemmas.List.{get_or-map, get_or_default, length-map}
use Rattle.lay_point.specs.declared.point.Point.{Point}
use Rattle.lay_point.specs.Parity.{xor, parity, is_crossed, odd}
use Rattle.lay_point.specs.Rects.{touch}
use Rattle.lay_point.specs.RingEdges.{edges_of, edges_of_ring}
use Rattle.lay_point.proofs.Parity.{parity-append}
use Rattle.lay_point.proofs.BoolLaws.{or-false}
use Rattle.face_ring_laws.specs.Parts.{AreJoined, AreParts, ArePartsBy, bounding_box, is_in_box, with_label}
use Rattle.face_ring_laws.proofs.BoxLaws.{even_outside, touch_by_place}
use Rattle.face_ring_laws.proofs.PartLemmas.{eq_cases}

-- ---- of all rings together
pub parity_by_rings : (test : Point × Point → Bool) (rings : List (List Point))
    → parity test (edges_of rings) ≡ parity (λ r. parity test (edges_of_ring r)) rings
parity_by_rings test [] = refl
parity_by_rings test (r ∷ rs) =
    parity-append test (edges_of_ring r) (edges_of rs) ∙ ap (xor (parity test (edges_of_ring r))) (parity_by_rings test rs)

-- ---- of those with one label
module _ {A : Type 0} (odd_one : A → Bool) (p : ℕ) where
  pub labelled_all : (labels : List ℕ) (xs : List A) → length labels ≡ length xs
      → ((i : ℕ) (d : A) → i < length xs → get_or labels i 0 ≢ p → odd_one (get_or xs i d) ≡ false)
      → parity odd_one (with_label p labels xs) ≡ parity odd_one xs
  labelled_all [] [] same even = refl
  labelled_all [] (x ∷ xs) same even = absurd (omega arith)
  labelled_all (l ∷ ls) [] same even = absurd (omega arith)
  labelled_all (l ∷ ls) (x ∷ xs) same even =
      let rest = labelled_all ls xs (omega arith) (λ i d lt. even (suc i) d (omega arith)) in
      ⊎_elim (λ (here : (l ≡ p) × ((l == p) ≡ true)). rw here.1 (ap (xor (odd_one x)) rest))
      (λ (other : (l ≢ p) × ((l == p) ≡ false)).
      rw other.1 (rest ∙ sym (ap (λ b. xor b (parity odd_one xs)) (even zero x (omega arith) other.0))))
      (eq_cases l p (l == p) refl)

  pub labelled_none : (labels : List ℕ) (xs : List A) → length labels ≡ length xs
      → ((i : ℕ) (d : A) → i < length xs → get_or labels i 0 ≡ p → odd_one (get_or xs i d) ≡ false)
      → parity odd_one (with_label p labels xs) ≡ false
  labelled_none [] xs same even = refl
  labelled_none (l ∷ ls) [] same even = refl
  labelled_none (l ∷ ls) (x ∷ xs) same even =
      let rest = labelled_none ls xs (omega arith) (λ i d lt. even (suc i) d (omega arith)) in
      ⊎_elim (λ (here : (l ≡ p) × ((l == p) ≡ true)). rw here.1 (ap₂ xor (even zero x (omega arith) here.0) rest))
      (λ (other : (l ≢ p) × ((l == p) ≡ false)). rw other.1 rest)
      (eq_cases l p (l == p) refl)

all_even : {A : Type 0} (f : A → Bool) (xs : List A) → ((i : ℕ) (d : A) → i < length xs → f (get_or xs i d) ≡ false) → parity f xs ≡ false
all_even f [] h = refl
all_even f (x ∷ xs) h = ap₂ xor (h zero x (omega arith)) (all_even f xs (λ i d lt. h (suc i) d (omega arith)))

-- ---- some part
any_none : {A : Type 0} (f : A → Bool) (xs : List A) → ((i : ℕ) (d : A) → i < length xs → f (get_or xs i d) ≡ false) → list_any f xs ≡ false
any_none f [] h = refl
any_none f (x ∷ xs) h = ap₂ (λ a b. a || b) (h zero x (omega arith)) (any_none f xs (λ i d lt. h (suc i) d (omega arith)))

any_one : {A : Type 0} (f : A → Bool) (xs : List A) (k : ℕ) (e : A) → k < length xs
    → ((i : ℕ) (d : A) → i < length xs → i ≢ k → f (get_or xs i d) ≡ false) → list_any f xs ≡ f (get_or xs k e)
any_one f [] k e less h = absurd (omega arith)
any_one f (x ∷ xs) zero e less h =
    ap (λ b. f x || b) (any_none f xs (λ i d lt. h (suc i) d (omega arith) (omega arith))) ∙ or-false (f x)
any_one f (x ∷ xs) (suc k) e less h =
    ap (λ b. b || list_any f xs) (h zero x (omega arith) (omega arith))
    ∙ any_one f xs k e (omega arith) (λ i d lt apart. h (suc i) d (omega arith) (λ same. apart (omega arith)))

-- ---- about a place
-- a ring in whose box the place is, if there is one
some_box : (k x y : ℤ) (rings : List (List Point))
    → ((i : ℕ) × (i < length rings) × ((d : List Point) → is_in_box k x y (bounding_box (get_or rings i d)) ≡ true))
    ⊎ ((i : ℕ) (d : List Point) → i < length rings → is_in_box k x y (bounding_box (get_or rings i d)) ≡ false)
some_box k x y [] = inr (λ i d lt. absurd (omega arith))
some_box k x y (r ∷ rs) = by_test (is_in_box k x y (bounding_box r)) refl (some_box k x y rs)
  where
    Found : List (List Point) → Type 0
    Found rings = (i : ℕ) × (i < length rings) × ((d : List Point) → is_in_box k x y (bounding_box (get_or rings i d)) ≡ true)

    None : List (List Point) → Type 0
    None rings = (i : ℕ) (d : List Point) → i < length rings → is_in_box k x y (bounding_box (get_or rings i d)) ≡ false

    none_here : is_in_box k x y (bounding_box r) ≡ false → None rs → None (r ∷ rs)
    none_here h rest zero d lt = h
    none_here h rest (suc i) d lt = rest i d (omega arith)

    by_test : (b : Bool) → is_in_box k x y (bounding_box r) ≡ b → Found rs ⊎ None rs → Found (r ∷ rs) ⊎ None (r ∷ rs)
    by_test true h rest = inl (zero, omega arith, (λ d. h))
    by_test false h (inl found) = inl (suc found.0, omega (arith, found.1), found.2)
    by_test false h (inr none) = inr (none_here h none)

joined_by_place : (k x y : ℤ) (rings : List (List Point)) (i j : ℕ) → pos 1 ≤ℤ k → i < length rings → j < length rings
    → ((d : List Point) → is_in_box k x y (bounding_box (get_or rings i d)) ≡ true)
    → ((d : List Point) → is_in_box k x y (bounding_box (get_or rings j d)) ≡ true) → AreJoined (map bounding_box rings) i j
joined_by_place k x y rings i j scale li lj hi hj =
    let count = length-map rings bounding_box in (
      omega arith,
      omega arith,
      (λ d.
          let bi = get_or-map bounding_box rings i [] d li in
          let bj = get_or-map bounding_box rings j [] d lj in
          ap₂ touch bi bj ∙ touch_by_place k x y (bounding_box (get_or rings i []))
          (bounding_box (get_or rings j [])) scale (hi []) (hj [])),
    )

some_part_is_odd : (k x y : ℤ) (labels : List ℕ) (rings : List (List Point)) (parts : List (List (List Point))) → pos 1 ≤ℤ k
    → ArePartsBy labels rings parts
    → list_any (λ part. parity (is_crossed k x y) (edges_of part)) parts ≡ parity (is_crossed k x y) (edges_of rings)
some_part_is_odd k x y labels rings parts scale h = ⊎_elim found none (some_box k x y rings)
  where
    test : Point × Point → Bool
    test = is_crossed k x y

    odd_ring : List Point → Bool
    odd_ring r = parity test (edges_of_ring r)

    part_is : (p : ℕ) (d : List (List Point)) → p < length parts
        → parity test (edges_of (get_or parts p d)) ≡ parity odd_ring (with_label p labels rings)
    part_is p d lt = ap (λ part. parity test (edges_of part)) (h.rings_of_part p d lt) ∙ parity_by_rings test (with_label p labels rings)

    found : (i : ℕ) × (i < length rings) × ((d : List Point) → is_in_box k x y (bounding_box (get_or rings i d)) ≡ true)
        → list_any (λ part. parity test (edges_of part)) parts ≡ parity test (edges_of rings)
    found (i, li, hi) =
        let p = get_or labels i 0 in
        let apart = λ (j : ℕ) (d : List Point) (lj : j < length rings) (other : get_or labels j 0 ≢ p).
        even_outside k x y (get_or rings j d) scale (false_from_ne_true (is_in_box k x y (bounding_box (get_or rings j d))) (λ hj.
        other (sym (h.joined i j (joined_by_place k x y rings i j scale li lj hi
        (λ e. ap (λ r. is_in_box k x y (bounding_box r)) (get_or_default rings j e d lj) ∙ hj)))))) in
        any_one (λ part. parity test (edges_of part)) parts p [] (h.within i li)
        (λ q d lq differ. part_is q d lq ∙ labelled_none odd_ring q labels rings h.each
        (λ j e lj same. apart j e lj (λ again. differ (sym same ∙ again))))
        ∙ part_is p [] (h.within i li)
        ∙ labelled_all odd_ring p labels rings h.each apart
        ∙ sym (parity_by_rings test rings)

    none : ((i : ℕ) (d : List Point) → i < length rings → is_in_box k x y (bounding_box (get_or rings i d)) ≡ false)
        → list_any (λ part. parity test (edges_of part)) parts ≡ parity test (edges_of rings)
    none out =
        let even = λ (j : ℕ) (d : List Point) (lj : j < length rings). even_outside k x y (get_or rings j d) scale (out j d lj) in
        any_none (λ part. parity test (edges_of part)) parts
        (λ q d lq. part_is q d lq ∙ labelled_none odd_ring q labels rings h.each (λ j e lj same. even j e lj))
        ∙ sym (parity_by_rings test rings ∙ all_even odd_ring rings even)

pub odd_by_parts : (rings : List (List Point)) (parts : List (List (List Point))) → AreParts rings parts
    → (k x y : ℤ) → pos 1 ≤ℤ k → list_any (λ part. odd (edges_of part) k x y) parts ≡ odd (edges_of rings) k x y
unfolding odd
odd_by_parts rings parts h k x y scale = some_part_is_odd k x y h.0 rings parts scale h.1

-- Each ring is in one part, so of the edges of all parts as many pass a test as of all rings.
use Rattle.std.proofs.Common.{◌≡◌, ◌≢◌, ◌⊎◌, inl, inr, ℕ, zero, suc, ◌+◌, ◌<◌, ◌≤◌, ◌==◌, Bool, true}
use Rattle.std.proofs.Common.{false, cond, List, [], ◌∷◌, length, map, get_or}
use Rattle.std.proofs.Common.{refl, sym, ap, ◌∙◌, ⊎_elim, arith}
use Rattle.std.specs.List.{count_by, flat_map, range_with_len, sum_by}
use Rattle.std.proofs.lemmas.Bool.{false≢true}
use Rattle.std.proofs.lemmas.Bool.Decides.{Decides-eqb}
use Rattle.std.proofs.lemmas.List.{map-append}
use Rattle.std.proofs.lemmas.List.Sums.{sum_by-append, sum_by-cons}
use Rattle.lay_point.specs.declared.point.Point.{Point}
use Rattle.lay_point.specs.Edges.{undirected}
use Rattle.lay_point.specs.RingEdges.{edges_of, edges_of_ring}
use Rattle.face_ring_laws.specs.Parts.{bounding_box, with_label}
use Rattle.bool_rules.specs.Dividing.{heads_before, heads_of, part_labels, parts_of}
use Rattle.bool_rules.proofs.LabelLemmas.{length-parts_of, parts_are_parts}

-- ---- a sum over what is labelled from a number on
module _ {A : Type 0} (w : A → ℕ) where
  -- the sum of those whose labels are any of n from a on
  abbrev sum_from : List ℕ → List A → ℕ → ℕ → ℕ
  sum_from labels xs a n = sum_by (λ part. sum_by w part) (map (λ p. with_label p labels xs) (range_with_len a n))

  sum_next : (labels : List ℕ) (xs : List A) (a n : ℕ)
      → sum_from labels xs a (suc n) ≡ sum_by w (with_label a labels xs) + sum_from labels xs (a + 1) n
  sum_next labels xs a n =
      sum_by-cons (λ part. sum_by w part) (with_label a labels xs) (map (λ p. with_label p labels xs) (range_with_len (a + 1) n))

  none_labelled : (xs : List A) (a n : ℕ) → sum_from [] xs a n ≡ 0
  none_labelled xs a zero = refl
  none_labelled xs a (suc n) = let rest = none_labelled xs (a + 1) n in sum_next [] xs a n ∙ omega (arith, rest)

  label_cases : (l p : ℕ) (x : A) (labels : List ℕ) (xs : List A)
      → ((l ≡ p) × (sum_by w (with_label p (l ∷ labels) (x ∷ xs)) ≡ w x + sum_by w (with_label p labels xs)))
      ⊎ ((l ≢ p) × (sum_by w (with_label p (l ∷ labels) (x ∷ xs)) ≡ sum_by w (with_label p labels xs)))
  label_cases l p x labels xs = by_test (l == p) refl
    where
      by_test : (b : Bool) → (l == p) ≡ b
          → ((l ≡ p) × (sum_by w (cond b (x ∷ with_label p labels xs) (with_label p labels xs)) ≡ w x + sum_by w (with_label p labels xs)))
          ⊎ ((l ≢ p) × (sum_by w (cond b (x ∷ with_label p labels xs) (with_label p labels xs)) ≡ sum_by w (with_label p labels xs)))
      by_test true e = inl ((Decides-eqb l p).0 e, sum_by-cons w x (with_label p labels xs))
      by_test false e = inr ((λ same. false≢true (sym e ∙ (Decides-eqb l p).1 same)), refl)

  -- a label below them doesn't count
  label_below : (l : ℕ) (x : A) (labels : List ℕ) (xs : List A) (a n : ℕ) → l < a
      → sum_from (l ∷ labels) (x ∷ xs) a n ≡ sum_from labels xs a n
  label_below l x labels xs a zero less = refl
  label_below l x labels xs a (suc n) less =
      let rest = label_below l x labels xs (a + 1) n (omega arith) in
      let whole = sum_next (l ∷ labels) (x ∷ xs) a n in
      let others = sum_next labels xs a n in
      ⊎_elim (λ here. absurd (omega (arith, here.0))) (λ apart. omega (arith, apart.1, rest, whole, others))
      (label_cases l a x labels xs)

  -- and one of them counts once
  label_among : (l : ℕ) (x : A) (labels : List ℕ) (xs : List A) (a n : ℕ) → a ≤ l → l < a + n
      → sum_from (l ∷ labels) (x ∷ xs) a n ≡ w x + sum_from labels xs a n
  label_among l x labels xs a zero low high = absurd (omega arith)
  label_among l x labels xs a (suc n) low high =
      let whole = sum_next (l ∷ labels) (x ∷ xs) a n in
      let others = sum_next labels xs a n in
      ⊎_elim
      (λ here. let rest = label_below l x labels xs (a + 1) n (omega (arith, here.0)) in omega (arith, here.1, rest, whole, others))
      (λ apart. let rest = label_among l x labels xs (a + 1) n (omega (arith, apart.0)) (omega arith) in
      omega (arith, apart.1, rest, whole, others))
      (label_cases l a x labels xs)

  pub all_labelled : (labels : List ℕ) (xs : List A) (count : ℕ) → length labels ≡ length xs
      → ((i : ℕ) → i < length xs → get_or labels i 0 < count) → sum_from labels xs 0 count ≡ sum_by w xs
  all_labelled [] [] count same within = none_labelled [] 0 count
  all_labelled [] (x ∷ xs) count same within = absurd (omega arith)
  all_labelled (l ∷ ls) [] count same within = absurd (omega arith)
  all_labelled (l ∷ ls) (x ∷ xs) count same within =
      let low : l < count = within zero (omega arith) in
      let rest = all_labelled ls xs count (omega arith) (λ i lt. within (suc i) (omega arith)) in
      let first = label_among l x ls xs 0 count (omega arith) (omega arith) in
      omega (arith, first, rest, sum_by-cons w x xs)

-- ---- edges
count_of_pieces : {A : Type 0} (test : Point × Point → Bool) (f : A → List (Point × Point)) (xs : List A)
    → count_by test (map undirected (flat_map f xs)) ≡ sum_by (λ x. count_by test (map undirected (f x))) xs
count_of_pieces test f [] = refl
count_of_pieces test f (x ∷ xs) =
    ap (count_by test) (map-append undirected (f x) (flat_map f xs))
    ∙ sum_by-append (λ e. cond (test e) 1 0) (map undirected (f x)) (map undirected (flat_map f xs))
    ∙ ap (λ n. count_by test (map undirected (f x)) + n) (count_of_pieces test f xs)
    ∙ sym (sum_by-cons (λ y. count_by test (map undirected (f y))) x xs)

pub parts_have_edges : (test : Point × Point → Bool) (rings : List (List Point))
    → count_by test (map undirected (flat_map edges_of (parts_of rings))) ≡ count_by test (map undirected (edges_of rings))
unfolding parts_of
parts_have_edges test rings =
    let edges : List Point → ℕ = λ ring. count_by test (map undirected (edges_of_ring ring)) in
    let heads = heads_of (map bounding_box rings) in
    let h = parts_are_parts rings in
    count_of_pieces test edges_of (parts_of rings)
    ∙ ap (λ (f : List (List Point) → ℕ). sum_by f (parts_of rings)) (λ k part. count_of_pieces test edges_of_ring part k)
    ∙ all_labelled edges (part_labels heads) rings (heads_before heads (length heads)) h.each
    (λ i lt. omega (arith, h.within i lt, length-parts_of rings))
    ∙ sym (count_of_pieces test edges_of_ring rings)

-- The parts that are computed are the parts of the rings.
use Rattle.std.proofs.Common.{◌≡◌, ◌≢◌, ◌⊎◌, inl, inr, ℕ, zero, suc, ◌+◌, ◌<◌, ◌≤◌, ◌==◌, Bool, true, false, cond}
use Rattle.std.proofs.Common.{List, [], ◌∷◌, ◌++◌, length, map, get_or, take}
use Rattle.std.proofs.Common.{refl, sym, ap, subst, ◌∙◌, ⊎_elim, arith}
use Rattle.std.specs.List.{count_by, range_with_len}
use Rattle.std.proofs.lemmas.Bool.{false≢true}
use Rattle.std.proofs.lemmas.Bool.Decides.{Decides-eqb}
use Rattle.std.proofs.lemmas.List.{get_or-map, length-take-le, get_or-take, map-append, take_all}
use Rattle.std.proofs.lemmas.List.FromFn.{get_or-map-range_with_len, length-map-range_with_len}
use Rattle.std.proofs.lemmas.List.Sums.{sum_by_push}
use Rattle.std.proofs.Math.Seq.{take-suc}
use Rattle.lay_point.specs.declared.point.Point.{Point}
use Rattle.face_ring_laws.specs.Heads.{AreDivided, AreFirst, IsNumbered}
use Rattle.face_ring_laws.specs.Parts.{ArePartsBy, bounding_box, with_label}
use Rattle.face_ring_laws.proofs.PartLemmas.{are_parts, numbered_fresh, numbered_old}
use Rattle.bool_rules.specs.Dividing.{heads_before, heads_of, part_labels, parts_by, parts_of}
use Rattle.bool_rules.specs.ShapeLaws.{PartsExist}
use Rattle.bool_rules.proofs.HeadLemmas.{heads_are_finest}

-- ---- how many heads there are before a number
range_more : (a n : ℕ) → range_with_len a (suc n) ≡ range_with_len a n ++ (a + n) ∷ []
range_more a zero = let e : a ≡ a + 0 = omega arith in ap (λ k. k ∷ []) e
range_more a (suc n) =
    let e : a + 1 + n ≡ a + suc n = omega arith in
    ap (λ l. a ∷ l) (range_more (a + 1) n ∙ ap (λ k. range_with_len (a + 1) n ++ k ∷ []) e)

before_more : (heads : List ℕ) (n : ℕ) → heads_before heads (suc n) ≡ heads_before heads n + cond (get_or heads n 0 == n) 1 0
before_more heads n =
    let e : 0 + n ≡ n = omega arith in
    ap (count_by (λ k. get_or heads k 0 == k)) (range_more 0 n)
    ∙ sum_by_push (λ k. cond (get_or heads k 0 == k) 1 0) (range_with_len 0 n) (0 + n)
    ∙ ap (λ k. heads_before heads n + cond (get_or heads k 0 == k) 1 0) e

fresh_before : (heads : List ℕ) (n : ℕ) → get_or heads n 0 ≡ n → heads_before heads (suc n) ≡ heads_before heads n + 1
fresh_before heads n own =
    before_more heads n ∙ ap (λ b. heads_before heads n + cond b 1 0) ((Decides-eqb (get_or heads n 0) n).1 own)

old_before : (heads : List ℕ) (n : ℕ) → get_or heads n 0 ≢ n → heads_before heads (suc n) ≡ heads_before heads n
old_before heads n differs =
    before_more heads n ∙ ap (λ b. heads_before heads n + cond b 1 0) (not_eq (get_or heads n 0 == n) refl) ∙ omega arith
  where
    not_eq : (b : Bool) → (get_or heads n 0 == n) ≡ b → b ≡ false
    not_eq true e = absurd (differs ((Decides-eqb (get_or heads n 0) n).0 e))
    not_eq false e = refl

-- ---- labels
module _ (heads : List ℕ) (first : AreFirst heads) where
  abbrev number : ℕ → ℕ
  number n = heads_before heads n

  abbrev labels_to : ℕ → List ℕ
  labels_to n = map (heads_before heads) (take n heads)

  none_numbered : IsNumbered heads 0 (labels_to 0) (number 0)
  none_numbered = record {
    each = refl;
    within = λ i lt. absurd (omega arith);
    same = λ i j li lj. absurd (omega arith);
    ordered = λ i p lt under. absurd (omega arith);
    used = λ p lt. absurd (omega arith);
  }

  pushed : (n : ℕ) → n < length heads → labels_to (suc n) ≡ labels_to n ++ number (get_or heads n 0) ∷ []
  pushed n lt =
      ap (map (heads_before heads)) (take-suc heads n 0 lt) ∙ map-append (heads_before heads) (take n heads) (get_or heads n 0 ∷ [])

  label_of_head : (n : ℕ) → n < length heads → get_or heads n 0 < n → number (get_or heads n 0) ≡ get_or (labels_to n) (get_or heads n 0) 0
  label_of_head n lt less =
      let long : length (take n heads) ≡ n = length-take-le n heads (omega arith) in
      sym (get_or-map (heads_before heads) (take n heads) (get_or heads n 0) 0 0 (omega arith)
      ∙ ap number (get_or-take n heads (get_or heads n 0) 0 less ∙ (first n lt).1))

  one_more : (n : ℕ) → n < length heads → IsNumbered heads n (labels_to n) (number n)
      → IsNumbered heads (suc n) (labels_to (suc n)) (number (suc n))
  one_more n lt h = ⊎_elim fresh old (head_cases (get_or heads n 0 == n) refl)
    where
      head_cases : (b : Bool) → (get_or heads n 0 == n) ≡ b → (get_or heads n 0 ≡ n) ⊎ (get_or heads n 0 ≢ n)
      head_cases true e = inl ((Decides-eqb (get_or heads n 0) n).0 e)
      head_cases false e = inr (λ own. false≢true (sym e ∙ (Decides-eqb (get_or heads n 0) n).1 own))

      next : n + 1 ≡ suc n
      next = omega arith

      fresh : get_or heads n 0 ≡ n → IsNumbered heads (suc n) (labels_to (suc n)) (number (suc n))
      fresh own =
          let more = numbered_fresh heads first n lt (labels_to n) (labels_to (suc n)) (number n) h own
          (pushed n lt ∙ ap (λ k. labels_to n ++ number k ∷ []) own) in
          let count = sym (fresh_before heads n own) in
          coe 0 1 (k. IsNumbered heads (next k) (labels_to (suc n)) (count k)) more

      old : get_or heads n 0 ≢ n → IsNumbered heads (suc n) (labels_to (suc n)) (number (suc n))
      old differs =
          let low = (first n lt).0 in
          let more = numbered_old heads first n lt (labels_to n) (labels_to (suc n)) (number n) h differs (number (get_or heads n 0))
          (label_of_head n lt (omega (arith, differs))) (pushed n lt) in
          let count = sym (old_before heads n differs) in
          coe 0 1 (k. IsNumbered heads (next k) (labels_to (suc n)) (count k)) more

  numbered_to : (n : ℕ) → n ≤ length heads → IsNumbered heads n (labels_to n) (number n)
  numbered_to zero le = none_numbered
  numbered_to (suc n) le = one_more n (omega arith) (numbered_to n (omega arith))

  pub labels_are_numbered : IsNumbered heads (length heads) (part_labels heads) (heads_before heads (length heads))
  labels_are_numbered =
      subst (λ hs. IsNumbered heads (length heads) (map (heads_before heads) hs) (number (length heads)))
      (take_all (length heads) heads (omega arith))
      (numbered_to (length heads) (omega arith))

-- ---- parts
divided_by : (heads : List ℕ) (rings : List (List Point))
    → AreDivided (heads_before heads (length heads)) (part_labels heads) rings (parts_by heads rings)
divided_by heads rings =
    let part : ℕ → List (List Point) = λ p. with_label p (part_labels heads) rings in record {
      each = length-map-range_with_len part 0 (heads_before heads (length heads));
      members = λ p d lt. get_or-map-range_with_len part 0 (heads_before heads (length heads)) p p d lt (omega arith);
    }

pub parts_are_parts : (rings : List (List Point)) → ArePartsBy (part_labels (heads_of (map bounding_box rings))) rings (parts_of rings)
unfolding parts_of
parts_are_parts rings =
    let boxes = map bounding_box rings in
    let heads = heads_of boxes in
    let finest = heads_are_finest boxes in
    are_parts rings boxes heads (part_labels heads) (heads_before heads (length heads)) (parts_by heads rings) refl finest
    (labels_are_numbered heads finest.first) (divided_by heads rings)

-- as many as heads
pub length-parts_of : (rings : List (List Point))
    → length (parts_of rings) ≡ heads_before (heads_of (map bounding_box rings)) (length (heads_of (map bounding_box rings)))
unfolding parts_of
length-parts_of rings = (divided_by (heads_of (map bounding_box rings)) rings).each

pub parts_exist : PartsExist
parts_exist rings = (part_labels (heads_of (map bounding_box rings)), parts_are_parts rings)

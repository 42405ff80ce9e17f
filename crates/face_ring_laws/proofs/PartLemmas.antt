-- Heads of those that are joined, their labels, and the division by labels.
use Rattle.std.proofs.Common.{◌≡◌, ◌≢◌, ◌⊎◌, ◌↔◌, inl, inr, ℕ, zero, suc, ◌+◌, ◌<◌, ◌≤◌, ◌==◌, Bool}
use Rattle.std.proofs.Common.{true, false, cond, List, [], ◌∷◌, ◌++◌, length, map, get_or, set}
use Rattle.std.proofs.Common.{refl, sym, ap, subst, ◌∙◌, ⊎_elim, arith, length-append}
use Rattle.std.proofs.lemmas.Bool.{cases_lt, false≢true}
use Rattle.std.proofs.lemmas.Bool.Decides.{Decides-eqb}
use Rattle.std.proofs.lemmas.List.{get_or_default, length-map}
use Rattle.std.proofs.Math.ListN.{length-set}
use Rattle.lay_point.specs.declared.point.Point.{Point}
use Rattle.lay_point.specs.declared.rect.Rect.{Rect}
use Rattle.lay_point.specs.Rects.{touch}
use Rattle.face_ring_laws.specs.Parts.{AreJoined, ArePartsBy, bounding_box, with_label}
use Rattle.face_ring_laws.specs.Heads.{AreDivided, AreFirst, IsFinest, IsNumbered}

pub eq_cases : (l p : ℕ) (b : Bool) → (l == p) ≡ b → ((l ≡ p) × (b ≡ true)) ⊎ ((l ≢ p) × (b ≡ false))
eq_cases l p true h = inl ((Decides-eqb l p).0 h, refl)
eq_cases l p false h = inr ((λ same. false≢true (sym h ∙ (Decides-eqb l p).1 same)), refl)

-- ---- one element set
pub get_or-set : {A : Type 0} (xs : List A) (i j : ℕ) (x d : A) → i < length xs
    → ((i ≡ j) × (get_or (set xs i x) j d ≡ x)) ⊎ ((i ≢ j) × (get_or (set xs i x) j d ≡ get_or xs j d))
get_or-set [] i j x d less = absurd (omega arith)
get_or-set (y ∷ xs) zero zero x d less = inl (refl, refl)
get_or-set (y ∷ xs) zero (suc j) x d less = inr (omega arith, refl)
get_or-set (y ∷ xs) (suc i) zero x d less = inr (omega arith, refl)
get_or-set (y ∷ xs) (suc i) (suc j) x d less = ⊎_elim
    (λ (same : (i ≡ j) × (get_or (set xs i x) j d ≡ x)). inl (ap suc same.0, same.1))
    (λ (apart : (i ≢ j) × (get_or (set xs i x) j d ≡ get_or xs j d)). inr ((λ e. apart.0 (omega arith)), apart.1))
    (get_or-set xs i j x d (omega arith))

-- ---- boxes that touch
pub joined_by_boxes : (boxes : List Rect) (i j : ℕ) (b c : Rect) → i < length boxes → j < length boxes → b ≡ get_or boxes i b
    → c ≡ get_or boxes j c
    → touch b c ≡ true → AreJoined boxes i j
joined_by_boxes boxes i j b c li lj is_b is_c h = (
  li,
  lj,
  (λ d. (λ k. touch (get_or_default boxes i d b li k) (get_or_default boxes j d c lj k))
      ∙ (λ k. touch (sym is_b k) (sym is_c k)) ∙ h),
)

-- ---- labels
push_old : {A : Type 0} (xs : List A) (x d : A) (i : ℕ) → i < length xs → get_or (xs ++ x ∷ []) i d ≡ get_or xs i d
push_old [] x d i lt = absurd (omega arith)
push_old (y ∷ xs) x d zero lt = refl
push_old (y ∷ xs) x d (suc i) lt = push_old xs x d i (omega arith)

push_new : {A : Type 0} (xs : List A) (x d : A) (i : ℕ) → i ≡ length xs → get_or (xs ++ x ∷ []) i d ≡ x
push_new [] x d zero same = refl
push_new [] x d (suc i) same = absurd (omega arith)
push_new (y ∷ xs) x d zero same = absurd (omega arith)
push_new (y ∷ xs) x d (suc i) same = push_new xs x d i (omega arith)

module _ (heads : List ℕ) (first : AreFirst heads) (n : ℕ) (inside : n < length heads) (labels more : List ℕ) (count : ℕ)
    (h : IsNumbered heads n labels count) where
  abbrev label : ℕ → ℕ
  label i = get_or labels i 0

  abbrev label' : ℕ → ℕ
  label' i = get_or more i 0

  -- a new part
  module _ (own : get_or heads n 0 ≡ n) (pushed : more ≡ labels ++ count ∷ []) where
    before : (i : ℕ) → i < n → label' i ≡ label i
    before i lt = ap (λ l. get_or l i 0) pushed ∙ push_old labels count 0 i (omega (arith, h.each))

    here : label' n ≡ count
    here = ap (λ l. get_or l n 0) pushed ∙ push_new labels count 0 n (sym h.each)

    other_head : (i : ℕ) → i < n → get_or heads i 0 ≡ get_or heads n 0 → ⊥
    other_head i lt same = let low = (first i (omega arith)).0 in omega (arith, own)

    other_label : (i : ℕ) → i < n → label' i ≡ label' n → ⊥
    other_label i lt same = let low = h.within i lt in omega (arith, before i lt, here)

    same_fresh : (i j : ℕ) → i < n + 1 → j < n + 1 → (get_or heads i 0 ≡ get_or heads j 0) ↔ (label' i ≡ label' j)
    same_fresh i j li lj = ⊎_elim
        (λ (bi : i < n). ⊎_elim
        (λ (bj : j < n). (
          (λ e. before i bi ∙ (h.same i j bi bj).0 e ∙ sym (before j bj)),
          (λ e. (h.same i j bi bj).1 (sym (before i bi) ∙ e ∙ before j bj)),
        ))
        (λ (ge : n ≤ j). let at : j ≡ n = omega arith in (
          (λ e. absurd (other_head i bi (e ∙ ap (λ z. get_or heads z 0) at))),
          (λ e. absurd (other_label i bi (e ∙ ap label' at))),
        )) (cases_lt j n))
        (λ (ge : n ≤ i). let ati : i ≡ n = omega arith in ⊎_elim
        (λ (bj : j < n). (
          (λ e. absurd (other_head j bj (sym e ∙ ap (λ z. get_or heads z 0) ati))),
          (λ e. absurd (other_label j bj (sym e ∙ ap label' ati))),
        ))
        (λ (ge' : n ≤ j). let same : i ≡ j = omega arith in ((λ e. ap label' same), (λ e. ap (λ z. get_or heads z 0) same))) (cases_lt j n))
        (cases_lt i n)

    pub numbered_fresh : IsNumbered heads (n + 1) more (count + 1)
    numbered_fresh = record {
      each = ap length pushed ∙ length-append labels (count ∷ []) ∙ omega (arith, h.each);
      within = λ i lt. ⊎_elim (λ (b : i < n). omega (arith, before i b, h.within i b))
          (λ (ge : n ≤ i). let at : i ≡ n = omega arith in omega (arith, ap label' at, here)) (cases_lt i n);
      same = same_fresh;
      ordered = λ i p lt under. ⊎_elim
          (λ (b : i < n). let r = h.ordered i p b (omega (arith, before i b)) in (r.0, r.1, before r.0 (omega (arith, r.1)) ∙ r.2))
          (λ (ge : n ≤ i). let at : i ≡ n = omega arith in
          let r = h.used p (omega (arith, ap label' at, here)) in (r.0, omega (arith, r.1), before r.0 r.1 ∙ r.2)) (cases_lt i n);
      used = λ p lt. ⊎_elim
          (λ (under : p < count). let r = h.used p under in (r.0, omega (arith, r.1), before r.0 r.1 ∙ r.2))
          (λ (ge : count ≤ p). (n, omega arith, here ∙ omega arith)) (cases_lt p count);
    }

  -- one more of a part
  module _ (differs : get_or heads n 0 ≢ n) (l : ℕ) (is_l : l ≡ label (get_or heads n 0)) (pushed : more ≡ labels ++ l ∷ []) where
    head : ℕ
    head = get_or heads n 0

    head_before : get_or heads n 0 < n
    head_before = let low = (first n inside).0 in omega (arith, differs)

    before' : (i : ℕ) → i < n → label' i ≡ label i
    before' i lt = ap (λ z. get_or z i 0) pushed ∙ push_old labels l 0 i (omega (arith, h.each))

    here' : label' n ≡ label (get_or heads n 0)
    here' = ap (λ z. get_or z n 0) pushed ∙ push_new labels l 0 n (sym h.each) ∙ is_l

    head_of_head : get_or heads (get_or heads n 0) 0 ≡ get_or heads n 0
    head_of_head = (first n inside).1

    same_with : (i : ℕ) → i < n → (get_or heads i 0 ≡ get_or heads n 0) ↔ (label' i ≡ label' n)
    same_with i b = (
      (λ e. before' i b ∙ (h.same i (get_or heads n 0) b head_before).0 (e ∙ sym head_of_head) ∙ sym here'),
      (λ e. (h.same i (get_or heads n 0) b head_before).1 (sym (before' i b) ∙ e ∙ here') ∙ head_of_head),
    )

    same_old : (i j : ℕ) → i < n + 1 → j < n + 1 → (get_or heads i 0 ≡ get_or heads j 0) ↔ (label' i ≡ label' j)
    same_old i j li lj = ⊎_elim
        (λ (bi : i < n). ⊎_elim
        (λ (bj : j < n). (
          (λ e. before' i bi ∙ (h.same i j bi bj).0 e ∙ sym (before' j bj)),
          (λ e. (h.same i j bi bj).1 (sym (before' i bi) ∙ e ∙ before' j bj)),
        ))
        (λ (ge : n ≤ j). let at : j ≡ n = omega arith in (
          (λ e. (same_with i bi).0 (e ∙ ap (λ z. get_or heads z 0) at) ∙ sym (ap label' at)),
          (λ e. (same_with i bi).1 (e ∙ ap label' at) ∙ sym (ap (λ z. get_or heads z 0) at)),
        )) (cases_lt j n))
        (λ (ge : n ≤ i). let ati : i ≡ n = omega arith in ⊎_elim
        (λ (bj : j < n). (
          (λ e. ap label' ati ∙ sym ((same_with j bj).0 (sym e ∙ ap (λ z. get_or heads z 0) ati))),
          (λ e. ap (λ z. get_or heads z 0) ati ∙ sym ((same_with j bj).1 (sym e ∙ ap label' ati))),
        ))
        (λ (ge' : n ≤ j). let same : i ≡ j = omega arith in ((λ e. ap label' same), (λ e. ap (λ z. get_or heads z 0) same))) (cases_lt j n))
        (cases_lt i n)

    pub numbered_old : IsNumbered heads (n + 1) more count
    numbered_old = record {
      each = ap length pushed ∙ length-append labels (l ∷ []) ∙ omega (arith, h.each);
      within = λ i lt. ⊎_elim (λ (b : i < n). omega (arith, before' i b, h.within i b))
          (λ (ge : n ≤ i). let at : i ≡ n = omega arith in omega (
            arith,
            ap label' at,
            here',
            h.within (get_or heads n 0) head_before,
          )) (cases_lt i n);
      same = same_old;
      ordered = λ i p lt under. ⊎_elim
          (λ (b : i < n). let r = h.ordered i p b (omega (arith, before' i b)) in (r.0, r.1, before' r.0 (omega (arith, r.1)) ∙ r.2))
          (λ (ge : n ≤ i). let at : i ≡ n = omega arith in
          let r = h.ordered (get_or heads n 0) p head_before (omega (arith, ap label' at, here')) in
          (r.0, omega (arith, r.1, head_before), before' r.0 (omega (arith, r.1, head_before)) ∙ r.2)) (cases_lt i n);
      used = λ p lt. let r = h.used p lt in (r.0, omega (arith, r.1), before' r.0 r.1 ∙ r.2);
    }

-- ---- divided by labels
pub none_divided : {A : Type 0} (count : ℕ) (parts : List (List A)) → length parts ≡ count
    → ((p : ℕ) (d : List A) → p < length parts → length (get_or parts p d) ≡ 0) → AreDivided count [] [] parts
none_divided count parts same empty = record { each = same; members = λ p d lt. no_elements (get_or parts p d) (empty p d (omega arith)) }
  where
    no_elements : {A : Type 0} (xs : List A) → length xs ≡ 0 → xs ≡ []
    no_elements [] h = refl
    no_elements (x ∷ xs) h = absurd (omega arith)

pub empty_lists : {V A : Type 0} (f : V → List A) (vs : List V)
    → ((k : ℕ) (d : V) → k < length vs → length (f (get_or vs k d)) ≡ 0)
    → (p : ℕ) (d : List A) → p < length (map f vs) → length (get_or (map f vs) p d) ≡ 0
empty_lists f [] h p d lt = absurd (omega arith)
empty_lists f (v ∷ vs) h zero d lt = h zero v (omega arith)
empty_lists f (v ∷ vs) h (suc p) d lt = empty_lists f vs (λ k e lk. h (suc k) e (omega arith)) p d (omega arith)

pub map-set : {A B : Type 0} (f : A → B) (xs : List A) (i : ℕ) (x : A) → map f (set xs i x) ≡ set (map f xs) i (f x)
map-set f [] i x = refl
map-set f (y ∷ xs) zero x = refl
map-set f (y ∷ xs) (suc i) x = ap (λ l. f y ∷ l) (map-set f xs i x)

labelled_here : {A : Type 0} (p : ℕ) (labels : List ℕ) (xs : List A) (l : ℕ) (x : A) → length labels ≡ length xs → l ≡ p
    → with_label p (labels ++ l ∷ []) (xs ++ x ∷ []) ≡ with_label p labels xs ++ x ∷ []
labelled_here p [] [] l x same here =
    let t : (l == p) ≡ true = (Decides-eqb l p).1 here in rw t refl
labelled_here p [] (y ∷ xs) l x same here = absurd (omega arith)
labelled_here p (k ∷ ks) [] l x same here = absurd (omega arith)
labelled_here p (k ∷ ks) (y ∷ xs) l x same here =
    let rest = labelled_here p ks xs l x (omega arith) here in
    elim (k == p) as (λ b. cond b (y ∷ with_label p (ks ++ l ∷ []) (xs ++ x ∷ [])) (with_label p (ks ++ l ∷ []) (xs ++ x ∷ []))
    ≡ cond b (y ∷ with_label p ks xs) (with_label p ks xs) ++ x ∷ []) [ true ↦ ap (λ z. y ∷ z) rest | false ↦ rest ]

labelled_other : {A : Type 0} (p : ℕ) (labels : List ℕ) (xs : List A) (l : ℕ) (x : A) → length labels ≡ length xs → l ≢ p
    → with_label p (labels ++ l ∷ []) (xs ++ x ∷ []) ≡ with_label p labels xs
labelled_other p [] [] l x same other = ⊎_elim (λ (here : (l ≡ p) × ((l == p) ≡ true)). absurd (other here.0))
    (λ (apart : (l ≢ p) × ((l == p) ≡ false)). rw apart.1 refl) (eq_cases l p (l == p) refl)
labelled_other p [] (y ∷ xs) l x same other = absurd (omega arith)
labelled_other p (k ∷ ks) [] l x same other = absurd (omega arith)
labelled_other p (k ∷ ks) (y ∷ xs) l x same other =
    let rest = labelled_other p ks xs l x (omega arith) other in
    elim (k == p) as (λ b. cond b (y ∷ with_label p (ks ++ l ∷ []) (xs ++ x ∷ [])) (with_label p (ks ++ l ∷ []) (xs ++ x ∷ []))
    ≡ cond b (y ∷ with_label p ks xs) (with_label p ks xs)) [ true ↦ ap (λ z. y ∷ z) rest | false ↦ rest ]

pub divided_more : {A : Type 0} (count : ℕ) (labels : List ℕ) (xs : List A) (parts : List (List A)) (l : ℕ) (x : A) (old new : List A)
    → AreDivided count labels xs parts → length labels ≡ length xs → l < count → old ≡ get_or parts l old → new ≡ old ++ x ∷ []
    → AreDivided count (labels ++ l ∷ []) (xs ++ x ∷ []) (set parts l new)
divided_more {A} count labels xs parts l x old new h same less is_old pushed = record {
  each = length-set parts l new ∙ h.each;
  members = λ p d lt. ⊎_elim
      (λ (here : (l ≡ p) × (get_or (set parts l new) p d ≡ new)).
      here.1 ∙ pushed ∙ ap (λ z. z ++ x ∷ []) (is_old ∙ h.members l old less ∙ ap (λ q. with_label q labels xs) here.0)
      ∙ sym (labelled_here p labels xs l x same here.0))
      (λ (other : (l ≢ p) × (get_or (set parts l new) p d ≡ get_or parts p d)).
      other.1 ∙ h.members p d lt ∙ sym (labelled_other p labels xs l x same other.0))
      (get_or-set parts l p new d (omega (arith, h.each)));
}

-- ---- all together
pub are_parts : (rings : List (List Point)) (boxes : List Rect) (heads labels : List ℕ) (count : ℕ) (parts : List (List (List Point)))
    → boxes ≡ map bounding_box rings → IsFinest (AreJoined boxes) (length boxes) heads → IsNumbered heads (length heads) labels count
    → AreDivided count labels rings parts → ArePartsBy labels rings parts
are_parts rings boxes heads labels count parts is_boxes h numbered divided =
    let n : length boxes ≡ length rings = ap length is_boxes ∙ length-map rings bounding_box in
    let heads_n : length heads ≡ length rings = h.each ∙ n in
    record {
      each = numbered.each ∙ heads_n;
      within = λ i lt. omega (arith, numbered.within i (omega arith), divided.each);
      joined = λ i j g.
          let g' : AreJoined boxes i j = subst (λ b. AreJoined b i j) (sym is_boxes) g in
          (numbered.same i j (omega (arith, g'.0, h.each)) (omega (arith, g'.1, h.each))).0 (h.joined i j g');
      finest = λ other respects i j li lj e. h.finest other (λ a b g. respects a b (subst (λ z. AreJoined z a b) is_boxes g)) i j
          (omega arith) (omega arith) ((numbered.same i j (omega arith) (omega arith)).1 e);
      ordered = λ i p lt under. numbered.ordered i p (omega arith) under;
      used = λ p lt. let r = numbered.used p (omega (arith, divided.each)) in (r.0, omega (arith, r.1), r.2);
      rings_of_part = λ p d lt. divided.members p d (omega (arith, divided.each));
    }

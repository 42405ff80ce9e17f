-- A tree's keys as a finite set, and sets of elements.
use Rattle.std.proofs.Common.{◌≡◌, ℕ, zero, suc, Bool, true, false, not, ◌&&◌, ◌||◌, inl, inr, cond, List, [], ◌∷◌, drop, take}
use Rattle.std.proofs.Common.{refl, ap, sym, subst, ◌∙◌}
use Rattle.std.proofs.lemmas.Bool.{and_from, and_parts, or_cases, or_left, or_right}
use Rattle.std.proofs.lemmas.Bool.Decides.{same_from_decides}
use Rattle.std.specs.Bool.{Decides}
use Rattle.std.specs.BTreeMap.{is_at}
use Rattle.std.specs.declared.cmp.Ordering.{Ordering}
use Rattle.std.specs.Cmp.{Equal-is, IsTotalOrder, eq_by_cmp_equiv}
use Rattle.std.specs.FinSet.{IsAntisymmetric, contains, contains-from_list, contains-insert, contains-items, contains-remove}
use Rattle.std.specs.FinSet.{from_list, insert, items}
use Rattle.std.specs.FinSet.{remove, same_set}
use Rattle.std.specs.List.{list_all, list_any}
use Rattle.std.specs.Ordering.{eq_by_cmp}
use Rattle.txn_commands.specs.declared.element.Element.{Element}
use Rattle.txn_commands.specs.Elements.{Touched, element_cmp, element_eq, elements_exact, elements_total}

pub or_cond : (b x : Bool) → cond b true x ≡ (b || x)
or_cond true x = refl
or_cond false x = refl

pub not_cond : (b x : Bool) → cond b false x ≡ (not b && x)
not_cond true x = refl
not_cond false x = refl

any_behind : {X : Type 0} (p : X → Bool) (n : ℕ) (xs : List X) → list_any p (drop n xs) ≡ true → list_any p xs ≡ true
any_behind p zero xs there = there
any_behind p (suc n) [] there = there
any_behind p (suc n) (x ∷ xs) there = or_right (p x) (list_any p xs) (any_behind p n xs there)

any_before : {X : Type 0} (p : X → Bool) (n : ℕ) (xs : List X) → list_any p (take n xs) ≡ true → list_any p xs ≡ true
any_before p zero xs there = absurd cc
any_before p (suc n) [] there = there
any_before p (suc n) (x ∷ xs) there = elim (or_cases (p x) (list_any p (take n xs)) there) [
  | inl this ↦ or_left (p x) (list_any p xs) this
  | inr other ↦ or_right (p x) (list_any p xs) (any_before p n xs other)
]

-- of any kind, in an order that tells them apart
module _ {K : Type 0} {R : K → K → Ordering} (total : IsTotalOrder R) (exact : IsAntisymmetric R) where
  -- a key added to a tree's keys is added to their set
  pub key_added : (ks ls : List K) (k : K)
      → ((q : K) → list_any (is_at (R q)) ls ≡ cond (is_at (R k) q) true (list_any (is_at (R q)) ks))
      → from_list {R = R} ls ≡ insert (from_list ks) k
  key_added ks ls k h = same_set total exact _ _ (λ q. contains-from_list total ls q ∙ h q
      ∙ or_cond (is_at (R k) q) (list_any (is_at (R q)) ks)
      ∙ ap (λ b. b || list_any (is_at (R q)) ks) ((eq_by_cmp_equiv total).symm k q)
      ∙ sym (contains-insert total (from_list ks) k q
      ∙ ap (λ b. eq_by_cmp R q k || b) (contains-from_list total ks q)))

  -- and one that is removed from them is removed from it
  pub key_removed : (ks ls : List K) (k : K)
      → ((q : K) → list_any (is_at (R q)) ls ≡ cond (is_at (R k) q) false (list_any (is_at (R q)) ks))
      → from_list {R = R} ls ≡ remove (from_list ks) k
  key_removed ks ls k h = same_set total exact _ _ (λ q. contains-from_list total ls q ∙ h q
      ∙ not_cond (is_at (R k) q) (list_any (is_at (R q)) ks)
      ∙ ap (λ b. not b && list_any (is_at (R q)) ks) ((eq_by_cmp_equiv total).symm k q)
      ∙ sym (contains-remove total (from_list ks) k q
      ∙ ap (λ b. not (eq_by_cmp R q k) && b) (contains-from_list total ks q)))

  -- a key that is there isn't added
  there_already : (ks : List K) (k : K) → contains (from_list {R = R} ks) k ≡ true → from_list {R = R} ks ≡ insert (from_list ks) k
  there_already ks k there = same_set total exact _ _ each where
    by : (q : K) (b : Bool) → eq_by_cmp R q k ≡ b → contains (from_list {R = R} ks) q ≡ (b || contains (from_list {R = R} ks) q)
    by q true is = ap (contains (from_list {R = R} ks)) (exact q k ((Equal-is (R q k)).0 is)) ∙ there
    by q false is = refl

    each : (q : K) → contains (from_list {R = R} ks) q ≡ contains (insert (from_list {R = R} ks) k) q
    each q = by q (eq_by_cmp R q k) refl ∙ sym (contains-insert total (from_list ks) k q)

  -- also where it is looked for in a part of a list, from the side of the others
  pub part_already : (ks : List K) (m n : ℕ) (k : K) → list_any (λ y. eq_by_cmp R y k) (take m (drop n ks)) ≡ true →
      from_list {R = R} ks ≡ insert (from_list ks) k
  part_already ks m n k there =
      there_already ks k (contains-from_list total ks k ∙ (λ i. list_any (λ y. (eq_by_cmp_equiv total).symm k y i) ks)
      ∙ any_behind (λ y. eq_by_cmp R y k) n ks (any_before (λ y. eq_by_cmp R y k) m (drop n ks) there))

  -- what a tree answers of a key is what the set of its keys does
  pub key_there : (ks : List K) (k : K) → list_any (is_at (R k)) ks ≡ contains (from_list {R = R} ks) k
  key_there ks k = sym (contains-from_list total ks k)

-- the equality of elements decides
pub element_eq-Decides : (e f : Element) → Decides (element_eq e f) (e ≡ f)
element_eq-Decides e f = (
  λ h. elements_exact e f ((Equal-is (element_cmp e f)).0 h),
  λ same. subst (λ (g : Element). element_eq e g ≡ true) same ((eq_by_cmp_equiv elements_total).refl e),
)

-- an element of the set, looked for among its items from their side
pub contains-back : (s : Touched) (e : Element) → list_any (λ f. element_eq f e) (items s) ≡ contains s e
contains-back s e = (λ i. list_any (λ f. (eq_by_cmp_equiv elements_total).symm f e i) (items s)) ∙ sym (contains-items s e)

-- where all elements of a list pass a test, each that the list has passes it
pub each_passes : (p : Element → Bool) (xs : List Element) → list_all p xs ≡ true → (q : Element) → list_any (element_eq q) xs ≡ true →
    p q ≡ true
each_passes p [] all q there = absurd cc
each_passes p (x ∷ xs) all q there =
    let here = and_parts (p x) (list_all p xs) all in
    elim (or_cases (element_eq q x) (list_any (element_eq q) xs) there) [
      | inl this ↦ ap p (elements_exact q x ((Equal-is (element_cmp q x)).0 this)) ∙ here.0
      | inr other ↦ each_passes p xs here.1 q other
    ]

all_pass : (p : Element → Bool) (xs : List Element) → ((q : Element) → list_any (element_eq q) xs ≡ true → p q ≡ true) →
    list_all p xs ≡ true
all_pass p [] each = refl
all_pass p (x ∷ xs) each =
    and_from (p x) (list_all p xs) (each x (or_left _ _ ((eq_by_cmp_equiv elements_total).refl x)))
    (all_pass p xs (λ q there. each q (or_right (element_eq q x) (list_any (element_eq q) xs) there)))

-- all keys of a tree pass a test where all elements of their set do
pub all_items : (p : Element → Bool) (ks : List Element) → list_all p ks ≡ list_all p (items (from_list {R = element_cmp} ks))
all_items p ks = same_from_decides {P = list_all p there ≡ true} (list_all p ks) (list_all p there) (
  λ all. all_pass p there (λ q h. each_passes p ks all q (same q ∙ h)),
  λ all. all_pass p ks (λ q h. each_passes p there all q (sym (same q) ∙ h)),
)
    (λ all. all, λ all. all) where
      there : List Element
      there = items (from_list {R = element_cmp} ks)

      same : (q : Element) → list_any (element_eq q) ks ≡ list_any (element_eq q) there
      same q = sym (contains-from_list elements_total ks q) ∙ contains-items (from_list {R = element_cmp} ks) q

-- Sorted lists without repeats rise; and lists to which what passes a test is added.
use Rattle.std.proofs.Common.{◌≡◌, ◌↔◌, ◌⊎◌, ⊎_elim, inl, inr, ℕ, ◌+◌, ◌<◌, List, [], ◌∷◌}
use Rattle.std.proofs.Common.{◌++◌, length, get_or, take, Bool, true, false, cond}
use Rattle.std.proofs.Common.{refl, sym, ap, ◌∙◌, subst, arith, Contains, Decides}
use Rattle.std.specs.declared.cmp.Ordering.{Ordering}
use Rattle.std.specs.declared.cmp.Ordering.TheVariants.{Less}
use Rattle.std.specs.Ordering.{eq_by_cmp}
use Rattle.std.specs.Cmp.{IsTotalOrder, decided}
use Rattle.std.specs.List.Retain.{IsFiltered, DiffersFromLast}
use Rattle.std.specs.List.Sorted.{IsPermutation, IsSorted, IsStrictlySortedBy}
use Rattle.std.proofs.lemmas.Bool.{false≢true}
use Rattle.std.proofs.lemmas.List.{take_more}
use Rattle.std.proofs.lemmas.List.Filters.{dedup_is}
use Rattle.std.proofs.lemmas.List.Kept.{IsStrictlySortedBy-dedup, Contains-dedup, Contains-from_dedup}
use Rattle.std.proofs.lemmas.List.Sorted.{Contains-permutation, IsPermutation-sym}
use Rattle.std.proofs.lemmas.List.Elements.{Contains-append_left, Contains-push, Contains-push_cases}
use Rattle.lay_point.specs.Rising.{IsRising}

pub rising_from_strict : {A : Type 0} (cmp : A → A → Ordering) (Before : A → A → Type 0) → ((x y : A) → cmp x y ≡ Less → Before x y)
    → (xs : List A) → IsStrictlySortedBy cmp xs → IsRising Before xs
unfolding IsStrictlySortedBy
rising_from_strict cmp Before less [] h = tt
rising_from_strict cmp Before less (x ∷ []) h = tt
rising_from_strict cmp Before less (x ∷ y ∷ ys) h = (less x y h.0.0, rising_from_strict cmp Before less (y ∷ ys) h.1)

-- beside what holds already, the elements that pass: f, which is its own inverse, tells as what each is kept
abbrev pub ArePassed : {A : Type 0} (P Q : A → Type 0) (f : A → A) (xs kept : List A) → Type 0
ArePassed {A} P Q f xs kept = (c : A) → Contains kept c ↔ (Q c ⊎ (Contains xs (f c) × P (f c)))

pub none_passed : {A : Type 0} (P : A → Type 0) (f : A → A) (kept : List A) → ArePassed P (Contains kept) f [] kept
none_passed P f kept c = (inl, λ h. ⊎_elim (λ (was : Contains kept c). was) (λ more. absurd (omega (arith, more.0.1))) h)

-- one more element, which is kept where it passes
module _ {A : Type 0} (P Q : A → Type 0) (f : A → A) (twice : (c : A) → f (f c) ≡ c) (xs : List A) (i : ℕ) (x : A) (old : List A)
    (lt : i < length xs) (at : get_or xs i x ≡ x) (so_far : ArePassed P Q f (take i xs) old) where
  further : take (i + 1) xs ≡ take i xs ++ x ∷ []
  further = take_more xs i x lt ∙ ap (λ u. take i xs ++ u ∷ []) at

  last : (c : A) → x ≡ f c → Contains (take (i + 1) xs) (f c)
  last c same = subst (λ l. Contains l (f c)) (sym further) (subst (Contains (take i xs ++ x ∷ [])) same (Contains-push (take i xs) x))

  was_in : (c : A) → Contains (take i xs) (f c) → Contains (take (i + 1) xs) (f c)
  was_in c m = subst (λ l. Contains l (f c)) (sym further) (Contains-append_left (take i xs) (x ∷ []) (f c) m)

  widened : (c : A) → Q c ⊎ (Contains (take i xs) (f c) × P (f c)) → Q c ⊎ (Contains (take (i + 1) xs) (f c) × P (f c))
  widened c h = ⊎_elim (λ (was : Q c). inl was) (λ m. inr (was_in c m.0, m.1)) h

  pub kept_more : (passes : Bool) (new : List A) → Decides passes (P x) → new ≡ cond passes (old ++ f x ∷ []) old
      → ArePassed P Q f (take (i + 1) xs) new
  kept_more true new d e c = (
    (λ w. ⊎_elim
        (λ was. widened c ((so_far c).0 was))
        (λ same.
        let here : x ≡ f c = sym (twice x) ∙ ap f same in
        inr (last c here, subst P here (d.0 refl)))
        (Contains-push_cases old (f x) c (subst (λ l. Contains l c) e w))),
    (λ h. subst (λ l. Contains l c) (sym e) (⊎_elim
        (λ (was : Q c). Contains-append_left old (f x ∷ []) c ((so_far c).1 (inl was)))
        (λ m. ⊎_elim
        (λ before. Contains-append_left old (f x ∷ []) c ((so_far c).1 (inr (before, m.1))))
        (λ same. subst (Contains (old ++ f x ∷ [])) (ap f same ∙ twice c) (Contains-push old (f x)))
        (Contains-push_cases (take i xs) x (f c) (subst (λ l. Contains l (f c)) further m.0)))
        h)),
  )
  kept_more false new d e c = (
    (λ w. widened c ((so_far c).0 (subst (λ l. Contains l c) e w))),
    (λ h. subst (λ l. Contains l c) (sym e) (⊎_elim
        (λ (was : Q c). (so_far c).1 (inl was))
        (λ m. ⊎_elim
        (λ before. (so_far c).1 (inr (before, m.1)))
        (λ same. absurd (false≢true (d.1 (subst P (sym same) m.1))))
        (Contains-push_cases (take i xs) x (f c) (subst (λ l. Contains l (f c)) further m.0)))
        h)),
  )

-- an order that `sort` and `dedup` go by, and the same order as a relation
pub record IsOrder {A : Type 0} (cmp : A → A → Ordering) (same : A → A → Bool) (Before : A → A → Type 0) : Type 0 where
  pub total : IsTotalOrder cmp
  pub decides : (x y : A) → Decides (same x y) (x ≡ y)
  pub ties : (x y : A) → same x y ≡ eq_by_cmp cmp x y
  pub less : (x y : A) → cmp x y ≡ Less → Before x y

-- what a sort and then `dedup` make of a list
pub record IsSortedOnce {A : Type 0} (Before : A → A → Type 0) (xs zs : List A) : Type 0 where
  pub rising : IsRising Before zs
  pub members : (x : A) → Contains zs x ↔ Contains xs x

pub sorted_once : {A : Type 0} {cmp : A → A → Ordering} {same : A → A → Bool} (Before : A → A → Type 0) → IsOrder cmp same Before
    → (xs ys zs : List A) → IsPermutation xs ys → IsSorted cmp ys → IsFiltered (DiffersFromLast same) [] ys zs → IsSortedOnce Before xs zs
sorted_once {A} {cmp} {same} Before order xs ys zs moved sorted filtered =
    let kept = dedup_is same ys zs filtered in
    let back = IsPermutation-sym xs ys moved in
    record {
      rising = subst (IsRising Before) (sym kept)
          (rising_from_strict cmp Before order.less _ (IsStrictlySortedBy-dedup order.total order.ties ys sorted));
      members = λ x. (
        (λ w. Contains-permutation ys xs x back (Contains-from_dedup same ys x (subst (λ l. Contains l x) kept w))),
        (λ w. subst (λ l. Contains l x) (sym kept)
            (Contains-dedup (decided same order.decides) (λ p q e. (order.decides p q).0 e) ys x (Contains-permutation xs ys x moved w))),
      );
    }

-- Elements that are added to a footprint, and taken out again.
use Rattle.std.proofs.Common.{◌≡◌, ℕ, Bool, true, false, ◌||◌, ◌&&◌, cond, not, List, [], ◌∷◌}
use Rattle.std.proofs.Common.{◌++◌, take, zero, suc, refl, ap, sym, subst, ◌∙◌, inl, inr, length}
use Rattle.std.proofs.lemmas.Bool.{or_cases, or_left, or_right}
use Rattle.std.specs.FinSet.{contains, contains-remove, insert, remove, same_set}
use Rattle.std.specs.Ordering.{eq_by_cmp}
use Rattle.txn_commands.specs.declared.element.Element.{Element}
use Rattle.txn_commands.specs.Covers.{has}
use Rattle.txn_commands.specs.Elements.{Touched, element_cmp, elements_exact, elements_total, with_elements}
use Rattle.txn_rules.proofs.Runs.{contains-with}
use Rattle.txn_marks.proofs.SetLemmas.{element_eq-Decides}
use Rattle.txn_work.specs.Marking.{HasNone, missing_in, without_elements}

same_elements : (s t : Touched) → ((e : Element) → contains s e ≡ contains t e) → s ≡ t
same_elements s t h = same_set elements_total elements_exact s t h

-- what is left without some elements
contains-without : (t : Touched) (es : List Element) (e : Element) → contains (without_elements t es) e ≡ (not (has e es) && contains t e)
contains-without t [] e = refl
contains-without t (x ∷ es) e =
    contains-without (remove t x) es e
    ∙ ap (λ b. not (has e es) && b) (contains-remove elements_total t x e)
    ∙ swapped (has e es) (eq_by_cmp element_cmp e x) (contains t e) where
      swapped : (a b c : Bool) → (not a && (not b && c)) ≡ (not (b || a) && c)
      swapped true true c = refl
      swapped true false c = refl
      swapped false true c = refl
      swapped false false c = refl

-- a prefix of the elements has no others
front_has : (n : ℕ) (es : List Element) (e : Element) → has e (take n es) ≡ true → has e es ≡ true
front_has zero es e h = absurd cc
front_has (suc n) [] e h = h
front_has (suc n) (x ∷ es) e h = elim (or_cases (eq_by_cmp element_cmp e x) (has e (take n es)) h) [
  | inl first ↦ or_left (eq_by_cmp element_cmp e x) (has e es) first
  | inr behind ↦ or_right (eq_by_cmp element_cmp e x) (has e es) (front_has n es e behind)
]

same_element : (e x : Element) → eq_by_cmp element_cmp e x ≡ true → e ≡ x
same_element e x h = (element_eq-Decides e x).0 h

-- an element that the footprint hasn't, under each of its names
none_has : (t : Touched) (es : List Element) (e : Element) → HasNone t es → has e es ≡ true → contains t e ≡ false
none_has t [] e none h = absurd cc
none_has t (x ∷ es) e none h = elim (or_cases (eq_by_cmp element_cmp e x) (has e es) h) [
  | inl first ↦ subst (λ (y : Element). contains t y ≡ false) (sym (same_element e x first)) none.0
  | inr behind ↦ none_has t es e none.1 behind
]

-- adding some of the elements that weren't there, and removing them all, changes nothing
pub undone : (t : Touched) (n : ℕ) (es : List Element) → HasNone t es → without_elements (with_elements t (take n es)) es ≡ t
undone t n es none = same_elements (without_elements (with_elements t (take n es)) es) t (λ e.
    contains-without (with_elements t (take n es)) es e ∙ ap (λ b. not (has e es) && b) (contains-with t (take n es) e)
    ∙ by_has e (has e es) (has e (take n es)) (contains t e) refl refl refl) where
      by_has : (e : Element) (a b c : Bool) → has e es ≡ a → has e (take n es) ≡ b → contains t e ≡ c → (not a && (b || c)) ≡ c
      by_has e true b c here front there = sym (none_has t es e none here) ∙ there
      by_has e false true c here front there = absurd (let t = front_has n es e front in cc)
      by_has e false false c here front there = refl

-- adding what is missing adds all
pub missing_added : (t : Touched) (es : List Element) → with_elements t (missing_in t es) ≡ with_elements t es
missing_added t es = same_elements (with_elements t (missing_in t es)) (with_elements t es) (λ e.
    contains-with t (missing_in t es) e ∙ same_or es e ∙ sym (contains-with t es e)) where
      same_or : (xs : List Element) (e : Element) → (has e (missing_in t xs) || contains t e) ≡ (has e xs || contains t e)
      same_or [] e = refl
      same_or (x ∷ xs) e = by_there (contains t x) (eq_by_cmp element_cmp e x) refl refl (same_or xs e) where
        by_there : (a b : Bool) → contains t x ≡ a → eq_by_cmp element_cmp e x ≡ b →
            (has e (missing_in t xs) || contains t e) ≡ (has e xs || contains t e) →
            (has e (cond (not a) (x ∷ missing_in t xs) (missing_in t xs)) || contains t e) ≡ ((b || has e xs) || contains t e)
        by_there true true there is rest =
            let here : contains t e ≡ true = subst (λ (y : Element). contains t y ≡ true) (sym (same_element e x is)) there in
            rw here (or_right (has e (missing_in t xs)) true refl)
        by_there true false there is rest = rest
        by_there false true there is rest = rw is refl
        by_there false false there is rest = rw is rest

-- what is missing isn't there
pub missing_none : (t : Touched) (es : List Element) → HasNone t (missing_in t es)
missing_none t [] = tt
missing_none t (x ∷ es) = by_there (contains t x) refl (missing_none t es) where
  by_there : (a : Bool) → contains t x ≡ a → HasNone t (missing_in t es) → HasNone t (cond (not a) (x ∷ missing_in t es) (missing_in t es))
  by_there true h rest = rest
  by_there false h rest = (h, rest)

whole : (es : List Element) → take (length es) es ≡ es
whole [] = refl
whole (e ∷ es) = ap (λ xs. e ∷ xs) (whole es)

pub all_undone : (t : Touched) (es : List Element) → HasNone t es → without_elements (with_elements t es) es ≡ t
all_undone t es none =
    ap (λ (xs : List Element). without_elements (with_elements t xs) es) (sym (whole es))
    ∙ undone t (length es) es none

-- an element more
pub with_more : (t : Touched) (es : List Element) (e : Element) → with_elements t (es ++ e ∷ []) ≡ insert (with_elements t es) e
with_more t [] e = refl
with_more t (x ∷ es) e = with_more (insert t x) es e

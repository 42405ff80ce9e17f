-- A stretch of a list that rises: the elements from one of them to another.
use Rattle.std.proofs.Common.{◌≡◌, ◌↔◌, inl, inr, ⊎_elim, ℕ, zero, suc, ◌+◌, ◌-◌, ◌<◌, ◌≤◌, List, [], ◌∷◌, ◌++◌, length, get_or, take, drop}
use Rattle.std.proofs.Common.{refl, sym, ap, subst, ◌∙◌, arith, Contains}
use Rattle.std.specs.Prelude.{slice_range, reverse}
use Rattle.std.proofs.lemmas.Bool.{cases_lt}
use Rattle.std.proofs.lemmas.List.{get_or-drop, get_or-take, length-drop, length-take, get_or_default, reverse-append}
use Rattle.lay_point.specs.Rising.{IsRising}
use Rattle.lay_point.proofs.Members.{Has, has, contains, has-append, has-append_left, has-append_right}
use Rattle.lay_point.proofs.Rising.{IsStrictOrder, IsUpTo, rising_rest}
use Rattle.lay_point.proofs.ListLaws.{before_by_number}

rising_drop : {A : Type 0} (Before : A → A → Type 0) (n : ℕ) (xs : List A) → IsRising Before xs → IsRising Before (drop n xs)
rising_drop Before zero xs h = h
rising_drop Before (suc n) [] h = tt
rising_drop Before (suc n) (x ∷ xs) h = rising_drop Before n xs (rising_rest Before x xs h)

rising_take : {A : Type 0} (Before : A → A → Type 0) (n : ℕ) (xs : List A) → IsRising Before xs → IsRising Before (take n xs)
rising_take Before zero xs h = tt
rising_take Before (suc n) [] h = tt
rising_take Before (suc zero) (x ∷ xs) h = tt
rising_take Before (suc (suc n)) (x ∷ []) h = tt
rising_take Before (suc (suc n)) (x ∷ y ∷ ys) h = (h.0, rising_take Before (suc n) (y ∷ ys) h.1)

pub rising_range : {A : Type 0} (Before : A → A → Type 0) (xs : List A) (i j : ℕ) → IsRising Before xs
    → IsRising Before (slice_range xs i j)
rising_range Before xs i j h = rising_take Before (j - i) (drop i xs) (rising_drop Before i xs h)

-- a list that rises in one order, in another that its elements have too
pub rising_in : {A : Type 0} (Before After : A → A → Type 0) (xs : List A)
    → ((x y : A) → Has xs x → Has xs y → Before x y → After x y) → IsRising Before xs → IsRising After xs
rising_in Before After [] f h = tt
rising_in Before After (x ∷ []) f h = tt
rising_in Before After (x ∷ y ∷ ys) f h = (
  f x y (inl refl) (inr (inl refl)) h.0,
  rising_in Before After (y ∷ ys) (λ a b m n. f a b (inr m) (inr n)) h.1,
)

-- ---- back
pub back_more : {A : Type 0} (x : A) (xs : List A) → reverse (x ∷ xs) ≡ reverse xs ++ x ∷ []
back_more x xs = reverse-append (x ∷ []) xs

rising_push : {A : Type 0} (Before : A → A → Type 0) (xs : List A) (x y : A) → IsRising Before (xs ++ x ∷ []) → Before x y
    → IsRising Before ((xs ++ x ∷ []) ++ y ∷ [])
rising_push Before [] x y h b = (b, tt)
rising_push Before (z ∷ []) x y h b = (h.0, (b, tt))
rising_push Before (z ∷ w ∷ ws) x y h b = (h.0, rising_push Before (w ∷ ws) x y h.1 b)

pub rising_back : {A : Type 0} (Before : A → A → Type 0) (xs : List A) → IsRising (λ x y. Before y x) xs → IsRising Before (reverse xs)
rising_back Before [] h = tt
rising_back Before (x ∷ []) h = tt
rising_back Before (x ∷ y ∷ ys) h =
    subst (IsRising Before) (sym (back_more x (y ∷ ys) ∙ ap (λ l. l ++ x ∷ []) (back_more y ys)))
    (rising_push Before (reverse ys) y x (subst (IsRising Before) (back_more y ys) (rising_back Before (y ∷ ys) h.1)) h.0)

pub has-reverse : {A : Type 0} (xs : List A) (x : A) → Has xs x → Has (reverse xs) x
has-reverse [] x h = absurd h
has-reverse (y ∷ ys) x (inl e) = subst (λ l. Has l x) (sym (back_more y ys)) (has-append_right (reverse ys) (y ∷ []) x (inl e))
has-reverse (y ∷ ys) x (inr h) = subst (λ l. Has l x) (sym (back_more y ys)) (has-append_left (reverse ys) (y ∷ []) x (has-reverse ys x h))

pub reverse-has : {A : Type 0} (xs : List A) (x : A) → Has (reverse xs) x → Has xs x
reverse-has [] x h = absurd h
reverse-has (y ∷ ys) x h = ⊎_elim (λ (m : Has (reverse ys) x). inr (reverse-has ys x m))
    (λ (m : Has (y ∷ []) x). ⊎_elim (λ (e : y ≡ x). inl e) (λ z. absurd z) m)
    (has-append (reverse ys) (y ∷ []) x (subst (λ l. Has l x) (back_more y ys) h))

-- ---- what is in a stretch
module _ {A : Type 0} (xs : List A) (i j : ℕ) (ordered : i ≤ j) (inside : j < length xs) where
  pub in_stretch : (c : A) → Contains (slice_range xs i (j + 1)) c → (k : ℕ) × (i ≤ k) × (k ≤ j) × (get_or xs k c ≡ c)
  in_stretch c (k, lt, at) =
      let short : k < j + 1 - i = omega (arith, lt, length-take (j + 1 - i) (drop i xs)) in (
        i + k,
        omega arith,
        omega arith,
        sym (get_or-take (j + 1 - i) (drop i xs) k c short ∙ get_or-drop i xs k c) ∙ at,
      )

  pub stretch_has : (c : A) (k : ℕ) → i ≤ k → k ≤ j → get_or xs k c ≡ c → Contains (slice_range xs i (j + 1)) c
  stretch_has c k low high at =
      let back : i + (k - i) ≡ k = omega arith in (
        k - i,
        omega (arith, low, high, inside, length-take (j + 1 - i) (drop i xs), length-drop i xs),
        get_or-take (j + 1 - i) (drop i xs) (k - i) c (omega arith) ∙ get_or-drop i xs (k - i) c ∙ ap (λ l. get_or xs l c) back ∙ at,
      )

-- ---- a stretch has what is between its ends
module _ {A : Type 0} (Before : A → A → Type 0) (laws : IsStrictOrder Before) (xs : List A) (up : IsRising Before xs)
    (i j : ℕ) (a b : A) (ordered : i ≤ j) (inside : j < length xs) (first : get_or xs i a ≡ a) (last : get_or xs j b ≡ b) where
  from_first : (k : ℕ) (c : A) → i ≤ k → k < length xs → get_or xs k c ≡ c → IsUpTo Before a c
  from_first k c le lt at = ⊎_elim
      (λ (less : i < k). inr (subst (λ v. Before v c) (get_or_default xs i c a (omega arith) ∙ first)
      (subst (Before (get_or xs i c)) at (before_by_number Before laws xs i k c up less lt))))
      (λ (ge : k ≤ i).
      let e : i ≡ k = omega arith in
      inl (sym first ∙ get_or_default xs i a c (omega arith) ∙ ap (λ n. get_or xs n c) e ∙ at))
      (cases_lt i k)

  to_last : (k : ℕ) (c : A) → k ≤ j → get_or xs k c ≡ c → IsUpTo Before c b
  to_last k c le at = ⊎_elim
      (λ (less : k < j). inr (subst (Before c) (get_or_default xs j c b inside ∙ last)
      (subst (λ v. Before v (get_or xs j c)) at (before_by_number Before laws xs k j c up less inside))))
      (λ (ge : j ≤ k).
      let e : k ≡ j = omega arith in
      inl (sym at ∙ ap (λ n. get_or xs n c) e ∙ get_or_default xs j c b inside ∙ last))
      (cases_lt k j)

  pub stretch_is_between : (c : A) → Contains (slice_range xs i (j + 1)) c
      ↔ (Contains xs c × IsUpTo Before a c × IsUpTo Before c b)
  stretch_is_between c = (forth, back)
    where
      forth : Contains (slice_range xs i (j + 1)) c → Contains xs c × IsUpTo Before a c × IsUpTo Before c b
      forth m =
          let k = in_stretch xs i j ordered inside c m in
          ((k.0, omega (arith, k.2, inside), k.3), from_first k.0 c k.1 (omega (arith, k.2, inside)) k.3, to_last k.0 c k.2 k.3)

      before_first : (k : ℕ) → k < i → get_or xs k c ≡ c → IsUpTo Before a c → ⊥
      before_first k less at (inl e) = laws.irreflexive a (subst (λ v. Before v a) (at ∙ sym e)
          (subst (Before (get_or xs k c)) (get_or_default xs i c a (omega arith) ∙ first)
          (before_by_number Before laws xs k i c up less (omega arith))))
      before_first k less at (inr before) = laws.irreflexive a (laws.transitive a c a before (subst (λ v. Before v a) at
          (subst (Before (get_or xs k c)) (get_or_default xs i c a (omega arith) ∙ first)
          (before_by_number Before laws xs k i c up less (omega arith)))))

      after_last : (k : ℕ) → j < k → k < length xs → get_or xs k c ≡ c → IsUpTo Before c b → ⊥
      after_last k more lt at (inl e) = laws.irreflexive b (subst (Before b) (at ∙ e)
          (subst (λ v. Before v (get_or xs k c)) (get_or_default xs j c b inside ∙ last)
          (before_by_number Before laws xs j k c up more lt)))
      after_last k more lt at (inr before) = laws.irreflexive b (laws.transitive b c b (subst (Before b) at
          (subst (λ v. Before v (get_or xs k c)) (get_or_default xs j c b inside ∙ last)
          (before_by_number Before laws xs j k c up more lt))) before)

      back : Contains xs c × IsUpTo Before a c × IsUpTo Before c b → Contains (slice_range xs i (j + 1)) c
      back ((k, lt, at), low, high) = stretch_has xs i j ordered inside c k
          (⊎_elim (λ (less : k < i). absurd (before_first k less at low)) (λ (ge : i ≤ k). ge) (cases_lt k i))
          (⊎_elim (λ (more : j < k). absurd (after_last k more lt at high)) (λ (le : k ≤ j). le) (cases_lt j k))
          at

pub has_drop : {A : Type 0} (n : ℕ) (xs : List A) (c : A) → Has (drop n xs) c → Has xs c
has_drop zero xs c h = h
has_drop (suc n) [] c h = h
has_drop (suc n) (x ∷ xs) c h = inr (has_drop n xs c h)

pub has_take : {A : Type 0} (n : ℕ) (xs : List A) (c : A) → Has (take n xs) c → Has xs c
has_take zero xs c h = absurd h
has_take (suc n) [] c h = h
has_take (suc n) (x ∷ xs) c (inl e) = inl e
has_take (suc n) (x ∷ xs) c (inr h) = inr (has_take n xs c h)

pub in_whole : {A : Type 0} (xs : List A) (i j : ℕ) (c : A) → Contains (slice_range xs i j) c → Contains xs c
in_whole xs i j c m = contains xs c (has_drop i xs c (has_take (j - i) (drop i xs) c (has (slice_range xs i j) c m)))

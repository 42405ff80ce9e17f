-- What lists contain that are made of others.
use Rattle.std.proofs.Common.{◌≡◌, ◌∙◌, ◌<◌, ◌≤◌, ◌⊎◌, inl, inr, Bool, true, false, true≢false}
use Rattle.std.proofs.Common.{cond, List, [], ◌∷◌, length, map, refl, ap, sym, subst, arith, Contains}
use Rattle.std.specs.Prelude.{filter, flat_map}
use Rattle.std.proofs.lemmas.List.Elements.{Contains-append_cases, Contains-append_left}
use Rattle.std.proofs.lemmas.List.Elements.{Contains-append_right, Contains-push, Contains-push_cases}

module _ {A : Type 0} where
  pub contains_first : (x : A) (xs : List A) → Contains (x ∷ xs) x
  contains_first x xs = Contains-append_left (x ∷ []) xs x (Contains-push [] x)

  pub contains_behind : (x : A) (xs : List A) (y : A) → Contains xs y → Contains (x ∷ xs) y
  contains_behind x xs y h = Contains-append_right (x ∷ []) xs y h

  pub contains_none : (y : A) → Contains [] y → ⊥
  contains_none y h = omega (arith, h.1)

  pub contains_cases : (x : A) (xs : List A) (y : A) → Contains (x ∷ xs) y → (x ≡ y) ⊎ Contains xs y
  contains_cases x xs y h = elim (Contains-append_cases (x ∷ []) xs y h) [
    | inl first ↦ elim (Contains-push_cases [] x y first) [
      | inl none ↦ absurd (contains_none y none)
      | inr same ↦ inl same
    ]
    | inr behind ↦ inr behind
  ]

  pub contains_filtered : (p : A → Bool) (xs : List A) (y : A) → Contains xs y → p y ≡ true → Contains (filter p xs) y
  contains_filtered p [] y h passes = absurd (contains_none y h)
  contains_filtered p (x ∷ xs) y h passes =
      by_test (p x) refl (contains_cases x xs y h) (λ behind. contains_filtered p xs y behind passes) where
        by_test : (b : Bool) → p x ≡ b → (x ≡ y) ⊎ Contains xs y → (Contains xs y → Contains (filter p xs) y)
            → Contains (cond b (x ∷ filter p xs) (filter p xs)) y
        by_test true is (inl same) rest = subst (λ z. Contains (x ∷ filter p xs) z) same (contains_first x (filter p xs))
        by_test true is (inr behind) rest = contains_behind x (filter p xs) y (rest behind)
        by_test false is (inl same) rest = absurd (true≢false (sym passes ∙ sym (ap p same) ∙ is))
        by_test false is (inr behind) rest = rest behind

  pub filtered_contains : (p : A → Bool) (xs : List A) (y : A) → Contains (filter p xs) y → Contains xs y × (p y ≡ true)
  filtered_contains p [] y h = absurd (contains_none y h)
  filtered_contains p (x ∷ xs) y h = by_test (p x) refl h (filtered_contains p xs y) where
    by_test : (b : Bool) → p x ≡ b → Contains (cond b (x ∷ filter p xs) (filter p xs)) y
        → (Contains (filter p xs) y → Contains xs y × (p y ≡ true)) → Contains (x ∷ xs) y × (p y ≡ true)
    by_test true is h rest = elim (contains_cases x (filter p xs) y h) [
      | inl same ↦ (subst (λ z. Contains (x ∷ xs) z) same (contains_first x xs), sym (ap p same) ∙ is)
      | inr behind ↦ let both = rest behind in (contains_behind x xs y both.0, both.1)
    ]
    by_test false is h rest = let both = rest h in (contains_behind x xs y both.0, both.1)

  length-filter_le : (p : A → Bool) (xs : List A) → length (filter p xs) ≤ length xs
  length-filter_le p [] = omega arith
  length-filter_le p (x ∷ xs) = by_test (p x) (length-filter_le p xs) where
    by_test : (b : Bool) → length (filter p xs) ≤ length xs → length (cond b (x ∷ filter p xs) (filter p xs)) ≤ length (x ∷ xs)
    by_test true le = omega (arith, le)
    by_test false le = omega (arith, le)

  -- where one is dropped, fewer are left
  pub length-filter_drops : (p : A → Bool) (xs : List A) (y : A) → Contains xs y → p y ≡ false → length (filter p xs) < length xs
  length-filter_drops p [] y h drops = absurd (contains_none y h)
  length-filter_drops p (x ∷ xs) y h drops =
      by_test (p x) refl (contains_cases x xs y h) (length-filter_le p xs) (λ behind. length-filter_drops p xs y behind drops) where
        by_test : (b : Bool) → p x ≡ b → (x ≡ y) ⊎ Contains xs y → length (filter p xs) ≤ length xs
            → (Contains xs y → length (filter p xs) < length xs) → length (cond b (x ∷ filter p xs) (filter p xs)) < length (x ∷ xs)
        by_test true is (inl same) le rest = absurd (true≢false (sym is ∙ ap p same ∙ drops))
        by_test true is (inr behind) le rest = let less = rest behind in omega (arith, less)
        by_test false is found le rest = omega (arith, le)

module _ {A B : Type 0} where
  pub contains_mapped : (f : A → B) (xs : List A) (x : A) → Contains xs x → Contains (map f xs) (f x)
  contains_mapped f [] x h = absurd (contains_none x h)
  contains_mapped f (y ∷ ys) x h = elim (contains_cases y ys x h) [
    | inl same ↦ subst (λ z. Contains (map f (y ∷ ys)) (f z)) same (contains_first (f y) (map f ys))
    | inr behind ↦ contains_behind (f y) (map f ys) (f x) (contains_mapped f ys x behind)
  ]

  pub mapped_contains : (f : A → B) (xs : List A) (y : B) → Contains (map f xs) y → (x : A) × Contains xs x × (f x ≡ y)
  mapped_contains f [] y h = absurd (contains_none y h)
  mapped_contains f (x ∷ xs) y h = elim (contains_cases (f x) (map f xs) y h) [
    | inl same ↦ (x, contains_first x xs, same)
    | inr behind ↦ let found = mapped_contains f xs y behind in (found.0, contains_behind x xs found.0 found.1, found.2)
  ]

  pub contains_joined : (f : A → List B) (xs : List A) (x : A) (y : B) → Contains xs x → Contains (f x) y → Contains (flat_map f xs) y
  contains_joined f [] x y h there = absurd (contains_none x h)
  contains_joined f (z ∷ zs) x y h there = elim (contains_cases z zs x h) [
    | inl same ↦ Contains-append_left (f z) (flat_map f zs) y (subst (λ w. Contains (f w) y) (sym same) there)
    | inr behind ↦ Contains-append_right (f z) (flat_map f zs) y (contains_joined f zs x y behind there)
  ]

  pub joined_contains : (f : A → List B) (xs : List A) (y : B) → Contains (flat_map f xs) y → (x : A) × Contains xs x × Contains (f x) y
  joined_contains f [] y h = absurd (contains_none y h)
  joined_contains f (x ∷ xs) y h = elim (Contains-append_cases (f x) (flat_map f xs) y h) [
    | inl first ↦ (x, contains_first x xs, first)
    | inr behind ↦ let found = joined_contains f xs y behind in (found.0, contains_behind x xs found.0 found.1, found.2)
  ]

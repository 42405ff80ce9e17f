-- What is so of each element of a list stays so in lists that are made of it.
use Rattle.std.proofs.Common.{◌≡◌, Bool, true, false, List, [], ◌∷◌, ◌++◌, map}
use Rattle.std.specs.Prelude.{Option, None, Some, cond, filter, flat_map}
use Rattle.std.specs.List.{AllByRecursion, cons_option, filter_map, list_all}
use Rattle.std.proofs.lemmas.Bool.{and_parts}

pub all-append : {A : Type 0} (P : A → Type 0) (xs ys : List A) → AllByRecursion P xs → AllByRecursion P ys → AllByRecursion P (xs ++ ys)
all-append P [] ys first second = second
all-append P (x ∷ xs) ys first second = (first.0, all-append P xs ys first.1 second)

pub all-filter : {A : Type 0} (P : A → Type 0) (test : A → Bool) (xs : List A) → AllByRecursion P xs → AllByRecursion P (filter test xs)
all-filter P test [] all = tt
all-filter P test (x ∷ xs) all = by_test (test x) (all-filter P test xs all.1) where
  by_test : (t : Bool) → AllByRecursion P (filter test xs) → AllByRecursion P (cond t (x ∷ filter test xs) (filter test xs))
  by_test true rest = (all.0, rest)
  by_test false rest = rest

pub all-map : {A B : Type 0} (P : A → Type 0) (Q : B → Type 0) (f : A → B) → ((x : A) → P x → Q (f x)) → (xs : List A)
    → AllByRecursion P xs → AllByRecursion Q (map f xs)
all-map P Q f implies [] all = tt
all-map P Q f implies (x ∷ xs) all = (implies x all.0, all-map P Q f implies xs all.1)

pub all-flat_map : {A B : Type 0} (P : A → Type 0) (Q : B → Type 0) (f : A → List B) → ((x : A) → P x → AllByRecursion Q (f x)) →
    (xs : List A)
    → AllByRecursion P xs → AllByRecursion Q (flat_map f xs)
all-flat_map P Q f implies [] all = tt
all-flat_map P Q f implies (x ∷ xs) all = all-append Q (f x) (flat_map f xs) (implies x all.0) (all-flat_map P Q f implies xs all.1)

-- the values that are kept pass
abbrev pub IfKept : {B : Type 0} → (B → Type 0) → Option B → Type 0
IfKept Q None = Unit {0}
IfKept Q (Some y) = Q y

one_more : {B : Type 0} (Q : B → Type 0) (o : Option B) (ys : List B) → IfKept Q o → AllByRecursion Q ys →
    AllByRecursion Q (cons_option o ys)
one_more Q None ys kept rest = rest
one_more Q (Some y) ys kept rest = (kept, rest)

pub all-filter_map : {A B : Type 0} (P : A → Type 0) (Q : B → Type 0) (f : A → Option B) → ((x : A) → P x → IfKept Q (f x)) → (xs : List A)
    → AllByRecursion P xs → AllByRecursion Q (filter_map f xs)
all-filter_map P Q f implies [] all = tt
all-filter_map P Q f implies (x ∷ xs) all = one_more Q (f x) (filter_map f xs) (implies x all.0) (all-filter_map P Q f implies xs all.1)

-- each element passes a test
pub tested_each : {A : Type 0} (test : A → Bool) (xs : List A) → list_all test xs ≡ true → AllByRecursion (λ x. test x ≡ true) xs
tested_each test [] h = tt
tested_each test (x ∷ xs) h =
    let parts = and_parts (test x) (list_all test xs) h in
    (parts.0, tested_each test xs parts.1)

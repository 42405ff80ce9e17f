-- Laws of lists: of maps and members, of places, and of tests that some element passes.
use Rattle.std.proofs.Common.{◌≡◌, inl, inr, ℕ, zero, suc, ◌+◌, ◌-◌, ◌<◌, Bool, true, ◌||◌}
use Rattle.std.proofs.Common.{List, [], ◌∷◌, ◌++◌, length, map, drop, get_or, refl, sym, ap, ◌∙◌, ⊎_elim, arith}
use Rattle.std.specs.Prelude.{nat_eq, slice_range}
use Rattle.std.specs.List.{AllByRecursion, list_any}
use Rattle.std.proofs.lemmas.Bool.{or_cases, or_right}
use Rattle.std.proofs.lemmas.Bool.Decides.{Decides-eqb}
use Rattle.std.proofs.lemmas.List.{get_or-drop, get_or-take}
use Rattle.lay_point.specs.Rising.{IsRising}
use Rattle.lay_point.proofs.Members.{Has}
use Rattle.lay_point.proofs.Rising.{IsStrictOrder, before_rest, rising_rest}

pub map-append : {A B : Type 0} (f : A → B) (xs ys : List A) → map f (xs ++ ys) ≡ map f xs ++ map f ys
map-append f [] ys = refl
map-append f (x ∷ xs) ys = ap (λ l. f x ∷ l) (map-append f xs ys)

pub all_weaker : {A : Type 0} (P Q : A → Type 0) → ((x : A) → P x → Q x) → (xs : List A) → AllByRecursion P xs → AllByRecursion Q xs
all_weaker P Q h [] all = tt
all_weaker P Q h (x ∷ xs) all = (h x all.0, all_weaker P Q h xs all.1)

pub all_push : {A : Type 0} (P : A → Type 0) (xs : List A) (x : A) → AllByRecursion P xs → P x → AllByRecursion P (xs ++ x ∷ [])
all_push P [] x all p = (p, tt)
all_push P (y ∷ ys) x all p = (all.0, all_push P ys x all.1 p)

-- ---- members
pub has-map : {A B : Type 0} (f : A → B) (xs : List A) (x : A) → Has xs x → Has (map f xs) (f x)
has-map f [] x h = absurd h
has-map f (y ∷ ys) x (inl e) = inl (ap f e)
has-map f (y ∷ ys) x (inr h) = inr (has-map f ys x h)

pub map-has : {A B : Type 0} (f : A → B) (xs : List A) (z : B) → Has (map f xs) z → (x : A) × Has xs x × (f x ≡ z)
map-has f [] z h = absurd h
map-has f (y ∷ ys) z (inl e) = (y, inl refl, e)
map-has f (y ∷ ys) z (inr h) = let r = map-has f ys z h in (r.0, inr r.1, r.2)

pub has_get : {A : Type 0} (xs : List A) (n : ℕ) (d : A) → n < length xs → Has xs (get_or xs n d)
has_get [] n d less = absurd (omega arith)
has_get (x ∷ xs) zero d less = inl refl
has_get (x ∷ xs) (suc n) d less = inr (has_get xs n d (omega arith))

-- ---- places
pub get_or-slice_range : {A : Type 0} (xs : List A) (from to k : ℕ) (d : A) → k < to - from
    → get_or (slice_range xs from to) k d ≡ get_or xs (from + k) d
get_or-slice_range xs from to k d lt = get_or-take (to - from) (drop from xs) k d lt ∙ get_or-drop from xs k d

-- of two in a rising list the one at the lesser place is before the other
pub before_by_number : {A : Type 0} (Before : A → A → Type 0) → IsStrictOrder Before → (xs : List A) (m n : ℕ) (d : A)
    → IsRising Before xs → m < n → n < length xs → Before (get_or xs m d) (get_or xs n d)
before_by_number Before laws [] m n d h less inside = absurd (omega arith)
before_by_number Before laws (x ∷ xs) m zero d h less inside = absurd (omega arith)
before_by_number Before laws (x ∷ xs) zero (suc n) d h less inside =
    before_rest Before laws x xs (get_or xs n d) h (has_get xs n d (omega arith))
before_by_number Before laws (x ∷ xs) (suc m) (suc n) d h less inside =
    before_by_number Before laws xs m n d (rising_rest Before x xs h) (omega arith) (omega arith)

-- ---- tests that some element passes
pub any_true : {A : Type 0} (test : A → Bool) (xs : List A) (x : A) → Has xs x → test x ≡ true → list_any test xs ≡ true
any_true test [] x m t = absurd m
any_true test (y ∷ ys) x (inl same) t = ap (λ b. b || list_any test ys) (ap test same ∙ t)
any_true test (y ∷ ys) x (inr m) t = or_right (test y) (list_any test ys) (any_true test ys x m t)

pub number_has : (xs : List ℕ) (n : ℕ) → list_any (nat_eq n) xs ≡ true → Has xs n
number_has [] n e = absurd cc
number_has (x ∷ xs) n e = ⊎_elim (λ (here : nat_eq n x ≡ true). inl (sym ((Decides-eqb n x).0 here)))
    (λ (there : list_any (nat_eq n) xs ≡ true). inr (number_has xs n there)) (or_cases (nat_eq n x) (list_any (nat_eq n) xs) e)

pub has_number : (xs : List ℕ) (n : ℕ) → Has xs n → list_any (nat_eq n) xs ≡ true
has_number xs n m = any_true (nat_eq n) xs n m ((Decides-eqb n n).1 refl)

pub all_has : {A : Type 0} (P : A → Type 0) (xs : List A) → ((x : A) → Has xs x → P x) → AllByRecursion P xs
all_has P [] f = tt
all_has P (x ∷ xs) f = (f x (inl refl), all_has P xs (λ y m. f y (inr m)))

-- Parities over lists: of lists joined, of two tests taken together, and round a walk, where the ends of neighbours cancel.
use Rattle.std.proofs.Common.{◌≡◌, inl, inr, Bool, true, false, ◌&&◌, List, [], ◌∷◌, ◌++◌, map, refl, sym, ap, ap₂, subst, ◌∙◌}
use Rattle.lay_point.specs.Rising.{IsRising, pairs, last}
use Rattle.lay_point.specs.Parity.{xor, parity}
use Rattle.lay_point.proofs.Members.{Has}
use Rattle.lay_point.proofs.Rising.{IsStrictOrder, before_rest, rising_rest}

pub xor-false : (a : Bool) → xor a false ≡ a
xor-false true = refl
xor-false false = refl

pub xor_self : (a : Bool) → xor a a ≡ false
xor_self true = refl
xor_self false = refl

pub xor_assoc : (a b c : Bool) → xor (xor a b) c ≡ xor a (xor b c)
xor_assoc false b c = refl
xor_assoc true false c = refl
xor_assoc true true false = refl
xor_assoc true true true = refl

pub xor_comm : (a b : Bool) → xor a b ≡ xor b a
xor_comm false false = refl
xor_comm false true = refl
xor_comm true false = refl
xor_comm true true = refl

-- what the two share cancels
pub xor_cancel : (a b c : Bool) → xor (xor a b) (xor b c) ≡ xor a c
xor_cancel a b c = xor_assoc a b (xor b c) ∙ ap (xor a) (sym (xor_assoc b b c) ∙ ap (λ z. xor z c) (xor_self b))

xor_swap : (a b c d : Bool) → xor (xor a b) (xor c d) ≡ xor (xor a c) (xor b d)
xor_swap a b c d = xor_assoc a b (xor c d) ∙ ap (xor a) (sym (xor_assoc b c d) ∙ ap (λ z. xor z d) (xor_comm b c) ∙ xor_assoc c b d)
    ∙ sym (xor_assoc a c (xor b d))

and-xor : (a b t : Bool) → (xor a b && t) ≡ xor (a && t) (b && t)
and-xor false b t = refl
and-xor true false false = refl
and-xor true false true = refl
and-xor true true false = refl
and-xor true true true = refl

-- ---- lists
pub parity-append : {A : Type 0} (test : A → Bool) (xs ys : List A) → parity test (xs ++ ys) ≡ xor (parity test xs) (parity test ys)
parity-append test [] ys = refl
parity-append test (x ∷ xs) ys = ap (xor (test x)) (parity-append test xs ys) ∙ sym (xor_assoc (test x) (parity test xs) (parity test ys))

pub parity-map : {A B : Type 0} (test : B → Bool) (f : A → B) (xs : List A) → parity test (map f xs) ≡ parity (λ x. test (f x)) xs
parity-map test f [] = refl
parity-map test f (x ∷ xs) = ap (xor (test (f x))) (parity-map test f xs)

pub parity-xor : {A : Type 0} (f g : A → Bool) (xs : List A) → parity (λ x. xor (f x) (g x)) xs ≡ xor (parity f xs) (parity g xs)
parity-xor f g [] = refl
parity-xor f g (x ∷ xs) = ap (xor (xor (f x) (g x))) (parity-xor f g xs) ∙ xor_swap (f x) (g x) (parity f xs) (parity g xs)

-- tests that agree on the elements
pub parity_agree : {A : Type 0} (f g : A → Bool) (xs : List A) → ((x : A) → Has xs x → f x ≡ g x) → parity f xs ≡ parity g xs
parity_agree f g [] e = refl
parity_agree f g (x ∷ xs) e = ap₂ xor (e x (inl refl)) (parity_agree f g xs (λ z m. e z (inr m)))

pub parity_none : {A : Type 0} (f : A → Bool) (xs : List A) → ((x : A) → Has xs x → f x ≡ false) → parity f xs ≡ false
parity_none f [] e = refl
parity_none f (x ∷ xs) e = ap₂ xor (e x (inl refl)) (parity_none f xs (λ z m. e z (inr m)))

-- round a walk: of the neighbours that differ in the test there is an odd number exactly where the walk's ends differ in it
pub parity_of_walk : {A : Type 0} (f : A → Bool) (x : A) (xs : List A)
    → parity (λ (e : A × A). xor (f e.0) (f e.1)) (pairs (x ∷ xs)) ≡ xor (f x) (f (last x xs))
parity_of_walk f x [] = sym (xor_self (f x))
parity_of_walk f x (y ∷ ys) = ap (xor (xor (f x) (f y))) (parity_of_walk f y ys) ∙ xor_cancel (f x) (f y) (f (last y ys))

-- ---- occurrences
-- the test says which elements are the same
pub record IsEquality {A : Type 0} (same : A → A → Bool) : Type 0 where
  pub itself : (x : A) → same x x ≡ true
  pub apart : (x y : A) → ¬ (x ≡ y) → same x y ≡ false

-- in a rising list one element is the same as a given member, so a parity over these is the member's own
parity_at : {A : Type 0} (Before : A → A → Type 0) → IsStrictOrder Before → (same : A → A → Bool) → IsEquality same → (test : A → Bool)
    → (xs : List A) (o : A) → IsRising Before xs → Has xs o → parity (λ x. same x o && test x) xs ≡ test o
parity_at Before laws same decides test [] o h m = absurd m
parity_at Before laws same decides test (x ∷ xs) o h (inl e) =
    ap₂ xor (subst (λ z. (same x z && test x) ≡ test z) e (ap (λ b. b && test x) (decides.itself x)))
    (parity_none (λ z. same z o && test z) xs (λ z m. ap (λ b. b && test z) (decides.apart z o
    (λ g. laws.irreflexive z (subst (λ v. Before v z) (e ∙ sym g) (before_rest Before laws x xs z h m))))))
    ∙ xor-false (test o)
parity_at Before laws same decides test (x ∷ xs) o h (inr m) =
    ap₂ xor (ap (λ b. b && test x) (decides.apart x o
    (λ g. laws.irreflexive x (subst (Before x) (sym g) (before_rest Before laws x xs o h m)))))
    (parity_at Before laws same decides test xs o (rising_rest Before x xs h) m)

-- a parity over the distinct elements that occur an odd number of times is the parity over all occurrences
pub parity_of_occurrences : {A : Type 0} (Before : A → A → Type 0) → IsStrictOrder Before → (same : A → A → Bool) → IsEquality same
    → (test : A → Bool) (xs occurrences : List A) → IsRising Before xs → ((o : A) → Has occurrences o → Has xs o)
    → parity (λ x. parity (same x) occurrences && test x) xs ≡ parity test occurrences
parity_of_occurrences Before laws same decides test xs [] h inside = parity_none (λ x. false && test x) xs (λ x m. refl)
parity_of_occurrences Before laws same decides test xs (o ∷ os) h inside =
    parity_agree (λ x. xor (same x o) (parity (same x) os) && test x)
    (λ x. xor (same x o && test x) (parity (same x) os && test x)) xs (λ x m. and-xor (same x o) (parity (same x) os) (test x))
    ∙ parity-xor (λ x. same x o && test x) (λ x. parity (same x) os && test x) xs
    ∙ ap₂ xor (parity_at Before laws same decides test xs o h (inside o (inl refl)))
    (parity_of_occurrences Before laws same decides test xs os h (λ z m. inside z (inr m)))

-- Membership by recursion on the list, and back to the form by places that contracts have.
use Rattle.std.proofs.Common.{◌≡◌, ◌⊎◌, inl, inr, ℕ, zero, suc, ◌<◌, List, [], ◌∷◌, ◌++◌, length, Contains, arith}
use Rattle.std.specs.Prelude.{slice_index_or}

abbrev pub Has : {A : Type 0} → List A → A → Type 0
Has [] x = ⊥
Has (y ∷ ys) x = (y ≡ x) ⊎ Has ys x

has_at : {A : Type 0} (xs : List A) (x : A) (k : ℕ) → k < length xs → slice_index_or xs k x ≡ x → Has xs x
has_at [] x k h e = absurd (omega arith)
has_at (y ∷ ys) x zero h e = inl e
has_at (y ∷ ys) x (suc k) h e = inr (has_at ys x k (omega arith) e)

pub has : {A : Type 0} (xs : List A) (x : A) → Contains xs x → Has xs x
has xs x h = has_at xs x h.0 h.1 h.2

pub contains : {A : Type 0} (xs : List A) (x : A) → Has xs x → Contains xs x
contains [] x h = absurd h
contains (y ∷ ys) x (inl e) = (zero, omega arith, e)
contains (y ∷ ys) x (inr h) = let c = contains ys x h in (suc c.0, omega (arith, c.1), c.2)

pub has-append : {A : Type 0} (xs ys : List A) (x : A) → Has (xs ++ ys) x → Has xs x ⊎ Has ys x
has-append [] ys x h = inr h
has-append (y ∷ xs) ys x (inl e) = inl (inl e)
has-append (y ∷ xs) ys x (inr h) = elim (has-append xs ys x h) [ inl g ↦ inl (inr g) | inr g ↦ inr g ]

pub has-append_left : {A : Type 0} (xs ys : List A) (x : A) → Has xs x → Has (xs ++ ys) x
has-append_left [] ys x h = absurd h
has-append_left (y ∷ xs) ys x (inl e) = inl e
has-append_left (y ∷ xs) ys x (inr h) = inr (has-append_left xs ys x h)

pub has-append_right : {A : Type 0} (xs ys : List A) (x : A) → Has ys x → Has (xs ++ ys) x
has-append_right [] ys x h = h
has-append_right (y ∷ xs) ys x h = inr (has-append_right xs ys x h)

-- Strictly rising lists. They are determined by their members; and every member is at or before the first of two neighbours, or at
-- or after the second.
use Rattle.std.proofs.Common.{◌≡◌, ◌⊎◌, inl, inr, List, [], ◌∷◌, refl, sym, ap, subst, ◌∙◌, ⊎_elim}
use Rattle.lay_point.specs.Rising.{IsRising, pairs, last, IsFromTo}
use Rattle.lay_point.proofs.Members.{Has}

pub record IsStrictOrder {A : Type 0} (Before : A → A → Type 0) : Type 0 where
  pub irreflexive : (x : A) → Before x x → ⊥
  pub transitive : (x y z : A) → Before x y → Before y z → Before x z

pub rising_rest : {A : Type 0} (Before : A → A → Type 0) (x : A) (xs : List A) → IsRising Before (x ∷ xs) → IsRising Before xs
rising_rest Before x [] h = tt
rising_rest Before x (y ∷ ys) h = h.1

-- the first is before all the others
pub before_rest : {A : Type 0} (Before : A → A → Type 0) → IsStrictOrder Before → (x : A) (xs : List A) (y : A)
    → IsRising Before (x ∷ xs) → Has xs y → Before x y
before_rest Before laws x [] y h g = absurd g
before_rest Before laws x (z ∷ zs) y h (inl e) = subst (Before x) e h.0
before_rest Before laws x (z ∷ zs) y h (inr g) = laws.transitive x z y h.0 (before_rest Before laws z zs y h.1 g)

-- ---- lists with the same members
first_same : {A : Type 0} (Before : A → A → Type 0) → IsStrictOrder Before → (x y : A) (xs ys : List A)
    → IsRising Before (x ∷ xs) → IsRising Before (y ∷ ys) → Has (y ∷ ys) x → Has (x ∷ xs) y → x ≡ y
first_same Before laws x y xs ys h g (inl e) there = sym e
first_same Before laws x y xs ys h g (inr here) (inl e) = e
first_same Before laws x y xs ys h g (inr here) (inr there) =
    absurd (laws.irreflexive x (laws.transitive x y x (before_rest Before laws x xs y h there) (before_rest Before laws y ys x g here)))

-- a member of the one list's rest isn't its first, so it is in the other's rest too
in_rest : {A : Type 0} (Before : A → A → Type 0) → IsStrictOrder Before → (x y z : A) (xs ys : List A)
    → IsRising Before (x ∷ xs) → x ≡ y → Has xs z → Has (y ∷ ys) z → Has ys z
in_rest Before laws x y z xs ys h same here (inl e) =
    absurd (laws.irreflexive x (subst (Before x) (sym (same ∙ e)) (before_rest Before laws x xs z h here)))
in_rest Before laws x y z xs ys h same here (inr there) = there

pub same_members : {A : Type 0} (Before : A → A → Type 0) → IsStrictOrder Before → (xs ys : List A)
    → IsRising Before xs → IsRising Before ys
    → ((z : A) → Has xs z → Has ys z) → ((z : A) → Has ys z → Has xs z) → xs ≡ ys
same_members Before laws [] [] h g forth back = refl
same_members Before laws [] (y ∷ ys) h g forth back = absurd (back y (inl refl))
same_members Before laws (x ∷ xs) [] h g forth back = absurd (forth x (inl refl))
same_members Before laws (x ∷ xs) (y ∷ ys) h g forth back =
    let same = first_same Before laws x y xs ys h g (forth x (inl refl)) (back y (inl refl)) in
    let rest = same_members Before laws xs ys (rising_rest Before x xs h) (rising_rest Before y ys g)
    (λ z here. in_rest Before laws x y z xs ys h same here (forth z (inr here)))
    (λ z there. in_rest Before laws y x z ys xs g (sym same) there (back z (inr there))) in
    λ i. same i ∷ rest i

-- ---- neighbours
pub pair_first : {A : Type 0} (xs : List A) (a b : A) → Has (pairs xs) (a, b) → Has xs a
pair_first [] a b h = absurd h
pair_first (x ∷ []) a b h = absurd h
pair_first (x ∷ y ∷ ys) a b (inl e) = inl (ap (λ p. p.0) e)
pair_first (x ∷ y ∷ ys) a b (inr h) = inr (pair_first (y ∷ ys) a b h)

pub pair_second : {A : Type 0} (xs : List A) (a b : A) → Has (pairs xs) (a, b) → Has xs b
pair_second [] a b h = absurd h
pair_second (x ∷ []) a b h = absurd h
pair_second (x ∷ y ∷ ys) a b (inl e) = inr (inl (ap (λ p. p.1) e))
pair_second (x ∷ y ∷ ys) a b (inr h) = inr (pair_second (y ∷ ys) a b h)

pub pair_before : {A : Type 0} (Before : A → A → Type 0) (xs : List A) (a b : A)
    → IsRising Before xs → Has (pairs xs) (a, b) → Before a b
pair_before Before [] a b h g = absurd g
pair_before Before (x ∷ []) a b h g = absurd g
pair_before Before (x ∷ y ∷ ys) a b h (inl e) = subst (λ p. Before p.0 p.1) e h.0
pair_before Before (x ∷ y ∷ ys) a b h (inr g) = pair_before Before (y ∷ ys) a b h.1 g

-- z is a or before it
abbrev pub IsUpTo : {A : Type 0} → (A → A → Type 0) → A → A → Type 0
IsUpTo Before z a = (z ≡ a) ⊎ Before z a

pub beside_pair : {A : Type 0} (Before : A → A → Type 0) → IsStrictOrder Before → (xs : List A) (a b z : A)
    → IsRising Before xs → Has (pairs xs) (a, b) → Has xs z → IsUpTo Before z a ⊎ IsUpTo Before b z
beside_pair Before laws [] a b z h g m = absurd g
beside_pair Before laws (x ∷ []) a b z h g m = absurd g
beside_pair Before laws (x ∷ y ∷ ys) a b z h (inl e) (inl m) = inl (inl (sym m ∙ ap (λ p. p.0) e))
beside_pair Before laws (x ∷ y ∷ ys) a b z h (inl e) (inr (inl m)) = inr (inl (sym (ap (λ p. p.1) e) ∙ m))
beside_pair Before laws (x ∷ y ∷ ys) a b z h (inl e) (inr (inr m)) =
    inr (inr (subst (λ p. Before p.1 z) e (before_rest Before laws y ys z h.1 m)))
beside_pair Before laws (x ∷ y ∷ ys) a b z h (inr g) (inl m) =
    inl (inr (subst (λ v. Before v a) m (before_rest Before laws x (y ∷ ys) a h (pair_first (y ∷ ys) a b g))))
beside_pair Before laws (x ∷ y ∷ ys) a b z h (inr g) (inr m) = beside_pair Before laws (y ∷ ys) a b z h.1 g m

-- nothing is between neighbours
pub none_between_pair : {A : Type 0} (Before : A → A → Type 0) → IsStrictOrder Before → (xs : List A) (a b z : A)
    → IsRising Before xs → Has (pairs xs) (a, b) → Has xs z → Before a z → Before z b → ⊥
none_between_pair {A} Before laws xs a b z h g m after before = ⊎_elim
    (λ (early : IsUpTo Before z a). ⊎_elim (λ (e : z ≡ a). laws.irreflexive a (subst (Before a) e after))
    (λ (less : Before z a). laws.irreflexive a (laws.transitive a z a after less)) early)
    (λ (late : IsUpTo Before b z). ⊎_elim (λ (e : b ≡ z). laws.irreflexive z (subst (Before z) e before))
    (λ (more : Before b z). laws.irreflexive z (laws.transitive z b z before more)) late)
    (beside_pair Before laws xs a b z h g m)

-- and members with nothing between are neighbours
pub pair_of_members : {A : Type 0} (Before : A → A → Type 0) → IsStrictOrder Before → (xs : List A) (a b : A) → IsRising Before xs
    → Has xs a → Has xs b → Before a b → ((z : A) → Has xs z → Before a z → Before z b → ⊥) → Has (pairs xs) (a, b)
pair_of_members Before laws [] a b h ma mb less none = absurd ma
pair_of_members Before laws (x ∷ []) a b h (inl ea) (inl eb) less none =
    absurd (laws.irreflexive a (subst (Before a) (sym eb ∙ ea) less))
pair_of_members Before laws (x ∷ []) a b h (inl ea) (inr mb) less none = absurd mb
pair_of_members Before laws (x ∷ []) a b h (inr ma) mb less none = absurd ma
pair_of_members Before laws (x ∷ y ∷ ys) a b h (inl ea) (inl eb) less none =
    absurd (laws.irreflexive a (subst (Before a) (sym eb ∙ ea) less))
pair_of_members Before laws (x ∷ y ∷ ys) a b h (inl ea) (inr (inl eb)) less none = inl (λ i. (ea i, eb i))
pair_of_members Before laws (x ∷ y ∷ ys) a b h (inl ea) (inr (inr mb)) less none =
    absurd (none y (inr (inl refl)) (subst (λ v. Before v y) ea h.0) (before_rest Before laws y ys b h.1 mb))
pair_of_members Before laws (x ∷ y ∷ ys) a b h (inr ma) (inl eb) less none =
    absurd (laws.irreflexive a (laws.transitive a x a (subst (Before a) (sym eb) less) (before_rest Before laws x (y ∷ ys) a h ma)))
pair_of_members Before laws (x ∷ y ∷ ys) a b h (inr ma) (inr mb) less none =
    inr (pair_of_members Before laws (y ∷ ys) a b h.1 ma mb less (λ z m. none z (inr m)))

-- ---- ends
pub least_is_first : {A : Type 0} (Before : A → A → Type 0) → IsStrictOrder Before → (x : A) (xs : List A) (a : A)
    → IsRising Before (x ∷ xs) → Has (x ∷ xs) a → IsUpTo Before a x → x ≡ a
least_is_first Before laws x xs a h (inl e) low = e
least_is_first Before laws x xs a h (inr m) (inl e) = sym e
least_is_first Before laws x xs a h (inr m) (inr less) =
    absurd (laws.irreflexive x (laws.transitive x a x (before_rest Before laws x xs a h m) less))

has_last : {A : Type 0} (x : A) (xs : List A) → Has (x ∷ xs) (last x xs)
has_last x [] = inl refl
has_last x (y ∷ ys) = inr (has_last y ys)

up_to_last : {A : Type 0} (Before : A → A → Type 0) → IsStrictOrder Before → (x : A) (xs : List A) (a : A)
    → IsRising Before (x ∷ xs) → Has (x ∷ xs) a → IsUpTo Before a (last x xs)
up_to_last Before laws x [] a h (inl e) = inl (sym e)
up_to_last Before laws x [] a h (inr m) = absurd m
up_to_last Before laws x (y ∷ ys) a h (inl e) =
    inr (subst (λ v. Before v (last y ys)) e (before_rest Before laws x (y ∷ ys) (last y ys) h (has_last y ys)))
up_to_last Before laws x (y ∷ ys) a h (inr m) = up_to_last Before laws y ys a h.1 m

-- a list with a member before all others and one after all others goes from the one to the other
pub from_least_to_greatest : {A : Type 0} (Before : A → A → Type 0) → IsStrictOrder Before → (xs : List A) (a b : A) → IsRising Before xs
    → Has xs a → Has xs b → ((z : A) → Has xs z → IsUpTo Before a z) → ((z : A) → Has xs z → IsUpTo Before z b) → IsFromTo a b xs
from_least_to_greatest Before laws [] a b h ma mb low high = absurd ma
from_least_to_greatest Before laws (x ∷ xs) a b h ma mb low high =
    let first = least_is_first Before laws x xs a h ma (low x (inl refl)) in
    record {
      rest = xs;
      first_is = ap (λ v. v ∷ xs) first;
      last_is = ap (λ v. last v xs) (sym first) ∙ ends (up_to_last Before laws x xs b h mb) (high (last x xs) (has_last x xs));
    }
  where
    ends : IsUpTo Before b (last x xs) → IsUpTo Before (last x xs) b → last x xs ≡ b
    ends (inl e) g = sym e
    ends (inr less) (inl e) = e
    ends (inr less) (inr less') = absurd (laws.irreflexive b (laws.transitive b (last x xs) b less less'))

-- First places that pass a test, and what lists have there.
use Rattle.std.proofs.Common.{◌≡◌, ℕ, ◌<◌, ◌≤◌, zero, suc, Bool, true, false, cond, ◌||◌, List, [], ◌∷◌, drop, Option, None, Some}
use Rattle.std.proofs.Common.{refl, sym, subst, ◌∙◌, arith, slice_get}
use Rattle.std.specs.List.{list_any}
use Rattle.std.specs.Prelude.{is_some, nat_lt}
use Rattle.std.proofs.lemmas.Bool.Decides.{nat_tests}
use Rattle.std.proofs.lemmas.Bool.{or_from, or_left, or_right}
use Rattle.undo_index.specs.First.{IsFirst, find_map, lesser, look, looked_up_at, or_some}

-- ---- the lesser one of two

pub lesser_first : (t u : ℕ → Bool) (from : ℕ) (a b : Option ℕ) → IsFirst t from a → IsFirst u from b →
    IsFirst (λ p. t p || u p) from (lesser a b)
lesser_first t u from None None one other = λ p less. or_from (t p) (u p) (one p less) (other p less)
lesser_first t u from None (Some b) one other = (
  other.0,
  or_right (t b) (u b) other.1,
  λ p less more. or_from (t p) (u p) (one p less) (other.2 p less more),
)
lesser_first t u from (Some a) None one other = (
  one.0,
  or_left (t a) (u a) one.1,
  λ p less more. or_from (t p) (u p) (one.2 p less more) (other p less),
)
lesser_first t u from (Some a) (Some b) one other = by (nat_lt b a) refl where
  by : (c : Bool) → nat_lt b a ≡ c → IsFirst (λ p. t p || u p) from (cond c (Some b) (Some a))
  by true is =
      let below : b < a = grind (arith, nat_tests, is) in (
        other.0,
        or_right (t b) (u b) other.1,
        λ p less more. or_from (t p) (u p) (one.2 p less (omega (arith, below, more))) (other.2 p less more),
      )
  by false is =
      let below : a ≤ b = grind (arith, nat_tests, is) in (
        one.0,
        or_left (t a) (u a) one.1,
        λ p less more. or_from (t p) (u p) (one.2 p less more) (other.2 p less (omega (arith, below, more))),
      )

-- the same place is first for a test that agrees
pub first_alike : (t u : ℕ → Bool) (from : ℕ) (o : Option ℕ) → ((p : ℕ) → t p ≡ u p) → IsFirst t from o → IsFirst u from o
first_alike t u from None same first = λ p less. sym (same p) ∙ first p less
first_alike t u from (Some a) same first = (first.0, sym (same a) ∙ first.1, λ p less more. sym (same p) ∙ first.2 p less more)

-- ---- what a list has at its first place

module _ {X Y : Type 0} (f : X → Option Y) where
  pub none_first : (xs : List X) (n : ℕ) → ((p : ℕ) → n ≤ p → is_some (look f (slice_get xs p)) ≡ false) → find_map f (drop n xs) ≡ None
  none_first [] zero none = refl
  none_first [] (suc n) none = refl
  none_first (x ∷ xs) (suc n) none = none_first xs n (λ p less. none (suc p) (omega (arith, less)))
  none_first (x ∷ xs) zero none = by (f x) (none 0 (omega arith)) (none_first xs 0 (λ p less. none (suc p) (omega arith))) where
    by : (o : Option Y) → is_some o ≡ false → find_map f xs ≡ None → or_some o (find_map f xs) ≡ None
    by None h rest = rest
    by (Some y) h rest = absurd cc

  pub some_first : (xs : List X) (n a : ℕ) → n ≤ a → is_some (look f (slice_get xs a)) ≡ true →
      ((p : ℕ) → n ≤ p → p < a → is_some (look f (slice_get xs p)) ≡ false) → find_map f (drop n xs) ≡ look f (slice_get xs a)
  some_first [] n a less there none = absurd cc
  some_first (x ∷ xs) (suc n) zero less there none = absurd (omega (arith, less))
  some_first (x ∷ xs) (suc n) (suc a) less there none =
      some_first xs n a (omega (arith, less)) there (λ p low high. none (suc p) (omega (arith, low)) (omega (arith, high)))
  some_first (x ∷ xs) zero zero less there none = by (f x) there where
    by : (o : Option Y) → is_some o ≡ true → or_some o (find_map f xs) ≡ o
    by None h = absurd cc
    by (Some y) h = refl
  some_first (x ∷ xs) zero (suc a) less there none =
      by (f x) (none 0 (omega arith) (omega arith))
      (some_first xs 0 a (omega arith) there (λ p low high. none (suc p) (omega arith) (omega (arith, high)))) where
        by : (o : Option Y) → is_some o ≡ false → find_map f xs ≡ look f (slice_get xs a)
            → or_some o (find_map f xs) ≡ look f (slice_get xs a)
        by None h rest = rest
        by (Some y) h rest = absurd cc

  -- the first place that passes tells what is found first
  pub first_found : (xs : List X) (n : ℕ) (o : Option ℕ) → IsFirst (λ p. is_some (look f (slice_get xs p))) n o →
      find_map f (drop n xs) ≡ looked_up_at f xs o
  first_found xs n None first = none_first xs n first
  first_found xs n (Some a) first = some_first xs n a first.0 first.1 first.2

-- ---- under one element after the other

lesser_none : (a : Option ℕ) → lesser a None ≡ a
lesser_none None = refl
lesser_none (Some a) = refl

lesser_lesser : (a b c : Option ℕ) → lesser (lesser a b) c ≡ lesser a (lesser b c)
lesser_lesser None b c = refl
lesser_lesser (Some a) None c = refl
lesser_lesser (Some a) (Some b) None = lesser_none (lesser (Some a) (Some b))
lesser_lesser (Some a) (Some b) (Some c) = by (nat_lt b a) refl (nat_lt c b) refl (nat_lt c a) refl where
  by : (x : Bool) → nat_lt b a ≡ x → (y : Bool) → nat_lt c b ≡ y → (z : Bool) → nat_lt c a ≡ z →
      lesser (cond x (Some b) (Some a)) (Some c) ≡ lesser (Some a) (cond y (Some c) (Some b))
  by true one true other z all =
      let first : nat_lt c a ≡ true = grind (arith, nat_tests, one, other) in
      (λ i. cond (other i) (Some c) (Some b)) ∙ sym (λ i. cond (first i) (Some c) (Some a))
  by true one false other z all = (λ i. cond (other i) (Some c) (Some b)) ∙ sym (λ i. cond (one i) (Some b) (Some a))
  by false one true other z all = refl
  by false one false other z all =
      let none : nat_lt c a ≡ false = grind (arith, nat_tests, one, other) in
      (λ i. cond (none i) (Some c) (Some a)) ∙ sym (λ i. cond (one i) (Some b) (Some a))

-- with the first place under the items that are left it is the first under all
abbrev pub Leaves : {X : Type 0} → (X → ℕ → Bool) → ℕ → List X → List X → Option ℕ → Type 0
Leaves there from all rest least = (b : Option ℕ) → IsFirst (λ p. list_any (λ x. there x p) rest) from b →
    IsFirst (λ p. list_any (λ x. there x p) all) from (lesser least b)

pub leaves_less : {X : Type 0} (there : X → ℕ → Bool) (from : ℕ) (all : List X) (x : X) (rest : List X) (least one : Option ℕ) →
    Leaves there from all (x ∷ rest) least → IsFirst (there x) from one → Leaves there from all rest (lesser least one)
leaves_less there from all x rest least one leaves first b others =
    subst (IsFirst (λ p. list_any (λ y. there y p) all) from) (sym (lesser_lesser least one b))
    (leaves (lesser one b) (lesser_first (there x) (λ p. list_any (λ y. there y p) rest) from one b first others))

pub leaves_none : {X : Type 0} (there : X → ℕ → Bool) (from : ℕ) (all : List X) (least : Option ℕ) →
    Leaves there from all [] least → IsFirst (λ p. list_any (λ x. there x p) all) from least
leaves_none there from all least leaves =
    subst (IsFirst (λ p. list_any (λ x. there x p) all) from) (lesser_none least) (leaves None (λ p less. refl))

-- Places from one on and below one, and what lists have of them.
use Rattle.std.proofs.Common.{◌≡◌, ℕ, ◌==◌, ◌≤◌, Bool, true, false, not, cond, ◌||◌, ◌&&◌, List, [], ◌∷◌}
use Rattle.std.proofs.Common.{refl, ap, arith}
use Rattle.std.specs.Prelude.{nat_lt}
use Rattle.std.proofs.lemmas.Bool.Decides.{Decides-eqb, nat_tests}
use Rattle.std.specs.declared.cmp.Ordering.TheVariants.{Equal, Greater, Less}
use Rattle.std.specs.List.{filter, list_any}
use Rattle.std.specs.Ordering.{is_gt, is_le, nat_cmp}

-- ---- from one on

pub at_least : (a p : ℕ) → is_gt (nat_cmp a p) ≡ false → a ≤ p
at_least a p h = by (nat_lt a p) refl (a == p) refl h where
  by : (x : Bool) → nat_lt a p ≡ x → (y : Bool) → (a == p) ≡ y → is_gt (cond x Less (cond y Equal Greater)) ≡ false → a ≤ p
  by true less y same h = grind (arith, nat_tests, less)
  by false less true same h = let e : a ≡ p = (Decides-eqb a p).0 same in omega (arith, e)
  by false less false same h = absurd cc

pub not_more : (a p : ℕ) → a ≤ p → is_gt (nat_cmp a p) ≡ false
not_more a p h = by (nat_lt a p) refl (a == p) refl where
  by : (x : Bool) → nat_lt a p ≡ x → (y : Bool) → (a == p) ≡ y → is_gt (cond x Less (cond y Equal Greater)) ≡ false
  by true less y same = refl
  by false less true same = refl
  by false less false same = absurd (grind (arith, nat_tests, less, same, h))

-- ---- what is chosen of a list

pub any_filter : {X : Type 0} (p t : X → Bool) (xs : List X) → list_any p (filter t xs) ≡ list_any (λ x. t x && p x) xs
any_filter p t [] = refl
any_filter p t (x ∷ xs) = by (t x) (any_filter p t xs) where
  by : (b : Bool) → list_any p (filter t xs) ≡ list_any (λ x. t x && p x) xs
      → list_any p (cond b (x ∷ filter t xs) (filter t xs)) ≡ ((b && p x) || list_any (λ x. t x && p x) xs)
  by true rest = ap (λ b. p x || b) rest
  by false rest = rest

pub any_and : {X : Type 0} (c : Bool) (p : X → Bool) (xs : List X) → list_any (λ x. c && p x) xs ≡ (c && list_any p xs)
any_and true p xs = refl
any_and false p [] = refl
any_and false p (x ∷ xs) = any_and false p xs

-- ---- below one

pub within_so : (b p y : ℕ) → ((is_le (nat_cmp 0 y) && not (is_le (nat_cmp b y))) && (p == y)) ≡ (nat_lt p b && (p == y))
within_so b p y = by (p == y) refl where
  by : (s : Bool) → (p == y) ≡ s → ((is_le (nat_cmp 0 y) && not (is_le (nat_cmp b y))) && s) ≡ (nat_lt p b && s)
  by false is = last (is_le (nat_cmp 0 y) && not (is_le (nat_cmp b y))) (nat_lt p b) where
    last : (c d : Bool) → (c && false) ≡ (d && false)
    last true true = refl
    last true false = refl
    last false true = refl
    last false false = refl
  by true is = let same : p ≡ y = (Decides-eqb p y).0 is in grind (arith, nat_tests, same)

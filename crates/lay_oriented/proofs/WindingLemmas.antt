-- Sums over lists, and what an edge counts: in the other direction the negative, and nothing without a length.
use Rattle.std.proofs.Common.{◌≡◌, ℕ, ◌+◌, Bool, true, false, cond, ◌&&◌, ◌||◌, List, [], ◌∷◌, ◌++◌}
use Rattle.std.proofs.Common.{ℤ, pos, negsuc, ◌+ℤ◌, ◌*ℤ◌, neg_ℤ, refl, arith}
use Rattle.std.specs.Prelude.{int_le, int_lt}
use Rattle.std.specs.List.{sum_by}
use Rattle.std.specs.List.Sorted.{IsPermutation}
use Rattle.std.proofs.lemmas.Int.{ints}
use Rattle.std.proofs.lemmas.List.Sorted.{sum_by-IsPermutation}
use Rattle.std.proofs.lemmas.List.Sums.{sum_by-cons}
use Rattle.lay_point.proofs.Signs.{linear}
use Rattle.lay_point.specs.declared.point.Point.{Point}
use Rattle.lay_point.specs.Parity.{xor, parity, odd, is_crossed_rising, rises_past, distance_right}
use Rattle.lay_oriented.specs.Winding.{IsTurn, one_if, sum_of, turn, winding}

-- ---- sums
pub sum_of-append : {A : Type 0} (f : A → ℤ) (xs ys : List A) → sum_of f (xs ++ ys) ≡ sum_of f xs +ℤ sum_of f ys
sum_of-append f [] ys = omega (arith, linear)
sum_of-append f (x ∷ xs) ys = let rest = sum_of-append f xs ys in omega (arith, linear)

-- a number as a difference of two natural ones
above : ℤ → ℕ
above (pos n) = n
above (negsuc n) = 0

below : ℤ → ℕ
below (pos n) = 0
below (negsuc n) = n + 1

parts : (z : ℤ) → z +ℤ pos (below z) ≡ pos (above z)
unfolding above below
parts (pos n) = omega (arith, linear)
parts (negsuc n) = omega (arith, linear)

sums : {A : Type 0} (f : A → ℤ) (xs : List A) → sum_of f xs +ℤ pos (sum_by (λ x. below (f x)) xs) ≡ pos (sum_by (λ x. above (f x)) xs)
sums f [] = refl
sums f (x ∷ xs) =
    let rest = sums f xs in
    let first = parts (f x) in
    let less = sum_by-cons (λ z. below (f z)) x xs in
    let more = sum_by-cons (λ z. above (f z)) x xs in
    rw (less, more) (omega (arith, linear))

pub sum_of-permutation : {A : Type 0} (f : A → ℤ) (xs ys : List A) → IsPermutation xs ys → sum_of f ys ≡ sum_of f xs
sum_of-permutation f xs ys moved =
    let one = sums f xs in
    let other = sums f ys in
    let less = sum_by-IsPermutation (λ z. below (f z)) xs ys moved in
    let more = sum_by-IsPermutation (λ z. above (f z)) xs ys moved in
    omega (arith, linear)

-- ---- what an edge counts
-- no edge rises past a height both ways
not_both : (a b y : ℤ) → (int_le a y && int_lt y b) ≡ true → (int_le b y && int_lt y a) ≡ true → ⊥
not_both a b y h g = grind (arith, ints)

first_of_both : (a b : Bool) → (a && b) ≡ true → a ≡ true
first_of_both true b e = refl
first_of_both false b e = e

pub one_way : (k x y : ℤ) (p q : Point) → is_crossed_rising k x y p q ≡ true → is_crossed_rising k x y q p ≡ true → ⊥
one_way k x y p q h g =
    not_both (k *ℤ p.y) (k *ℤ q.y) y (first_of_both (rises_past k y p q) (int_lt (pos 0) (distance_right k x y p q)) h)
    (first_of_both (rises_past k y q p) (int_lt (pos 0) (distance_right k x y q p)) g)

abbrev pub counted : Bool → Bool → ℤ
counted a b = cond a (pos 1) (cond b (neg_ℤ (pos 1)) (pos 0))

pub turned_count : (a b : Bool) → (a ≡ true → b ≡ true → ⊥) → counted b a ≡ neg_ℤ (counted a b)
turned_count true true h = absurd (h refl refl)
turned_count true false h = refl
turned_count false true h = refl
turned_count false false h = refl

pub none_counted : (a : Bool) → (a ≡ true → a ≡ true → ⊥) → counted a a ≡ pos 0
none_counted true h = absurd (h refl refl)
none_counted false h = refl

pub turn-IsTurn : (k x y : ℤ) → IsTurn (turn k x y)
turn-IsTurn k x y = record {
  turned = λ p q. turned_count (is_crossed_rising k x y p q) (is_crossed_rising k x y q p) (one_way k x y p q);
  without_length = λ p. none_counted (is_crossed_rising k x y p p) (one_way k x y p p);
}

-- ---- parity
turn_and_parity : (a b c : Bool) (n s : ℤ) → (a ≡ true → b ≡ true → ⊥) → s ≡ pos 2 *ℤ n +ℤ one_if c
    → (m : ℤ) × (counted a b +ℤ s ≡ pos 2 *ℤ m +ℤ one_if (xor (a || b) c))
turn_and_parity true true c n s h e = absurd (h refl refl)
turn_and_parity true false true n s h e = (n +ℤ pos 1, omega (arith, linear))
turn_and_parity true false false n s h e = (n, omega (arith, linear))
turn_and_parity false true true n s h e = (n, omega (arith, linear))
turn_and_parity false true false n s h e = (n +ℤ neg_ℤ (pos 1), omega (arith, linear))
turn_and_parity false false true n s h e = (n, omega (arith, linear))
turn_and_parity false false false n s h e = (n, omega (arith, linear))

-- of tests of which no edge passes both
pub sum_parity : (a b : Point × Point → Bool) → ((e : Point × Point) → a e ≡ true → b e ≡ true → ⊥) → (edges : List (Point × Point))
    → (n : ℤ) × (sum_of (λ e. counted (a e) (b e)) edges ≡ pos 2 *ℤ n +ℤ one_if (parity (λ e. a e || b e) edges))
sum_parity a b apart [] = (pos 0, refl)
sum_parity a b apart (e ∷ es) =
    let rest = sum_parity a b apart es in
    turn_and_parity (a e) (b e) (parity (λ z. a z || b z) es) rest.0 (sum_of (λ z. counted (a z) (b z)) es) (apart e) rest.1

pub winding_parity : (edges : List (Point × Point)) (k x y : ℤ)
    → (n : ℤ) × (winding edges k x y ≡ pos 2 *ℤ n +ℤ one_if (odd edges k x y))
unfolding winding odd
winding_parity edges k x y =
    sum_parity (λ e. is_crossed_rising k x y e.0 e.1) (λ e. is_crossed_rising k x y e.1 e.0) (λ e. one_way k x y e.0 e.1) edges

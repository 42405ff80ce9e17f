-- Laws of truth values, and what tests tell.
use Rattle.std.proofs.Common.{◌≡◌, Bool, true, false, ◌&&◌, ◌||◌, T, refl}
use Rattle.std.specs.declared.cmp.Ordering.{Ordering}
use Rattle.std.specs.declared.cmp.Ordering.TheVariants.{Less, Equal, Greater}
use Rattle.std.specs.Ordering.{is_lt, ordering_then}
use Rattle.lay_point.specs.Parity.{xor}

pub or-false : (a : Bool) → (a || false) ≡ a
or-false true = refl
or-false false = refl

pub or_comm : (a b : Bool) → (a || b) ≡ (b || a)
or_comm true true = refl
or_comm true false = refl
or_comm false true = refl
or_comm false false = refl

pub and-true : (a : Bool) → (a && true) ≡ a
and-true true = refl
and-true false = refl

pub and-false : (a : Bool) → (a && false) ≡ false
and-false true = refl
and-false false = refl

pub and_comm : (a b : Bool) → (a && b) ≡ (b && a)
and_comm true true = refl
and_comm true false = refl
and_comm false true = refl
and_comm false false = refl

pub and_over_xor : (a b c : Bool) → (a && xor b c) ≡ xor (a && b) (a && c)
and_over_xor true b c = refl
and_over_xor false b c = refl

pub same_by_xor : (a b : Bool) → xor a b ≡ false → a ≡ b
same_by_xor true true e = refl
same_by_xor true false e = absurd cc
same_by_xor false true e = absurd cc
same_by_xor false false e = refl

pub true_by_T : (a : Bool) → T a → a ≡ true
true_by_T true h = refl
true_by_T false h = absurd h

pub Less_by_test : (o : Ordering) → is_lt o ≡ true → o ≡ Less
Less_by_test Less h = refl
Less_by_test Equal h = absurd cc
Less_by_test Greater h = absurd cc

pub true_false : (a : Bool) → a ≡ true → a ≡ false → ⊥
true_false a e f = absurd cc

-- what a comparison by two parts finds equal is equal in both
pub both_equal : (o p : Ordering) → ordering_then o p ≡ Equal → (o ≡ Equal) × (p ≡ Equal)
both_equal Less p h = absurd cc
both_equal Equal p h = (refl, h)
both_equal Greater p h = absurd cc

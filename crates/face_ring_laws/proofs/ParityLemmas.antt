-- Parities: of crossed edges, which count alike in both directions and not at all without a length.
use Rattle.std.proofs.Common.{◌≡◌, Bool, true, false, ◌&&◌, ◌||◌, ℤ, pos, ◌*ℤ◌, refl, ap}
use Rattle.std.specs.Prelude.{int_le, int_lt}
use Rattle.std.proofs.Common.{arith}
use Rattle.std.proofs.lemmas.Int.{ints}
use Rattle.lay_point.specs.declared.point.Point.{Point}
use Rattle.lay_point.specs.Parity.{xor, is_crossed, is_crossed_rising, distance_right}
use Rattle.lay_point.proofs.BoolLaws.{or_comm}

-- what counts twice doesn't count
pub xor_twice : (a b c : Bool) → xor a (xor b (xor a c)) ≡ xor b c
xor_twice false b c = refl
xor_twice true false false = refl
xor_twice true false true = refl
xor_twice true true false = refl
xor_twice true true true = refl

-- the test takes no note of an edge's direction, and no edge without a length passes it
pub record IsEdgeTest (test : Point × Point → Bool) : Type 0 where
  pub turned : (p q : Point) → test (p, q) ≡ test (q, p)
  pub without_length : (p : Point) → test (p, p) ≡ false

not_past : (a y : ℤ) → (int_le a y && int_lt y a) ≡ false
not_past a y = grind (arith, ints)

not_crossed_rising : (k x y : ℤ) (p : Point) → is_crossed_rising k x y p p ≡ false
not_crossed_rising k x y p = ap (λ b. b && int_lt (pos 0) (distance_right k x y p p)) (not_past (k *ℤ p.y) y)

-- whether the half line from a place crosses an edge is such a test, at all scales
pub is_crossed-IsEdgeTest : (k x y : ℤ) → IsEdgeTest (is_crossed k x y)
is_crossed-IsEdgeTest k x y = record {
  turned = λ p q. or_comm (is_crossed_rising k x y p q) (is_crossed_rising k x y q p);
  without_length = λ p. ap (λ b. b || b) (not_crossed_rising k x y p);
}

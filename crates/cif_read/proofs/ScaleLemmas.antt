-- Whole distances at a scale are the distances times the scale, and keep their order.
use Rattle.std.proofs.Common.{◌≡◌, ℕ, suc, ◌+◌, ◌*◌, ◌/◌, ◌%◌, true, false, ℤ, pos, negsuc, neg_ℤ, ◌*ℤ◌, ◌<ℤ◌, ◌≤ℤ◌, sym, ap, ◌∙◌}
use Rattle.std.proofs.Common.{arith}
use Rattle.std.proofs.lemmas.Int.{ints}
use Rattle.std.proofs.Math.IntN.{pos-*ℤ-pos, negsuc-*ℤ-pos}
use Rattle.std.proofs.Math.Nat.{div-add-mod, mul_comm}
use Rattle.std.proofs.lemmas.Bool.{eqb-true}
use Rattle.std.specs.Prelude.{◌==◌, int_lt}
use Rattle.std.proofs.lemmas.Bool.Decides.{nat_tests}
use Rattle.lay_point.proofs.Products.{*ℤ_comm, neg_ℤ-*ℤ}
use Rattle.lay_point.proofs.Signs.{cancel_lt, times_lt}
use Rattle.cif_grammar.specs.declared.definitions.Scale.{Scale}
use Rattle.cif_read.specs.Scales.{IsRatio, is_whole, scaled}

-- a quotient without a remainder
pub whole_quotient : (n d : ℕ) → (n % d == 0) ≡ true → n / d * d ≡ n
whole_quotient n d h =
    let none : n % d ≡ 0 = eqb-true (n % d) 0 h in
    let whole : d * (n / d) + n % d ≡ n = div-add-mod n d in
    let turned : n / d * d ≡ d * (n / d) = mul_comm (n / d) d in
    omega (arith, none, whole, turned)

pub not_negative : (n : ℕ) → int_lt (pos n) (pos 0) ≡ false
not_negative n = grind (arith, nat_tests)

pub scaled_exact : (scale : Scale) (v : ℤ) → is_whole scale v ≡ true
    → scaled scale v *ℤ pos scale.denominator ≡ v *ℤ pos scale.numerator
unfolding is_whole scaled
scaled_exact scale (pos n) h =
    let q = n * scale.numerator / scale.denominator in
    rw (not_negative n) (pos-*ℤ-pos q scale.denominator ∙ ap pos (whole_quotient (n * scale.numerator) scale.denominator h)
    ∙ sym (pos-*ℤ-pos n scale.numerator))
scaled_exact scale (negsuc n) h =
    let q = suc n * scale.numerator / scale.denominator in
    neg_ℤ-*ℤ (pos q) (pos scale.denominator) ∙ ap neg_ℤ (pos-*ℤ-pos q scale.denominator
    ∙ ap pos (whole_quotient (suc n * scale.numerator) scale.denominator h)) ∙ sym (negsuc-*ℤ-pos n scale.numerator)

pub scaled_rises : (scale : Scale) (v w : ℤ) → IsRatio scale → is_whole scale v ≡ true → is_whole scale w ≡ true → v <ℤ w
    → scaled scale v <ℤ scaled scale w
scaled_rises scale v w ratio v_whole w_whole below =
    let a = pos scale.numerator in
    let d = pos scale.denominator in
    let some = ratio.some in
    let v_is : d *ℤ scaled scale v ≡ a *ℤ v = *ℤ_comm d (scaled scale v) ∙ scaled_exact scale v v_whole ∙ *ℤ_comm v a in
    let w_is : d *ℤ scaled scale w ≡ a *ℤ w = *ℤ_comm d (scaled scale w) ∙ scaled_exact scale w w_whole ∙ *ℤ_comm w a in
    let positive : pos 0 <ℤ a = omega (arith, ints) in
    let nonnegative : pos 0 ≤ℤ d = omega (arith, ints) in
    cancel_lt d (scaled scale v) (scaled scale w) nonnegative (rw (v_is, w_is) (times_lt a v w positive below))

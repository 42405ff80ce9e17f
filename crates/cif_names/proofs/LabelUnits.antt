-- A label's coordinates are the written ones at the definition's scale.
use Rattle.std.proofs.Common.{◌≡◌, ℕ, ◌*◌, ◌/◌, ◌%◌, ◌<◌, ◌≤◌, Bool, true, false, cond, Some, None, refl, sym, ap, ◌∙◌, arith}
use Rattle.std.specs.Prelude.{◌==◌, nat_le}
use Rattle.std.proofs.Math.Nat.{mul-div_left, mul-mod_left}
use Rattle.std.proofs.lemmas.Bool.Decides.{nat_tests}
use Rattle.cif_read.proofs.ScaleLemmas.{whole_quotient}
use Rattle.cif_grammar.specs.declared.number.Number.{Number}
use Rattle.cif_grammar.specs.declared.definitions.Scale.{Scale}
use Rattle.cif_names.specs.Entries.{in_bits, limit_of, product_in_units, scaled_to_units}
use Rattle.cif_names.specs.Laws.{IsDistanceInUnits, LabelsAreScaled}

-- ---- quotients

-- ---- what is kept

record Fits (negative : Bool) (n : ℕ) (units : Number) : Type 0 where
  magnitude : units.magnitude ≡ n
  sign : units.negative ≡ negative
  bits : n ≤ limit_of negative

fits : (negative : Bool) (n : ℕ) (units : Number) → in_bits negative n ≡ Some units → Fits negative n units
fits negative n units e = by (nat_le n (limit_of negative)) refl e where
  by : (t : Bool) → nat_le n (limit_of negative) ≡ t → cond t (Some (record { negative = negative; magnitude = n })) None ≡ Some units
      → Fits negative n units
  by false f e = absurd cc
  by true f e = record {
    magnitude = let same : n ≡ units.magnitude = cc in sym same;
    sign = let same : negative ≡ units.negative = cc in sym same;
    bits = grind (arith, nat_tests);
  }

kept_units : (scale : Scale) (written units : Number) → scaled_to_units scale written ≡ Some units → IsDistanceInUnits scale written units
unfolding scaled_to_units
kept_units scale written units e =
    by (scale.denominator == 0) (product_in_units scale written.magnitude % scale.denominator == 0) refl e where
      by : (t u : Bool) → (product_in_units scale written.magnitude % scale.denominator == 0) ≡ u
          → cond t None (cond u (in_bits written.negative (product_in_units scale written.magnitude / scale.denominator)) None) ≡ Some units
          → IsDistanceInUnits scale written units
      by true u f e = absurd cc
      by false false f e = absurd cc
      by false true f e =
          let is = fits written.negative (product_in_units scale written.magnitude / scale.denominator) units e in
          record {
            distance = ap (λ k. k * scale.denominator) is.magnitude
                ∙ whole_quotient (product_in_units scale written.magnitude) scale.denominator f;
            sign = is.sign;
            bits = rw is.magnitude is.bits;
          }

-- ---- what is there is kept

only_units : (scale : Scale) (written units : Number) → 1 ≤ scale.denominator → IsDistanceInUnits scale written units
    → scaled_to_units scale written ≡ Some units
unfolding scaled_to_units
only_units scale written units some is =
    let positive : 0 < scale.denominator = omega (arith, some) in
    let some_scale : (scale.denominator == 0) ≡ false = grind (arith, nat_tests) in
    let none : product_in_units scale written.magnitude % scale.denominator ≡ 0 =
    ap (λ k. k % scale.denominator) (sym is.distance) ∙ mul-mod_left units.magnitude scale.denominator in
    let quotient : product_in_units scale written.magnitude / scale.denominator ≡ units.magnitude =
    ap (λ k. k / scale.denominator) (sym is.distance) ∙ mul-div_left units.magnitude positive in
    let low : nat_le units.magnitude (limit_of written.negative) ≡ true = grind (arith, nat_tests, is.bits) in
    rw (some_scale, none, quotient, low) (ap (λ b. Some (record { negative = b; magnitude = units.magnitude })) (sym is.sign))

pub labels_scaled : LabelsAreScaled
labels_scaled = record { kept = kept_units; only = only_units }

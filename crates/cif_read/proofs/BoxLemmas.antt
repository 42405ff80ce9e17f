-- Boxes whose numbers are within what a text may write.
use Rattle.std.proofs.Common.{◌≡◌, ℕ, ◌≤◌, true, false, Some, refl, arith, ◌<ℤ◌}
use Rattle.std.proofs.lemmas.Int.{ints}
use Rattle.std.proofs.lemmas.Bool.{and_parts}
use Rattle.std.proofs.lemmas.Bool.Decides.{nat_tests}
use Rattle.std.proofs.lemmas.Option.{cond_some}
use Rattle.lay_point.specs.declared.point.Point.{Point}
use Rattle.lay_point.specs.Points.{is_in_range}
use Rattle.cif_grammar.specs.declared.number.Number.{Number}
use Rattle.cif_grammar.specs.declared.number.TheConstants.{MAX_MAGNITUDE}
use Rattle.cif_grammar.specs.declared.boxes.BoxNumbers.{BoxNumbers}
use Rattle.cif_grammar.specs.declared.definitions.Scale.{Scale}
use Rattle.cif_read.specs.Boxes.{high_coordinate, high_corner, is_big_box, is_flat}
use Rattle.cif_read.specs.Boxes.{is_upright, is_whole_box, is_whole_side, low_coordinate, low_corner}
use Rattle.cif_read.specs.Boxes.{side_x, side_y}
use Rattle.lay_point.specs.Turns.{within_range}
use Rattle.cif_read.specs.Scales.{IsRatio, is_whole}
use Rattle.cif_read.proofs.ScaleLemmas.{scaled_rises}

-- the numbers that places are computed of
pub record AreSmall (b : BoxNumbers) : Type 0 where
  pub x : b.centre.x.magnitude ≤ MAX_MAGNITUDE
  pub y : b.centre.y.magnitude ≤ MAX_MAGNITUDE
  pub side_x : side_x b ≤ MAX_MAGNITUDE
  pub side_y : side_y b ≤ MAX_MAGNITUDE

pub small_parts : (b : BoxNumbers) → is_big_box b ≡ false → AreSmall b
unfolding is_big_box
small_parts b h = elim (is_upright b) as (λ u. is_upright b ≡ u → AreSmall b) [
  | true ↦ λ e. record {
    x = grind (arith, nat_tests);
    y = grind (arith, nat_tests);
    side_x = rw e (grind (arith, nat_tests));
    side_y = rw e (grind (arith, nat_tests));
  }
  | false ↦ λ e. record {
    x = grind (arith, nat_tests);
    y = grind (arith, nat_tests);
    side_x = rw e (grind (arith, nat_tests));
    side_y = rw e (grind (arith, nat_tests));
  }
] refl

-- the corners of a box with two sides, as they were found
pub record Spans (low high : Point) : Type 0 where
  pub wide : low.x <ℤ high.x
  pub tall : low.y <ℤ high.y

pub spans : (scale : Scale) (b : BoxNumbers) (low high : Point) → IsRatio scale → is_whole_box scale b ≡ true → is_flat b ≡ false
    → within_range (low_corner scale b) ≡ Some low → within_range (high_corner scale b) ≡ Some high → Spans low high
spans scale b low high ratio whole wide low_found high_found =
    let sides = and_parts (is_whole_side scale b.centre.x (side_x b)) (is_whole_side scale b.centre.y (side_y b)) whole in
    let x = and_parts (is_whole scale (low_coordinate b.centre.x (side_x b))) (is_whole scale (high_coordinate b.centre.x (side_x b)))
    sides.0 in
    let y = and_parts (is_whole scale (low_coordinate b.centre.y (side_y b))) (is_whole scale (high_coordinate b.centre.y (side_y b)))
    sides.1 in
    let low_is = (cond_some (is_in_range (low_corner scale b)) (low_corner scale b) low low_found).1 in
    let high_is = (cond_some (is_in_range (high_corner scale b)) (high_corner scale b) high high_found).1 in
    let some = some_sides b wide in
    rw (← low_is, ← high_is) (record {
      wide = scaled_rises scale _ _ ratio x.0 x.1 (rises b.centre.x (side_x b) some.0);
      tall = scaled_rises scale _ _ ratio y.0 y.1 (rises b.centre.y (side_y b) some.1);
    })
  where
    some_sides : (b : BoxNumbers) → is_flat b ≡ false → (1 ≤ side_x b) × (1 ≤ side_y b)
    some_sides b h = elim (is_upright b) as (λ u. is_upright b ≡ u → (1 ≤ side_x b) × (1 ≤ side_y b)) [
      | true ↦ λ e. rw e (grind (arith, nat_tests), grind (arith, nat_tests))
      | false ↦ λ e. rw e (grind (arith, nat_tests), grind (arith, nat_tests))
    ] refl

    rises : (n : Number) (side : ℕ) → 1 ≤ side → low_coordinate n side <ℤ high_coordinate n side
    rises n side some = omega (arith, ints)

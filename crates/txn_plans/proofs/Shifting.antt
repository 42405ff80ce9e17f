-- Points, rings and items that are drawn and shifted.
use Rattle.std.proofs.Common.{◌≡◌, ◌≢◌, ◌<ℤ◌, ℤ, Bool, true, false, ◌&&◌, cond, List, []}
use Rattle.std.proofs.Common.{◌∷◌, map, None, Some, refl, ap, ◌∙◌, arith}
use Rattle.std.specs.Prelude.{IfSome, int_lt, is_some}
use Rattle.std.specs.Int.{int_max, int_min}
use Rattle.std.specs.List.{list_all}
use Rattle.std.specs.Ordering.{int_eq}
use Rattle.std.proofs.lemmas.Bool.Decides.{Decides-int_eq, nat_tests}
use Rattle.std.proofs.lemmas.Int.{ints}
use Rattle.lay_point.specs.declared.point.Point.{Point}
use Rattle.lay_point.specs.declared.turn.Quarter.TheVariants.{R0}
use Rattle.lay_point.specs.Points.{is_in_range}
use Rattle.lay_point.specs.Rings.{IsRing}
use Rattle.lay_point.specs.Turns.{shifted, turned, within_range}
use Rattle.txn_commands.specs.Figures.{are_in_range, shifted_rings}
use Rattle.txn_rules.proofs.Shifts.{ring_moved}
use Rattle.txn_plans.specs.Moving.{ring_fits, rings_fit}

-- the lesser of two different numbers is below the greater
pub below : (a b : ℤ) → int_eq a b ≡ false → int_min a b <ℤ int_max a b
below a b h = by_order (int_lt b a) refl where
  differ : a ≢ b
  differ e = let t : int_eq a b ≡ true = (Decides-int_eq a b).1 e in cc

  by_order : (t : Bool) → int_lt b a ≡ t → cond t b a <ℤ cond t a b
  by_order true h = let g : b <ℤ a = grind (arith, ints, nat_tests) in g
  by_order false h = let g : a <ℤ b = grind (arith, ints, nat_tests, differ) in g

-- what the turn that shifts alone does
pub turned-shift : (by p : Point) → turned (record { mirror = false; quarter = R0; shift = by }) p ≡ shifted by p
unfolding turned
turned-shift by p = refl

-- a ring fits where all its moved points are in range
near-fits : (by : Point) (ring : List Point) → list_all is_in_range (map (shifted by) ring) ≡ ring_fits by ring
near-fits by [] = refl
near-fits by (p ∷ ps) = ap (λ b. is_in_range (shifted by p) && b) (near-fits by ps)

pub all-fit : (by : Point) (rings : List (List Point)) → are_in_range (shifted_rings by rings) ≡ rings_fit by rings
all-fit by [] = refl
all-fit by (ring ∷ rings) =
    ap (λ b. b && are_in_range (shifted_rings by rings)) (near-fits by ring) ∙ ap (λ b. ring_fits by ring && b) (all-fit by rings)

-- a ring that fits is moved to a ring
pub moved-ring : (by : Point) (ring : List Point) → IsRing ring → ring_fits by ring ≡ true → IsRing (map (shifted by) ring)
moved-ring by ring is fits = ring_moved by ring is (near-fits by ring ∙ fits)

-- where a point is shifted to, within the range
pub some_within : (p : Point) → is_some (within_range p) ≡ is_in_range p
some_within p = by_range (is_in_range p) where
  by_range : (b : Bool) → is_some (cond b (Some p) None) ≡ b
  by_range true = refl
  by_range false = refl

pub only_within : (p : Point) → IfSome (within_range p) (λ q. q ≡ p)
only_within p = by_range (is_in_range p) where
  by_range : (b : Bool) → IfSome (cond b (Some p) None) (λ q. q ≡ p)
  by_range true = refl
  by_range false = tt

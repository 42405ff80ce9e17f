-- Ways and products, as code passes them, and what the order of two products tells.
use Rattle.std.proofs.Common.{◌≡◌, Bool, true, false, cond, [], ◌∷◌, ℤ, pos, ◌-ℤ◌, ◌*ℤ◌, ◌≤ℤ◌, ◌<ℤ◌, refl, sym, ◌∙◌, arith, ⊎_elim}
use Rattle.std.specs.Prelude.{int_lt}
use Rattle.std.specs.Ordering.{int_cmp, is_gt}
use Rattle.std.specs.declared.cmp.Ordering.TheVariants.{Equal, Greater, Less}
use Rattle.std.proofs.lemmas.Int.{ints, to_z-of_z}
use mir.Syntax.{w32, w64, w128}
use mir.Val.{to_z, of_z, SFits}
use Rattle.lay_point.proofs.Polynomials.{#, lit, ◌⊕◌, ◌⊖◌, ◌⊗◌, identity}
use Rattle.lay_point.proofs.Signs.{below_or_not, linear}
use Rattle.lay_point.proofs.Tests.{false_lt, true_lt}
use Rattle.lay_point.specs.declared.point.Point.{Point}
use Rattle.lay_point.specs.Parity.{distance_right}

pub way_is : (x a r : ℤ) → SFits w32 x → SFits w32 a → SFits w64 r → r ≡ to_z w32 (of_z w32 x) -ℤ to_z w32 (of_z w32 a)
    → to_z w64 (of_z w64 r) ≡ x -ℤ a
way_is x a r fits_x fits_a fits e =
    to_z-of_z w64 r fits ∙ e ∙ (λ i. to_z-of_z w32 x fits_x i -ℤ to_z-of_z w32 a fits_a i)

pub wide_is : (r u v a b : ℤ) → SFits w128 r → r ≡ to_z w64 (of_z w64 u) *ℤ to_z w64 (of_z w64 v) → to_z w64 (of_z w64 u) ≡ a
    → to_z w64 (of_z w64 v) ≡ b → to_z w128 (of_z w128 r) ≡ a *ℤ b
wide_is r u v a b fits e f g = to_z-of_z w128 r fits ∙ e ∙ (λ i. f i *ℤ g i)

-- ---- what the order tells
pub greater : (p q : ℤ) → is_gt (int_cmp p q) ≡ int_lt q p
greater p q = by_tests (int_lt p q) (int_lt q p) (λ less. one_way p q less)
  where
    one_way : (p q : ℤ) → int_lt p q ≡ true → int_lt q p ≡ false
    one_way p q h = grind (arith, ints)

    by_tests : (a b : Bool) → (a ≡ true → b ≡ false) → is_gt (cond a Less (cond b Greater Equal)) ≡ b
    by_tests true b h = sym (h refl)
    by_tests false true h = refl
    by_tests false false h = refl

-- an edge is left of the point where the product across is the greater
pub left_by_products : (p a b : Point)
    → int_lt ((p.y -ℤ a.y) *ℤ (b.x -ℤ a.x)) ((p.x -ℤ a.x) *ℤ (b.y -ℤ a.y)) ≡ int_lt (distance_right (pos 1) p.x p.y a b) (pos 0)
left_by_products p a b =
    let e = identity (p.x ∷ p.y ∷ a.x ∷ a.y ∷ b.x ∷ b.y ∷ [])
    ((lit (pos 1) ⊗ # 2 ⊖ # 0) ⊗ (# 5 ⊖ # 3) ⊕ (# 1 ⊖ lit (pos 1) ⊗ # 3) ⊗ (# 4 ⊖ # 2))
    ((# 1 ⊖ # 3) ⊗ (# 4 ⊖ # 2) ⊖ (# 0 ⊖ # 2) ⊗ (# 5 ⊖ # 3)) refl in
    by_difference ((p.y -ℤ a.y) *ℤ (b.x -ℤ a.x)) ((p.x -ℤ a.x) *ℤ (b.y -ℤ a.y)) (distance_right (pos 1) p.x p.y a b) e
  where
    by_difference : (u v d : ℤ) → d ≡ u -ℤ v → int_lt u v ≡ int_lt d (pos 0)
    by_difference u v d e = ⊎_elim (λ (less : u <ℤ v). true_lt u v less ∙ sym (true_lt d (pos 0) (omega (arith, linear))))
        (λ (le : v ≤ℤ u). false_lt u v le ∙ sym (false_lt d (pos 0) (omega (arith, linear)))) (below_or_not u v)

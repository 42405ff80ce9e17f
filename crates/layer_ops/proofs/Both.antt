-- The rings of both flattenings, turned, and what they are rounded to.
use Rattle.std.proofs.Common.{◌≡◌, List, [], ◌++◌, map, ap, subst, ◌∙◌}
use Rattle.std.specs.Prelude.{All}
use Rattle.lay_point.specs.declared.point.Point.{Point}
use Rattle.lay_flat.specs.Flat.{FlatRing, IsFlat}
use Rattle.snap_chains.specs.declared.owner.Input.TheVariants.{First, Second}
use Rattle.snap_chains.specs.declared.owner.Owner.{Owner}
use Rattle.snap_chains.specs.Round.{IsRoundOf}
use Rattle.snap_chains.specs.Rounded.{Owned}
use Rattle.snap_laws.proofs.Exists.{rounding_is_computed}
use Rattle.bool_rules.specs.Shapes.{owned_by, owned_of, rounded_inputs}
use Rattle.bool_rules.proofs.TurningLemmas.{owned_are_rings}

-- first the rings of the one, then those of the other
pub both_turned : (a b : List FlatRing) (none first both : List (Owner × List Point)) → none ≡ []
    → first ≡ none ++ map (owned_by First) a → both ≡ first ++ map (owned_by Second) b → both ≡ owned_of a b
both_turned a b none first both is_none is_first is_both =
    is_both ∙ ap (λ l. l ++ map (owned_by Second) b) (is_first ∙ ap (λ l. l ++ map (owned_by First) a) is_none)

pub rounded_is : (a b : List FlatRing) (rings : List (Owner × List Point)) (r : Owned) → All IsFlat a → All IsFlat b
    → rings ≡ owned_of a b → IsRoundOf rings r → r ≡ rounded_inputs a b
rounded_is a b rings r flat_a flat_b same h =
    rounding_is_computed (owned_of a b) (owned_are_rings a b flat_a flat_b) r (subst (λ l. IsRoundOf l r) same h)

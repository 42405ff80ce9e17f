-- What is left of a line's words.
use Rattle.std.proofs.Common.{◌≡◌, List, [], ◌∷◌, ◌++◌, ℕ, ap, ◌∙◌}
use Rattle.std.specs.Prelude.{Some}
use Rattle.lay_point.specs.declared.point.Point.{Point}
use Rattle.job_text.specs.Steps.{parsed_points, point_of}
use Rattle.byte_io.specs.Steps.{◌>>=◌}

-- a point goes from the words that are left to the points so far
pub parsed_points-point : (points : List Point) (x y : List ℕ) (point : Point) (all behind more : List (List ℕ)) →
    all ≡ x ∷ behind → behind ≡ y ∷ more → point_of x y ≡ Some point → parsed_points points all ≡ parsed_points (points ++ point ∷ []) more
parsed_points-point points x y point all behind more first second is =
    ap (parsed_points points) (first ∙ ap (λ l. x ∷ l) second)
    ∙ ap (λ o. o >>= λ p. parsed_points (points ++ p ∷ []) more) is

-- Tests of points, and what they tell.
use Rattle.std.proofs.Common.{◌≡◌, inr, Bool, false, sym, ◌∙◌, ⊎_elim, Decides}
use Rattle.std.proofs.lemmas.Bool.{false≢true}
use Rattle.lay_point.specs.declared.point.Point.{Point}
use Rattle.lay_point.specs.Edges.{is_before}
use Rattle.lay_point.specs.Points.{point_eq}
use Rattle.lay_point.specs.Same.{point_eq-Decides}
use Rattle.lay_point.specs.Points.{IsBefore}
use Rattle.lay_point.proofs.EdgeOrder.{test_by_before}
use Rattle.snap_edge_laws.specs.Edges.{IsEndpoint}

pub not_before_by_test : (p q : Point) → is_before p q ≡ false → IsBefore p q → ⊥
not_before_by_test p q e h = false≢true (sym e ∙ test_by_before p q h)

pub IsEndpoint-Decides : (v c d : Point) (r : Bool) → point_eq v c ≡ false → r ≡ point_eq v d → Decides r (IsEndpoint v c d)
IsEndpoint-Decides v c d r other e = (
  (λ t. inr ((point_eq-Decides v d).0 (sym e ∙ t))),
  (λ h. ⊎_elim (λ (same : v ≡ c). absurd (false≢true (sym other ∙ (point_eq-Decides v c).1 same)))
      (λ (same : v ≡ d). e ∙ (point_eq-Decides v d).1 same) h),
)

use Rattle.std.proofs.Common.{◌≡◌, true}
use Rattle.snap_pixels.proofs.span.Span.inside.Goals as goal

pub returns : goal.returns
returns c = λ k t one. (
  (λ h. absurd (c.none.ensures k t h)),
  (λ both. let yes : c.is_level_inside.result ≡ true = (c.is_level_inside.ensures k t one).1 both.1 in cc),
)

use Rattle.std.proofs.Common.{w32}
use Rattle.std.proofs.lemmas.Int.{to_z-of_z}
use mir.Val.{SFits}
use Rattle.snap_pixels.proofs.span.Span.cut.Goals as goal

pub returns : goal.returns
returns c = λ k t one.
    let fits_a : SFits w32 c.args.a = c.ranges.a in
    let fits_b : SFits w32 c.args.b = c.ranges.b in
    let fits_centre : SFits w32 c.args.centre = c.ranges.centre in
    let lower = simp to_z-of_z at (c.lower.ensures k t) in
    let upper = simp to_z-of_z at (c.upper.ensures k t) in
    let first = c.inside.ensures k t one in
    let second = c.inside-2.ensures k t one in (
      (λ h.
          let both = second.0 h in
          let was = first.0 both.0 in
          (was.0, (lower.0 was.1, upper.0 both.1))),
      (λ both. second.1 (first.1 (both.0, lower.1 both.1.0), upper.1 both.1.1)),
    )

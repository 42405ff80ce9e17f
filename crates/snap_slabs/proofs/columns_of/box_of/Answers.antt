use Rattle.std.proofs.Common.{◌∙◌, ap, ap₂}
use Rattle.lay_point.specs.declared.point.Point.{Point}
use Rattle.lay_point.specs.Rects.{grown}
use Rattle.snap_slabs.proofs.columns_of.box_of.Goals as goal

pub returns : goal.returns
returns c =
    c.grown.ensures ∙ ap₂ grown (c.of.ensures ∙ ap (λ (p : Point). record { low = p; high = p }) c.a-a.ensures) c.b-b.ensures

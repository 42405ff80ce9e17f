use Rattle.std.proofs.Common.{map, subst, ◌↔◌}
use Rattle.snap_pixels.specs.Marks.{IsCrossed}
use Rattle.snap_pixels.specs.Parts.{IsCrossedInOne}
use Rattle.snap_pixels.proofs.PartLemmas.{all_new}
use Rattle.snap_pixels.proofs.parts.parts_of.Goals as goal

pub returns : goal.returns
returns c = λ p.
    subst (λ l. IsCrossedInOne (map (λ part. part.segments.items) c.add_parts.new.parts.items) p ↔ IsCrossed l.items p) c.whole.ensures
    (all_new (λ n. subst (λ l. IsCrossedInOne (map (λ part. part.segments.items) l) p) c.new-parts.ensures.items n)
    (c.in_ok-add_parts.ensures p))

use Rattle.std.proofs.Common.{◌↔◌, ◌⊎◌, Contains, List, subst}
use Rattle.snap_pixels.specs.declared.segment.Segment.{Segment}
use Rattle.snap_pixels.specs.Marks.{IsCrossed}
use Rattle.snap_pixels.proofs.PartLemmas.{IsCrossed-same, with_more}
use Rattle.snap_pixels.proofs.search.GatheredTakesParts.take.Goals as goal

pub returns : goal.returns
returns c = λ p.
    let found = subst
    (λ (l : List Segment). Contains c.add_crossings.new.centres p ↔ (Contains c.args.self.now p ⊎ IsCrossed l p))
    c.as_slice.ensures.value (c.in_ok-add_crossings.ensures p) in
    with_more found (IsCrossed-same c.once-segments.result.items c.args.part.segments.items c.once-segments.ensures p)

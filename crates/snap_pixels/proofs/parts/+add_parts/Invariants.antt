use Rattle.std.proofs.Common.{◌↔◌, ◌⊎◌, length, map}
use Rattle.lay_point.specs.declared.point.Point.{Point}
use Rattle.snap_pixels.specs.Marks.{IsCrossed}
use Rattle.snap_pixels.specs.Parts.{IsCrossedInOne}
use Rattle.snap_pixels.proofs.parts.+add_parts.Given as goal

abbrev pub decreases-add_parts : goal.decreases-add_parts
decreases-add_parts g l = l.part.depth

-- with the lists that are left, the parts so far are all
abbrev pub invariant-loop-segments : goal.invariant-loop-segments
invariant-loop-segments g l = (c : Point)
    → (g.T.TakesParts.crossed l.initial.parts c ⊎ IsCrossed l.fn.part.segments.items c)
    ↔ (g.T.TakesParts.crossed l.parts c ⊎ IsCrossedInOne (map (λ list. list.items) l.lists.items) c)

abbrev pub decreases-loop-segments : goal.decreases-loop-segments
decreases-loop-segments g l = length l.lists.items

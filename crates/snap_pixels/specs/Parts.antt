-- Lists of segments that are searched apart.
use Rattle.std.specs.Prelude.{◌⊎◌, List, [], ◌∷◌}
use Rattle.lay_point.specs.declared.point.Point.{Point}
use Rattle.snap_pixels.specs.declared.segment.Segment.{Segment}
use Rattle.snap_pixels.specs.Marks.{IsCrossed}

-- two segments of one of the lists cross in the pixel of c
abbrev pub IsCrossedInOne : List (List Segment) → Point → Type 0
IsCrossedInOne [] c = ⊥
IsCrossedInOne (part ∷ parts) c = IsCrossed part c ⊎ IsCrossedInOne parts c

-- The bridged path point by point. Of the points that came the last is held back, until the next shows whether it stays.
use Rattle.std.specs.Prelude.{List, [], ◌∷◌, ◌++◌, if◌then◌else◌}
use Rattle.lay_point.specs.declared.point.Point.{Point}
use Rattle.lay_point.specs.Points.{point_eq}
use Rattle.lay_point.specs.Rings.{closed}

-- from the start out to each of the rings, and round it
abbrev pub ways : Point → List (List Point) → List Point
ways start [] = []
ways start (ring ∷ rings) = start ∷ closed ring ++ ways start rings

-- the point that is held back stays, unless the next equals it
abbrev pub kept_by : Point → Point → List Point
kept_by held next = if point_eq held next then [] else held ∷ []

-- those that stay, of the point that is held back and of these behind it but the last
abbrev pub kept_of : Point → List Point → List Point
kept_of held [] = []
kept_of held (p ∷ ps) = kept_by held p ++ kept_of p ps

-- the last of the points, or the one that is held back where there are none
abbrev pub last_point : Point → List Point → Point
last_point held [] = held
last_point held (p ∷ ps) = last_point p ps

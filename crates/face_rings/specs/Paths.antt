-- How long the path round several rings is.
use Rattle.std.specs.Prelude.{ℕ, ◌+◌, List, [], ◌∷◌, length, if◌then◌else◌}
use Rattle.lay_point.specs.declared.point.Point.{Point}
use Rattle.lay_point.specs.Points.{point_eq}

-- how many points a further ring adds to the path: its own, its first once more, and the start on the way back; it adds
-- neither of the two where it begins at the start
abbrev pub added_len : Point → List Point → ℕ
added_len start [] = 0
added_len start (p ∷ ps) = length (p ∷ ps) + (if point_eq p start then 0 else 2)

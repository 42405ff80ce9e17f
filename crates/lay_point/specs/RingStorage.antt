-- How the points of a ring are kept. No public clause cites this module.
use Rattle.std.specs.Prelude.{List}
use Rattle.lay_point.specs.declared.point.Point.{Point}
use Rattle.lay_point.specs.declared.ring.RingStorage.{RingStorage}
use Rattle.lay_point.specs.declared.ring.RingStorage.TheVariants.{Four, Other}

-- the points, in order
abbrev pub kept_points : RingStorage → List Point
kept_points (Four points) = points
kept_points (Other points) = points.items

-- Rings: closed paths of points.
-- Source: Caltech Intermediate Form 2.0, polygons and boxes. A polygon is closed from its last vertex
-- to its first; that equal neighbours are dropped, and the limits, are this project's own.
-- Checked on: -5 -3, 5 -3, 5 3, -5 3 is a ring, and the rectangle of (-5,-3) and (5,3). Without
-- repeats (0,0) (0,0) (4,0) (4,4) (0,0) is (0,0) (4,0) (4,4), and (1,1) (1,1) is (1,1). As rings
-- two points are FewPoints; three of which one has 1,073,741,825 are OutOfRange; (1073741825,0) and
-- (0,0) are FewPoints, which is tested first.
use Rattle.std.specs.Prelude.{◌≢◌, ◌≤◌, List, [], ◌∷◌, ◌++◌, length, not, nat_lt, IsTrue, Result, Ok, Err, if◌then◌else◌}
use Rattle.std.specs.List.{list_all}
use Rattle.lay_point.specs.declared.point.Point.{Point}
use Rattle.lay_point.specs.declared.ring.RingFault.{RingFault}
use Rattle.lay_point.specs.declared.ring.TheConstants.{MAX_RING_POINTS}
use Rattle.lay_point.specs.declared.ring.RingFault.TheVariants.{FewPoints, OutOfRange, TooMany}
use Rattle.lay_point.specs.Points.{is_in_range, point_eq}

-- the path, its first point again at its end
abbrev pub closed : List Point → List Point
closed [] = []
closed (p ∷ ps) = p ∷ ps ++ p ∷ []

-- each point differs from the one before it
abbrev pub NeighboursDiffer : List Point → Type 0
NeighboursDiffer [] = Unit {0}
NeighboursDiffer (p ∷ []) = Unit {0}
NeighboursDiffer (p ∷ q ∷ ps) = (p ≢ q) × NeighboursDiffer (q ∷ ps)

-- what a ring keeps
pub record IsRing (points : List Point) : Type 0 where
  pub enough : 3 ≤ length points
  pub few : length points ≤ MAX_RING_POINTS
  pub in_range : IsTrue (list_all is_in_range points)
  pub apart : NeighboursDiffer (closed points)

-- what is kept of points behind this one: no point that equals the one before it
abbrev pub kept_behind : Point → List Point → List Point
kept_behind last [] = []
kept_behind last (p ∷ ps) = if point_eq last p then kept_behind last ps else p ∷ kept_behind p ps

-- no point that equals the one before it
abbrev pub without_neighbours : List Point → List Point
without_neighbours [] = []
without_neighbours (p ∷ ps) = p ∷ kept_behind p ps

-- the points behind the first, without the last of them where it is the first again
abbrev pub opened_behind : Point → List Point → List Point
opened_behind first [] = []
opened_behind first (p ∷ []) = if point_eq first p then [] else p ∷ []
opened_behind first (p ∷ q ∷ ps) = p ∷ opened_behind first (q ∷ ps)

-- the path without its last point where that is the first again and not the only one
abbrev pub opened : List Point → List Point
opened [] = []
opened (p ∷ ps) = p ∷ opened_behind p ps

-- a point that equals the one before it is dropped, then the last where it equals the first and isn't the only one
unfoldable pub without_repeats : List Point → List Point
without_repeats points = opened (without_neighbours points)

-- what the points that are kept make
abbrev pub checked_ring : List Point → Result (List Point) RingFault
checked_ring kept =
    if nat_lt (length kept) 3 then Err FewPoints
    else if not (list_all is_in_range kept) then Err OutOfRange
    else if nat_lt MAX_RING_POINTS (length kept) then Err TooMany
    else Ok kept

-- the ring of these points
unfoldable pub ring_of : List Point → Result (List Point) RingFault
ring_of points = checked_ring (without_repeats points)

-- the ring of an upright rectangle, from its lower left corner anticlockwise
abbrev pub rectangle : Point → Point → List Point
rectangle low high =
    record { x = low.x; y = low.y } ∷ record { x = high.x; y = low.y }
    ∷ record { x = high.x; y = high.y } ∷ record { x = low.x; y = high.y } ∷ []

-- What a polygon draws.
-- Source: Caltech Intermediate Form 2.0, polygons: closed from the last vertex to the first. That vertices which equal the one
-- before are dropped, and the polygon where fewer than three are left, is this project's own.
use Rattle.std.specs.Prelude.{ℕ, nat_lt, List, [], ◌∷◌, ◌++◌, not, Bool, ◌||◌, Option, Some, None, Result, Ok, Err, if◌then◌else◌}
use Rattle.std.specs.List.{list_all}
use Rattle.lay_point.specs.declared.point.Point.{Point}
use Rattle.lay_point.specs.declared.ring.RingFault.{RingFault}
use Rattle.lay_point.specs.declared.ring.RingFault.TheVariants.{FewPoints, OutOfRange, NoMemory as NoRoom, TooMany as ManyPoints}
use Rattle.lay_point.specs.Rings.{ring_of}
use Rattle.lay_point.specs.Turns.{within_range}
use Rattle.cif_grammar.specs.declared.number.TheConstants.{MAX_MAGNITUDE}
use Rattle.byte_io.specs.Steps.{◌>>=◌}
use Rattle.cif_grammar.specs.declared.definitions.Scale.{Scale}
use Rattle.cif_grammar.specs.declared.paths.Vertex.{Vertex}
use Rattle.cif_read.specs.declared.fault.FaultKind.{FaultKind}
use Rattle.cif_read.specs.declared.fault.FaultKind.TheVariants.{NoMemory, OffGrid, TooBig, TooMany}
use Rattle.cif_read.specs.Scales.{is_whole_vertex, scaled_vertex}

-- a magnitude above all that a text may write
abbrev pub is_above_written : ℕ → Bool
is_above_written magnitude = nat_lt MAX_MAGNITUDE magnitude

abbrev pub is_too_big : Vertex → Bool
is_too_big v = is_above_written v.x.magnitude || is_above_written v.y.magnitude

-- the ring that is drawn, or none where the polygon is dropped
abbrev pub ring_or_none : Result (List Point) RingFault → Result (Option (List Point)) FaultKind
ring_or_none (Ok ring) = Ok (Some ring)
ring_or_none (Err FewPoints) = Ok None
ring_or_none (Err OutOfRange) = Err TooBig
ring_or_none (Err ManyPoints) = Err TooMany
ring_or_none (Err NoRoom) = Err NoMemory

-- the points found so far and those of the vertices that follow, where all are in range
unfoldable pub points_from : Scale → List Point → List Vertex → Option (List Point)
points_from scale found [] = Some found
points_from scale found (v ∷ vs) = do
  p ← within_range (scaled_vertex scale v)
  points_from scale (found ++ p ∷ []) vs

abbrev pub ring_of_points : Option (List Point) → Result (Option (List Point)) FaultKind
ring_of_points None = Err TooBig
ring_of_points (Some points) = ring_or_none (ring_of points)

-- what a polygon with these vertices draws at this scale
unfoldable pub polygon_at : Scale → List Vertex → Result (Option (List Point)) FaultKind
polygon_at scale vertices =
    if not (list_all (is_whole_vertex scale) vertices) then Err OffGrid else ring_of_points (points_from scale [] vertices)

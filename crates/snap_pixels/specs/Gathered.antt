-- Centres as numbers below 2^64 that are in the order of points: by x, then by y.
use Rattle.std.specs.Prelude.{ℕ, ◌/◌, ◌%◌}
use Rattle.lay_point.specs.declared.point.Point.{Point}
use Rattle.snap_pixels.specs.Coordinates.{coordinate_from}

-- the upper 32 bits are for x
abbrev pub centre_of : ℕ → Point
centre_of key = record { x = coordinate_from (key / 4294967296); y = coordinate_from (key % 4294967296) }

-- Sides of a pixel, as tests of the fractions t / k of the way along a segment.
use Rattle.std.specs.Prelude.{ℤ, pos, ◌+ℤ◌, ◌*ℤ◌, ◌≤ℤ◌, ◌<ℤ◌, MatchBool}
use Rattle.snap_pixels.specs.declared.side.Side.{Side}
use Rattle.snap_pixels.specs.declared.span.Span.{Span}

-- how far inside the side the point at t / k is
abbrev pub depth : Side → ℤ → ℤ → ℤ
depth s k t = s.slope *ℤ t +ℤ s.offset *ℤ k

-- the point at t / k is inside the side, or on it where the side counts
abbrev pub Passes : Side → ℤ → ℤ → Type 0
Passes s k t = MatchBool s.open (pos 0 <ℤ depth s k t) (pos 0 ≤ℤ depth s k t)

abbrev pub IsWithin : Span → ℤ → ℤ → Type 0
IsWithin span k t = Passes span.low k t × Passes span.high k t

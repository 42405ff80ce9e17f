-- What composed turns do to points.
use Rattle.std.specs.Prelude.{◌≡◌, ◌^◌, ℤ, pos, neg_ℤ, ◌≤ℤ◌}
use Rattle.lay_point.specs.declared.point.Point.{Point}
use Rattle.lay_point.specs.declared.turn.Turn.{Turn}
use Rattle.lay_point.specs.Turns.{composed, turned}

-- the composed turn takes each point where the second takes what the first makes of it
abbrev pub ComposedMap : Turn → Turn → Type 0
ComposedMap first next = (p : Point) → turned (composed first next) p ≡ turned next (turned first p)

-- no farther off than any coordinate of 32 bits
pub record IsNearby (place : ℤ) : Type 0 where
  pub low : neg_ℤ (pos (2 ^ 31)) ≤ℤ place
  pub high : place ≤ℤ pos (2 ^ 31)

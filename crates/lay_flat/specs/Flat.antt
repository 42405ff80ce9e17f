-- Rings of a flattening.
use Rattle.std.specs.Prelude.{◌≡◌, ℕ, Bool, true, List}
use Rattle.std.specs.List.{list_all}
use Rattle.lay_point.specs.declared.point.Point.{Point}
use Rattle.lay_point.specs.declared.turn.Turn.{Turn}
use Rattle.lay_point.specs.Points.{is_in_range}
use Rattle.lay_point.specs.Rings.{IsRing}
use Rattle.lay_point.specs.Turns.{turned}

-- the points of a ring, what is done to them, and the number of its shape
abbrev pub FlatRing : Type 0
FlatRing = List Point × Turn × ℕ

-- where the turn takes the points is in range
abbrev pub is_within : FlatRing → Bool
is_within ring = list_all (λ p. is_in_range (turned ring.1 p)) ring.0

-- the points are a ring's, and where the turn takes them is in range
pub record IsFlat (ring : FlatRing) : Type 0 where
  pub drawn : IsRing ring.0
  pub within : is_within ring ≡ true

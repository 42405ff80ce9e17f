-- Distances in database units, half-hundredths of a micrometre.
-- Source: Caltech Intermediate Form 2.0: a file's distances are hundredths of a micrometre, and those of a definition are
-- multiplied by its scale. That a distance has to be whole in database units is this project's own.
use Rattle.std.specs.Prelude.{ℕ, ◌≤◌, ◌*◌, ◌/◌, ◌%◌, ◌==◌, ℤ, pos, neg_ℤ, ◌*ℤ◌, int_lt, unsigned_abs, Bool, ◌&&◌, if◌then◌else◌}
use Rattle.lay_point.specs.declared.point.Point.{Point}
use Rattle.cif_grammar.specs.declared.number.Number.{Number}
use Rattle.cif_grammar.specs.declared.number.TheConstants.{MAX_MAGNITUDE}
use Rattle.cif_grammar.specs.declared.definitions.Scale.{Scale}
use Rattle.cif_grammar.specs.declared.paths.Vertex.{Vertex}

-- what a written number stands for
abbrev pub value_of : Number → ℤ
value_of n = if n.negative then neg_ℤ (pos n.magnitude) else pos n.magnitude

-- hundredths of a micrometre as database units
abbrev pub doubled : Number → ℤ
doubled n = pos 2 *ℤ value_of n

-- a scale that a definition may have: both numbers within what a text may write, and neither zero
pub record IsRatio (scale : Scale) : Type 0 where
  pub some : 1 ≤ scale.numerator
  pub numerator : scale.numerator ≤ MAX_MAGNITUDE
  pub denominator : 1 ≤ scale.denominator

-- the magnitude of a distance times the scale's numerator
abbrev pub product : Scale → ℤ → ℕ
product scale distance = unsigned_abs distance * scale.numerator

-- the distance is whole at this scale
unfoldable pub is_whole : Scale → ℤ → Bool
is_whole scale distance = product scale distance % scale.denominator == 0

-- a magnitude with the sign of a number
abbrev pub with_sign_of : ℤ → ℕ → ℤ
with_sign_of z n = if int_lt z (pos 0) then neg_ℤ (pos n) else pos n

-- the distance at this scale, where it is whole
unfoldable pub scaled : Scale → ℤ → ℤ
scaled scale distance = with_sign_of distance (product scale distance / scale.denominator)

-- both distances of a vertex are whole
abbrev pub is_whole_vertex : Scale → Vertex → Bool
is_whole_vertex scale v = is_whole scale (doubled v.x) && is_whole scale (doubled v.y)

-- the point that a vertex stands for
abbrev pub scaled_vertex : Scale → Vertex → Point
scaled_vertex scale v = record { x = scaled scale (doubled v.x); y = scaled scale (doubled v.y) }

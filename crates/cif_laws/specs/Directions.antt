-- Directions: vectors of which only the direction counts.
-- Source: Caltech Intermediate Form 2.0, directions.
use Rattle.std.specs.Prelude.{◌≡◌, ℤ, pos, ◌+ℤ◌, ◌*ℤ◌, ◌<ℤ◌}
use Rattle.cif_grammar.specs.declared.paths.Vertex.{Vertex}
use Rattle.cif_read.specs.Scales.{value_of}

abbrev pub x_of : Vertex → ℤ
x_of v = value_of v.x

abbrev pub y_of : Vertex → ℤ
y_of v = value_of v.y

-- the length of a vector, where it is a whole number
pub record IsLength (v : Vertex) (length : ℤ) : Type 0 where
  pub some : pos 0 <ℤ length
  pub square : length *ℤ length ≡ (x_of v *ℤ x_of v) +ℤ (y_of v *ℤ y_of v)

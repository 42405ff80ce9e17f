-- What changes do to a point.
-- Source: Caltech Intermediate Form 2.0, transformations. `T` adds a vector. `M X` multiplies x by -1, and `M Y` multiplies y
-- by -1. `R` turns the x axis to a direction. They are made one after the other, from left to right.
use Rattle.std.specs.Prelude.{◌≡◌, ◌↔◌, ℕ, ℤ, neg_ℤ, ◌+ℤ◌, ◌-ℤ◌, ◌*ℤ◌, List, [], ◌∷◌, ◌++◌, Ok}
use Rattle.lay_point.specs.declared.point.Point.{Point}
use Rattle.lay_point.specs.declared.turn.Turn.{Turn}
use Rattle.lay_point.specs.Turns.{turned}
use Rattle.cif_grammar.specs.declared.calls.Change.{Change}
use Rattle.cif_grammar.specs.declared.calls.Change.TheVariants.{Direction, MirrorX, MirrorY, Shift}
use Rattle.cif_grammar.specs.declared.definitions.Scale.{Scale}
use Rattle.cif_grammar.specs.declared.paths.Vertex.{Vertex}
use Rattle.cif_grammar.specs.Commands as command
use Rattle.cif_read.specs.declared.content.Content.{Content}
use Rattle.cif_read.specs.Content.{called, current_scale, effect_of}
use Rattle.cif_read.specs.Scales.{IsRatio}
use Rattle.cif_laws.specs.Directions.{IsLength, x_of, y_of}
use Rattle.cif_laws.specs.Distances.{IsDistance}

-- the vector was added
pub record IsShifted (scale : Scale) (v : Vertex) (p q : Point) : Type 0 where
  pub x : IsDistance scale v.x (q.x -ℤ p.x)
  pub y : IsDistance scale v.y (q.y -ℤ p.y)

-- the plane was turned round the origin, so that (1, 0) went to the direction's unit vector, and (0, 1) to the one a quarter
-- turn anticlockwise from it
pub record IsRotated (v : Vertex) (p q : Point) : Type 0 where
  pub length : ℤ
  pub is_length : IsLength v length
  pub x : q.x *ℤ length ≡ (p.x *ℤ x_of v) -ℤ (p.y *ℤ y_of v)
  pub y : q.y *ℤ length ≡ (p.x *ℤ y_of v) +ℤ (p.y *ℤ x_of v)

-- a change takes one point to another
abbrev pub MapsPoint : Scale → Change → Point → Point → Type 0
MapsPoint scale (Shift v) p q = IsShifted scale v p q
MapsPoint scale MirrorX p q = (q.x ≡ neg_ℤ p.x) × (q.y ≡ p.y)
MapsPoint scale MirrorY p q = (q.x ≡ p.x) × (q.y ≡ neg_ℤ p.y)
MapsPoint scale (Direction v) p q = IsRotated v p q

-- changes do, one after the other
abbrev pub TakeInTurn : Scale → List Change → Point → Point → Type 0
TakeInTurn scale [] p q = p ≡ q
TakeInTurn scale (c ∷ cs) p q = (m : Point) × MapsPoint scale c p m × TakeInTurn scale cs m q

-- a call of the symbol was kept, which takes a point where the changes take it
pub record IsCallBy (content next : Content) (offset symbol : ℕ) (changes : List Change) : Type 0 where
  pub turn : Turn
  pub next_is : next ≡ called content offset symbol turn
  pub points : (p q : Point) → TakeInTurn (current_scale content.definition) changes p q ↔ (turned turn p ≡ q)

pub record CallsMovePoints : Type 0 where
  pub calls : (content next : Content) (offset symbol : ℕ) (changes : List Change) → IsRatio (current_scale content.definition)
      → effect_of content offset (command.Call symbol changes) ≡ Ok next → IsCallBy content next offset symbol changes
  -- more changes start from where the first ones led
  pub more : (scale : Scale) (first more : List Change) (p q : Point)
      → TakeInTurn scale (first ++ more) p q ↔ ((m : Point) × TakeInTurn scale first p m × TakeInTurn scale more m q)

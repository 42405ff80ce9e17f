-- The points of a box.
-- Source: Caltech Intermediate Form 2.0, boxes: a length along a direction, a width across it, and a centre; the direction is
-- that of the x axis where none is written.
use Rattle.std.specs.Prelude.{◌≡◌, ◌⊎◌, ◌↔◌, ℕ, ℤ, pos, neg_ℤ, ◌+ℤ◌, ◌-ℤ◌, ◌*ℤ◌, ◌≤ℤ◌, List, Ok, false, unwrap_or}
use Rattle.lay_point.specs.declared.point.Point.{Point}
use Rattle.lay_point.specs.Rings.{rectangle}
use Rattle.cif_grammar.specs.declared.number.Number.{Number}
use Rattle.cif_grammar.specs.declared.boxes.BoxNumbers.{BoxNumbers}
use Rattle.cif_grammar.specs.declared.definitions.Scale.{Scale}
use Rattle.cif_grammar.specs.declared.paths.Vertex.{Vertex}
use Rattle.cif_grammar.specs.Commands as command
use Rattle.cif_read.specs.declared.content.Content.{Content}
use Rattle.cif_read.specs.Content.{current_scale, effect_of}
use Rattle.cif_read.specs.Scales.{IsRatio, value_of}
use Rattle.cif_laws.specs.Directions.{IsLength, x_of, y_of}
use Rattle.cif_laws.specs.Distances.{DrawsRing}

abbrev pub x_axis : Vertex
x_axis = record { x = record { negative = false; magnitude = 1 }; y = record { negative = false; magnitude = 0 } }

abbrev pub box_direction : BoxNumbers → Vertex
box_direction b = unwrap_or b.direction x_axis

-- how far a place is from where a number is, times the scale's denominator
abbrev pub away : Scale → Number → ℤ → ℤ
away scale n place = (place *ℤ pos scale.denominator) -ℤ ((pos 2 *ℤ value_of n) *ℤ pos scale.numerator)

-- how far a point is from the centre along the direction, and across it, times the denominator and the direction's length
abbrev pub along_box : Scale → BoxNumbers → Point → ℤ
along_box scale b p =
    (away scale b.centre.x p.x *ℤ x_of (box_direction b)) +ℤ (away scale b.centre.y p.y *ℤ y_of (box_direction b))

abbrev pub across : Scale → BoxNumbers → Point → ℤ
across scale b p =
    (away scale b.centre.y p.y *ℤ x_of (box_direction b)) -ℤ (away scale b.centre.x p.x *ℤ y_of (box_direction b))

-- a side, times the denominator and the direction's length
abbrev pub side : Scale → ℕ → ℤ → ℤ
side scale written length = ((pos 2 *ℤ pos written) *ℤ pos scale.numerator) *ℤ length

-- the distance, to either side, is at most half of this
abbrev pub IsWithinHalf : ℤ → ℤ → Type 0
IsWithinHalf whole distance = (neg_ℤ whole ≤ℤ (pos 2 *ℤ distance)) × ((pos 2 *ℤ distance) ≤ℤ whole)

-- the point is in the box
pub record IsInBox (scale : Scale) (b : BoxNumbers) (length : ℤ) (p : Point) : Type 0 where
  pub along : IsWithinHalf (side scale b.length length) (along_box scale b p)
  pub across : IsWithinHalf (side scale b.width length) (across scale b p)

-- the point is in the upright rectangle between two corners
pub record IsInRectangle (low high p : Point) : Type 0 where
  pub left : low.x ≤ℤ p.x
  pub right : p.x ≤ℤ high.x
  pub bottom : low.y ≤ℤ p.y
  pub top : p.y ≤ℤ high.y

-- the ring is that of a rectangle, and its points are those of the box
pub record IsBoxOf (scale : Scale) (b : BoxNumbers) (ring : List Point) : Type 0 where
  pub low : Point
  pub high : Point
  pub corners : ring ≡ rectangle low high
  pub length : ℤ
  pub is_length : IsLength (box_direction b) length
  pub points : (p : Point) → IsInRectangle low high p ↔ IsInBox scale b length p

abbrev pub HasZeroSide : BoxNumbers → Type 0
HasZeroSide b = (b.length ≡ 0) ⊎ (b.width ≡ 0)

abbrev pub BoxesHoldTheirPoints : Type 0
BoxesHoldTheirPoints = (content next : Content) (offset : ℕ) (b : BoxNumbers) → IsRatio (current_scale content.definition)
    → effect_of content offset (command.Box b) ≡ Ok next
    → DrawsRing content next (HasZeroSide b) (IsBoxOf (current_scale content.definition) b)

-- Distances: what is written, in hundredths of a micrometre, multiplied and divided by the scale of its definition.
-- Source: Caltech Intermediate Form 2.0, symbol definitions: a scale a / b multiplies each distance in the definition by a and
-- divides it by b. That there are two database units to a hundredth of a micrometre is this project's own.
use Rattle.std.specs.Prelude.{◌≡◌, ◌⊎◌, ℕ, ℤ, pos, ◌*ℤ◌, List, [], ◌∷◌, Option, Some, Ok, Contains, MatchOption, true, ⊤}
use Rattle.lay_point.specs.declared.point.Point.{Point}
use Rattle.cif_grammar.specs.declared.number.Number.{Number}
use Rattle.cif_grammar.specs.declared.definitions.Scale.{Scale}
use Rattle.cif_grammar.specs.declared.paths.Vertex.{Vertex}
use Rattle.cif_grammar.specs.Commands.{Command}
use Rattle.cif_grammar.specs.Commands as command
use Rattle.cif_grammar.specs.Definitions.{plain_scale}
use Rattle.cif_read.specs.declared.content.Content.{Content}
use Rattle.cif_read.specs.Content.{current_scale, drawn, effect_of, empty_content}
use Rattle.cif_read.specs.Scales.{IsRatio, doubled, is_whole, scaled, value_of}

-- these database units are the written distance at this scale
abbrev pub IsDistance : Scale → Number → ℤ → Type 0
IsDistance scale n units = units *ℤ pos scale.denominator ≡ (pos 2 *ℤ value_of n) *ℤ pos scale.numerator

-- the point is the place of the vertex
abbrev pub IsPlace : Scale → Vertex → Point → Type 0
IsPlace scale v p = IsDistance scale v.x p.x × IsDistance scale v.y p.y

-- a distance is whole where some number of database units is that distance, and is then that number
pub record IsScaled (scale : Scale) (n : Number) : Type 0 where
  pub whole : is_whole scale (doubled n) ≡ true → IsDistance scale n (scaled scale (doubled n))
  pub only : (units : ℤ) → IsDistance scale n units → (is_whole scale (doubled n) ≡ true) × (scaled scale (doubled n) ≡ units)

-- the scale behind a command
abbrev pub scale_after : Command → Scale → Scale
scale_after (command.Polygon vertices) scale = scale
scale_after (command.Box b) scale = scale
scale_after (command.Layer name) scale = scale
scale_after (command.Start d) scale = d.scale
scale_after command.Finish scale = plain_scale
scale_after (command.Call symbol changes) scale = scale
scale_after command.Extension scale = scale
scale_after command.Comment scale = scale

-- a scale that may be kept, and the next one
pub record IsNextScale (content next : Content) (c : Command) : Type 0 where
  pub scale : current_scale next.definition ≡ scale_after c (current_scale content.definition)
  pub ratio : IsRatio (current_scale next.definition)

-- the points are places of these vertices, in their order; a vertex may be left out
abbrev pub ArePlaces : Scale → List Vertex → List Point → Type 0
ArePlaces scale vertices [] = ⊤
ArePlaces scale [] (p ∷ ps) = ⊥
ArePlaces scale (v ∷ vs) (p ∷ ps) = (IsPlace scale v p × ArePlaces scale vs ps) ⊎ ArePlaces scale vs (p ∷ ps)

-- the corners are places of the vertices, in their order, and each vertex is at a corner
pub record IsPolygonOf (scale : Scale) (vertices : List Vertex) (ring : List Point) : Type 0 where
  pub in_order : ArePlaces scale vertices ring
  pub each : (v : Vertex) (p : Point) → Contains vertices v → IsPlace scale v p → Contains ring p

-- the vertices are all at one of two points
pub record LieOnTwoPoints (scale : Scale) (vertices : List Vertex) : Type 0 where
  pub one : Point
  pub other : Point
  pub each : (v : Vertex) (p : Point) → Contains vertices v → IsPlace scale v p → (p ≡ one) ⊎ (p ≡ other)

-- something was drawn on the layer that is set: a ring that is as wanted, or none, where that may be
pub record DrawsRing (content next : Content) (MayDrop : Type 0) (IsWanted : List Point → Type 0) : Type 0 where
  pub layer : List ℕ
  pub set : content.layer ≡ Some layer
  pub ring : Option (List Point)
  pub next_is : next ≡ drawn content layer ring
  pub wanted : MatchOption ring MayDrop IsWanted

pub record DistancesAreScaled : Type 0 where
  pub distances : (scale : Scale) (n : Number) → IsRatio scale → IsScaled scale n
  -- the first scale is 1 to 1; each command leaves the one that the definition says, and it is a ratio
  pub first : current_scale empty_content.definition ≡ plain_scale
  pub scales : (content next : Content) (offset : ℕ) (c : Command) → IsRatio (current_scale content.definition)
      → effect_of content offset c ≡ Ok next → IsNextScale content next c
  pub polygons : (content next : Content) (offset : ℕ) (vertices : List Vertex) → IsRatio (current_scale content.definition)
      → effect_of content offset (command.Polygon vertices) ≡ Ok next
      → DrawsRing content next (LieOnTwoPoints (current_scale content.definition) vertices)
      (IsPolygonOf (current_scale content.definition) vertices)

-- Edges of snap-rounded segments. A segment becomes the chain of the hot centres whose pixels it meets, in the order in which
-- it goes; an edge joins two neighbours of a chain.
-- Source: Hobby, Practical segment intersection with finite precision output, 1999.
-- Checked on: (0, 0) to (1, 1) and (0, 1) to (1, 0) have the chains (0, 0), (1, 1) and (0, 1),
-- (1, 1), (1, 0); with (4, 1) to (4, 9), (0, 0) to (10, 2) has the chain (0, 0), (4, 1), (10, 2).
use Rattle.std.specs.Prelude.{◌≡◌, ◌⊎◌, ℤ, pos, ◌+ℤ◌, ◌-ℤ◌, ◌*ℤ◌, ◌≤ℤ◌, ◌<ℤ◌, List, Contains}
use Rattle.std.specs.Int.{int_signum}
use Rattle.lay_point.specs.declared.point.Point.{Point}
use Rattle.snap_pixels.specs.declared.segment.Segment.{Segment}
use Rattle.lay_point.specs.Points.{IsBefore}
use Rattle.snap_pixels.specs.Segments.{Meets}
use Rattle.snap_pixels.specs.Hot.{IsHot}

-- how far a centre lies along the direction of the segment, of which only the signs count
abbrev pub key : Segment → Point → ℤ
key s c = int_signum (s.b.x -ℤ s.a.x) *ℤ c.x +ℤ int_signum (s.b.y -ℤ s.a.y) *ℤ c.y

-- c comes before d in the segment's chain: its key is less, or it is equal and c is before d in the order of points
abbrev pub IsBelow : Segment → Point → Point → Type 0
IsBelow s c d = (key s c <ℤ key s d) ⊎ ((key s c ≡ key s d) × IsBefore c d)

-- from c to d goes an edge of the segment: it meets both pixels, both centres are hot, and it meets no hot one between
pub record IsEdgeOf (Hot : Point → Type 0) (s : Segment) (c d : Point) : Type 0 where
  pub first_hot : Hot c
  pub last_hot : Hot d
  pub first_met : Meets s.a s.b c
  pub last_met : Meets s.a s.b d
  pub below : IsBelow s c d
  pub none_between : (v : Point) → Hot v → Meets s.a s.b v → IsBelow s c v → IsBelow s v d → ⊥

-- b is one of a and c, or between them
abbrev pub IsBetween : ℤ → ℤ → ℤ → Type 0
IsBetween a b c = ((a ≤ℤ b) × (b ≤ℤ c)) ⊎ ((c ≤ℤ b) × (b ≤ℤ a))

-- the place (x, y) at scale k is on the edge from c to d: on their line, and in their bounding box with its sides
pub record IsOn (c d : Point) (k x y : ℤ) : Type 0 where
  pub line : (x -ℤ k *ℤ c.x) *ℤ (d.y -ℤ c.y) ≡ (y -ℤ k *ℤ c.y) *ℤ (d.x -ℤ c.x)
  pub column : IsBetween (k *ℤ c.x) x (k *ℤ d.x)
  pub row : IsBetween (k *ℤ c.y) y (k *ℤ d.y)

-- v is an end of the edge from c to d
abbrev pub IsEndpoint : Point → Point → Point → Type 0
IsEndpoint v c d = (v ≡ c) ⊎ (v ≡ d)

-- the edges have the same ends, in one order or the other
abbrev pub AreOneEdge : Point → Point → Point → Point → Type 0
AreOneEdge c d c' d' = ((c ≡ c') × (d ≡ d')) ⊎ ((c ≡ d') × (d ≡ c'))

-- the place (x, y) at scale k is a point that is an end of both edges
pub record IsSharedEnd (c d c' d' : Point) (k x y : ℤ) : Type 0 where
  pub end : Point
  pub column : x ≡ k *ℤ end.x
  pub row : y ≡ k *ℤ end.y
  pub of_first : IsEndpoint end c d
  pub of_second : IsEndpoint end c' d'

-- edges of the segments, taken as undirected, have no place in common but a shared end
abbrev pub MeetOnlyAtEnds : List Segment → Type 0
MeetOnlyAtEnds segments = (s s' : Segment) → Contains segments s → Contains segments s' →
    (c d c' d' : Point) → IsEdgeOf (IsHot segments) s c d → IsEdgeOf (IsHot segments) s' c' d' →
    ¬ (AreOneEdge c d c' d') → (k x y : ℤ) → pos 1 ≤ℤ k → IsOn c d k x y → IsOn c' d' k x y →
    IsSharedEnd c d c' d' k x y

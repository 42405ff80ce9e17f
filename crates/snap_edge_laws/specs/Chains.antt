-- Chains of segments, and what is so of each.
-- Source: Hobby, Practical segment intersection with finite precision output, 1999.
use Rattle.std.specs.Prelude.{◌≡◌, ◌↔◌, ℤ, pos, ◌≤ℤ◌, List, Contains}
use Rattle.lay_point.specs.declared.point.Point.{Point}
use Rattle.snap_pixels.specs.declared.segment.Segment.{Segment}
use Rattle.snap_pixels.specs.Segments.{Meets}
use Rattle.snap_pixels.specs.Hot.{IsHot}
use Rattle.snap_edge_laws.specs.Edges.{IsBelow, IsEdgeOf, IsOn, AreOneEdge, IsSharedEnd}
use Rattle.lay_point.specs.Rising.{IsRising, pairs, IsFromTo}

-- the chain of the segment: the hot centres whose pixels it meets, each once, in the order in which it goes
pub record IsChain (Hot : Point → Type 0) (s : Segment) (chain : List Point) : Type 0 where
  pub rising : IsRising (IsBelow s) chain
  pub exact : (c : Point) → Contains chain c ↔ (Hot c × Meets s.a s.b c)

-- a segment has one chain
abbrev pub ChainsAreUnique : List Segment → Type 0
ChainsAreUnique segments = (s : Segment) (chain chain' : List Point) →
    IsChain (IsHot segments) s chain → IsChain (IsHot segments) s chain' → chain ≡ chain'

-- the neighbours in a segment's chain are its edges
abbrev pub NeighboursAreEdges : List Segment → Type 0
NeighboursAreEdges segments = (s : Segment) (chain : List Point) → IsChain (IsHot segments) s chain →
    (c d : Point) → Contains (pairs chain) (c, d) ↔ IsEdgeOf (IsHot segments) s c d

-- the chain of one of the segments goes from its one end to the other
abbrev pub ChainsJoinEnds : List Segment → Type 0
ChainsJoinEnds segments = (s : Segment) (chain : List Point) → Contains segments s →
    IsChain (IsHot segments) s chain → IsFromTo s.a s.b chain

-- c and d are neighbours in the chain of one of the segments
pub record IsRoundedEdge (segments : List Segment) (c d : Point) : Type 0 where
  pub s : Segment
  pub chain : List Point
  pub given : Contains segments s
  pub is_chain : IsChain (IsHot segments) s chain
  pub neighbours : Contains (pairs chain) (c, d)

-- two of these, different as undirected edges, have no place in common but a shared end
abbrev pub RoundedEdgesAreClean : List Segment → Type 0
RoundedEdgesAreClean segments = (c d c' d' : Point) → IsRoundedEdge segments c d → IsRoundedEdge segments c' d' →
    ¬ (AreOneEdge c d c' d') → (k x y : ℤ) → pos 1 ≤ℤ k → IsOn c d k x y → IsOn c' d' k x y →
    IsSharedEnd c d c' d' k x y

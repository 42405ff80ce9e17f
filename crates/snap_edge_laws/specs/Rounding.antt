-- Rounded paths and rings: the chains of their edges, joined.
-- Source: Hobby, Practical segment intersection with finite precision output, 1999.
use Rattle.std.specs.Prelude.{◌≡◌, Bool, false, List, [], ◌∷◌, ◌++◌, Contains}
use Rattle.lay_point.specs.declared.point.Point.{Point}
use Rattle.snap_pixels.specs.declared.segment.Segment.{Segment}
use Rattle.snap_pixels.specs.Hot.{IsHot}
use Rattle.snap_edge_laws.specs.Chains.{IsChain, IsRoundedEdge}
use Rattle.lay_point.specs.Parity.{xor, parity}
use Rattle.lay_point.specs.Rising.{pairs, IsFromTo}

-- all but the first
abbrev pub tail : {A : Type 0} → List A → List A
tail [] = []
tail (x ∷ xs) = xs

-- the points of a ring, and its first again
abbrev pub closed_walk : {A : Type 0} → List A → List A
closed_walk [] = []
closed_walk (x ∷ xs) = x ∷ (xs ++ (x ∷ []))

-- the rounded path, over the hot centres of the segments: the chain of the first edge, and then the rounded rest without the point that
-- it shares with the chain
pub data IsRoundedPath (segments : List Segment) : List Point → List Point → Type 0 where
  point : (p : Point) → IsRoundedPath segments (p ∷ []) (p ∷ [])
  further : (s : Segment) (path chain rest : List Point) → Contains segments s → IsChain (IsHot segments) s chain
      → IsRoundedPath segments (s.b ∷ path) rest → IsRoundedPath segments (s.a ∷ s.b ∷ path) (chain ++ tail rest)

-- a rounded path goes from the path's first point to its last
abbrev pub RoundedPathsJoinEnds : List Segment → Type 0
RoundedPathsJoinEnds segments = (path points : List Point) → IsRoundedPath segments path points →
    (a b : Point) → IsFromTo a b path → IsFromTo a b points

-- neighbours in it are neighbours in the chain of one of the segments
abbrev pub RoundedPathsHaveEdges : List Segment → Type 0
RoundedPathsHaveEdges segments = (path points : List Point) → IsRoundedPath segments path points →
    (c d : Point) → Contains (pairs points) (c, d) → IsRoundedEdge segments c d

-- of the edges of a rounded ring an even number have ends that differ in a test of points
abbrev pub RoundedRingsAreEven : List Segment → Type 0
RoundedRingsAreEven segments = (ring points : List Point) → IsRoundedPath segments (closed_walk ring) points →
    (test : Point → Bool) → parity (λ e. xor (test e.0) (test e.1)) (pairs points) ≡ false

-- Edges that are the same but for their order, and for edges that stand there twice: in both directions, or in either. No public
-- clause cites this module.
use Rattle.std.specs.Prelude.{◌≡◌, ℤ, Bool, List}
use Rattle.std.specs.List.{AllByRecursion}
use Rattle.lay_point.specs.declared.point.Point.{Point}
use Rattle.lay_point.specs.Parity.{parity}
use Rattle.lay_point.specs.RingEdges.{edges_of}
use Rattle.lay_point.specs.Rings.{IsRing}
use Rattle.lay_oriented.specs.Winding.{IsTurn, sum_of}

-- the same edges with their directions, but for those that stand there in both: whatever is turned round with an edge sums up alike
abbrev pub GoAlike : List (Point × Point) → List (Point × Point) → Type 0
GoAlike new old = (f : Point × Point → ℤ) → IsTurn f → sum_of f new ≡ sum_of f old

-- the test takes no note of an edge's direction
abbrev pub IsUndirected : (Point × Point → Bool) → Type 0
IsUndirected test = (p q : Point) → test (p, q) ≡ test (q, p)

-- the same edges without directions, but for those that stand there twice: of both, an odd number passes each test or an even one
abbrev pub PassAlike : List (Point × Point) → List (Point × Point) → Type 0
PassAlike new old = (test : Point × Point → Bool) → IsUndirected test → parity test new ≡ parity test old

-- rings with the edges of the old ones and ways that are gone out and back
abbrev pub AreJoinedRings : List (List Point) → List (List Point) → Type 0
AreJoinedRings new old = GoAlike (edges_of new) (edges_of old) × AllByRecursion IsRing new

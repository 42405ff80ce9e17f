-- Rings that readers by winding number and readers by parity see alike.
use Rattle.std.specs.Prelude.{◌≡◌, ◌≢◌, ℤ, pos, ◌≤ℤ◌, Bool, ◌||◌, List, ⊤}
use Rattle.lay_point.specs.declared.point.Point.{Point}
use Rattle.lay_point.specs.Bridges.{bridged}
use Rattle.lay_point.specs.Edges.{same_edge}
use Rattle.lay_point.specs.Parity.{odd, parity}
use Rattle.lay_point.specs.RingEdges.{edges_of, edges_of_ring}
use Rattle.lay_oriented.specs.declared.orienting.Oriented.{Oriented}
use Rattle.lay_oriented.specs.declared.orienting.Oriented.TheVariants.{Already, Turned, No}
use Rattle.lay_oriented.specs.Winding.{one_if, winding}

-- these edges go once round each place inside by the parity of those, and not round any other
abbrev pub GoRound : List (Point × Point) → List (Point × Point) → Type 0
GoRound new old = (k x y : ℤ) → pos 1 ≤ℤ k → winding new k x y ≡ one_if (odd old k x y)

-- the same places are inside by parity
abbrev pub KeepParity : List (Point × Point) → List (Point × Point) → Type 0
KeepParity new old = (k x y : ℤ) → odd new k x y ≡ odd old k x y

-- the edge lies between these points, in whichever direction
abbrev pub lies_between : Point → Point → Point × Point → Bool
lies_between p q e = same_edge e (p, q) || same_edge e (q, p)

-- the same edges without directions, but for those that stand there twice: between any two points there is an odd number of the new
-- ones exactly where there is of the old ones
abbrev pub KeepEdges : List (Point × Point) → List (Point × Point) → Type 0
KeepEdges new old = (p q : Point) → p ≢ q → parity (lies_between p q) new ≡ parity (lies_between p q) old

-- the new rings, and the one path round all of them, are read alike by winding number and by parity: as the old ones by parity. Their
-- edges are the old ones.
pub record AreOriented (old new : List (List Point)) : Type 0 where
  pub rings : GoRound (edges_of new) (edges_of old)
  pub path : GoRound (edges_of_ring (bridged new)) (edges_of old)
  pub rings_parity : KeepParity (edges_of new) (edges_of old)
  pub path_parity : KeepParity (edges_of_ring (bridged new)) (edges_of old)
  pub rings_edges : KeepEdges (edges_of new) (edges_of old)
  pub path_edges : KeepEdges (edges_of_ring (bridged new)) (edges_of old)

-- the rings themselves are so, or the ones that are answered
abbrev pub IsOriented : List (List Point) → Oriented → Type 0
IsOriented rings Already = AreOriented rings rings
IsOriented rings (Turned new) = AreOriented rings new.items
IsOriented rings No = ⊤

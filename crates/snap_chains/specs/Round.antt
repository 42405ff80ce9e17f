-- What rounding makes of the rings of shapes: the edges that the rounded rings go, each with the shapes that own it.
-- Source: Hobby, Practical segment intersection with finite precision output, 1999.
-- Owners are this project's own.
-- Checked on: of the squares 0 0 20 20 of the first input and 10 10 30 30 of the second each has 6
-- of the 12 edges, cut at (10, 20) and (20, 10); two equal squares of one owner make 4 edges
-- without owners, and of two owners 4 edges with both, the first input's first.
use Rattle.std.specs.Prelude.{◌↔◌, List, [], ◌∷◌, Contains, IsTrue, if◌then◌else◌}
use Rattle.std.specs.List.{AllZip}
use Rattle.lay_point.specs.declared.point.Point.{Point}
use Rattle.lay_point.specs.Rising.{IsRising}
use Rattle.snap_edge_laws.specs.Undirected.{AreEdgesOf, is_owned}
use Rattle.snap_chains.specs.declared.owner.Owner.{Owner}
use Rattle.snap_chains.specs.OwnedRings.{AreRounded}
use Rattle.snap_chains.specs.Owners.{IsOwnerBefore, owner_eq}
use Rattle.snap_chains.specs.Rounded.{Owned}

-- the walks round the owner's rings, where each ring has its walk at the same place
abbrev pub owner_walks : Owner → List (Owner × List Point) → List (List Point) → List (List Point)
owner_walks o [] walks = []
owner_walks o (r ∷ rings) [] = []
owner_walks o (r ∷ rings) (w ∷ walks) = if owner_eq r.0 o then w ∷ owner_walks o rings walks else owner_walks o rings walks

-- the owners of an edge, in order: those whose walks, all together, go it an odd number of times
pub record AreOwnersOf (rings : List (Owner × List Point)) (walks : List (List Point)) (e : Point × Point) (owners : List Owner)
    : Type 0 where
  pub rising : IsRising IsOwnerBefore owners
  pub exact : (o : Owner) → Contains owners o ↔ IsTrue (is_owned (owner_walks o rings walks) e)

-- the edges that the rounded rings go, each once and in order, and the owners of each
pub record IsRoundOf (rings : List (Owner × List Point)) (r : Owned) : Type 0 where
  pub walks : List (List Point)
  pub rounded : AreRounded rings walks
  pub edges : AreEdgesOf walks r.0
  pub owners : AllZip (AreOwnersOf rings walks) r.0 r.1

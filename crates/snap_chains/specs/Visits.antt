-- Visits: that a ring of a shape, rounded, goes an edge; one for each time that it does.
use Rattle.std.specs.Prelude.{Bool, ◌&&◌, List, [], ◌∷◌, ◌++◌, map}
use Rattle.lay_point.specs.declared.point.Point.{Point}
use Rattle.lay_point.specs.Edges.{undirected}
use Rattle.lay_point.specs.Rising.{pairs}
use Rattle.lay_point.specs.Edges.{same_edge}
use Rattle.snap_chains.specs.declared.owner.Owner.{Owner}
use Rattle.snap_chains.specs.Owners.{owner_eq}

pub record Visit : Type 0 where
  pub edge : Point × Point
  pub owner : Owner

-- the owner goes each pair of neighbours of the walk
abbrev pub visits_by : Owner → List Point → List Visit
visits_by o walk = map (λ p. record { edge = undirected p; owner = o }) (pairs walk)

-- each ring's owner goes its walk
abbrev pub visits_of : List (Owner × List Point) → List (List Point) → List Visit
visits_of [] walks = []
visits_of (r ∷ rings) [] = []
visits_of (r ∷ rings) (w ∷ walks) = visits_by r.0 w ++ visits_of rings walks

-- the same edge, gone by the same owner
abbrev pub visit_eq : Visit → Visit → Bool
visit_eq v w = same_edge v.edge w.edge && owner_eq v.owner w.owner

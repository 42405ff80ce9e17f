-- What a Rounded keeps: its edges in order, and for each of them the shapes that own it, in order.
use Rattle.std.specs.Prelude.{◌≡◌, false, ◌&&◌, Bool, List, length, All, Contains}
use Rattle.std.specs.List.{list_any, zip}
use Rattle.lay_point.specs.declared.point.Point.{Point}
use Rattle.snap_edge_laws.specs.Meeting.{MeetAtEnds}
use Rattle.lay_point.specs.Parity.{parity}
use Rattle.lay_point.specs.Rising.{IsRising}
use Rattle.lay_point.specs.Edges.{IsEdgeBefore, touches}
use Rattle.snap_chains.specs.declared.owner.Owner.{Owner}
use Rattle.snap_chains.specs.Owners.{IsOwnerBefore, owner_eq}

-- the edges, and the owners of each
abbrev pub Owned : Type 0
Owned = List (Point × Point) × List (List Owner)

abbrev pub is_owner_listed : Owner → List Owner → Bool
is_owner_listed o owners = list_any (λ p. owner_eq p o) owners

-- of the edges that list the owner an even number have the point for an end
abbrev pub AreEven : Owned → Type 0
AreEven r = (o : Owner) (v : Point) → parity (λ p. is_owner_listed o p.1 && touches v p.0) (zip r.0 r.1) ≡ false

pub record IsRounded (r : Owned) : Type 0 where
  pub rising : IsRising IsEdgeBefore r.0
  pub paired : length r.1 ≡ length r.0
  pub ordered : All (IsRising IsOwnerBefore) r.1
  pub even : AreEven r

-- a place on two different edges is an end of both
abbrev pub AreClean : List (Point × Point) → Type 0
AreClean edges = (e f : Point × Point) → Contains edges e → Contains edges f → ¬ (e ≡ f) → MeetAtEnds e f

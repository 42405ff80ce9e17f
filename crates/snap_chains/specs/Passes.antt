-- Passes: that a ring of a shape goes between the hot centres of two numbers; and the visits that they are.
use Rattle.std.specs.Prelude.{◌≡◌, ℕ, ◌<◌, ltb, cond, List, map, ◌++◌, length, Contains}
use Rattle.std.specs.List.{AllZip}
use Rattle.std.specs.List.Sorted.{IsPermutation}
use Rattle.lay_point.specs.declared.point.Point.{Point}
use Rattle.snap_pixels.specs.declared.segment.Segment.{Segment}
use Rattle.snap_edge_laws.specs.Chains.{IsChain}
use Rattle.lay_point.specs.Rising.{pairs}
use Rattle.snap_slabs.specs.Runs.{centre_at}
use Rattle.snap_chains.specs.declared.owner.Owner.{Owner}
use Rattle.snap_chains.specs.Visits.{Visit}
use Rattle.snap_edge_laws.specs.Rounding.{IsRoundedPath, closed_walk}
use Rattle.snap_chains.specs.Visits.{visits_by, visits_of}
use Rattle.snap_chains.specs.declared.pass.Pass.{Pass}

-- the edge that the pass goes, and by whom
abbrev pub passed_edge : List Point → Pass → Point × Point
passed_edge hot p = (centre_at hot p.low, centre_at hot p.high)

abbrev pub visit_at : List Point → Pass → Visit
visit_at hot p = record { edge = passed_edge hot p; owner = p.owner }

abbrev pub pass_between : Owner → ℕ × ℕ → Pass
pass_between o e = cond (ltb e.0 e.1) (record { low = e.0; high = e.1; owner = o }) (record { low = e.1; high = e.0; owner = o })

-- the owner goes each pair of neighbours
abbrev pub passes_by : Owner → List ℕ → List Pass
passes_by o numbers = map (pass_between o) (pairs numbers)

-- both numbers are those of centres
abbrev pub HasCentres : List Point → Pass → Type 0
HasCentres hot p = (p.low < p.high) × (p.high < length hot)

-- the new passes are the visits of the side's chain
pub record IsSideAdded (hot : List Point) (s : Segment) (o : Owner) (old new : List Pass) : Type 0 where
  pub added : List Pass
  pub new_is : new ≡ old ++ added
  pub inside : (p : Pass) → Contains added p → HasCentres hot p
  pub chain : List Point
  pub is_chain : IsChain (Contains hot) s chain
  pub visits : IsPermutation (visits_by o chain) (map (visit_at hot) added)

-- the passes after `old` are the visits of a rounded path
pub record ArePathPasses (segments : List Segment) (hot : List Point) (o : Owner) (path : List Point) (old new : List Pass) : Type 0 where
  pub added : List Pass
  pub new_is : new ≡ old ++ added
  pub inside : (p : Pass) → Contains added p → HasCentres hot p
  pub walk : List Point
  pub rounded : IsRoundedPath segments path walk
  pub visits : IsPermutation (visits_by o walk) (map (visit_at hot) added)

-- the passes are the visits of the rounded rings
pub record ArePassesOf (segments : List Segment) (hot : List Point) (rings : List (Owner × List Point)) (passes : List Pass) : Type 0 where
  pub walks : List (List Point)
  pub rounded : AllZip (λ r w. IsRoundedPath segments (closed_walk r.1) w) rings walks
  pub inside : (p : Pass) → Contains passes p → HasCentres hot p
  pub visits : IsPermutation (visits_of rings walks) (map (visit_at hot) passes)

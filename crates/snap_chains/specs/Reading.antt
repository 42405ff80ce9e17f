-- What sorted passes are read to: the edges that they go, each once, and the owners that go each an odd number of times.
use Rattle.std.specs.Prelude.{
  ◌≡◌,
  ◌⊎◌,
  ◌↔◌,
  ℕ,
  ◌<◌,
  ◌≤◌,
  ◌-◌,
  ◌==◌,
  ◌&&◌,
  Bool,
  List,
  ◌++◌,
  map,
  length,
  Contains,
  IsTrue,
  Some,
  slice_get,
  slice_index_or,
}
use Rattle.std.specs.declared.cmp.Ordering.{Ordering}
use Rattle.std.specs.Ordering.{nat_cmp, on, then_cmp}
use Rattle.snap_chains.specs.contracts.owner.InputOrd.TheImpl as input_ord
use Rattle.std.specs.List.{AllZip}
use Rattle.lay_point.specs.declared.point.Point.{Point}
use Rattle.lay_point.specs.Parity.{parity}
use Rattle.lay_point.specs.Rising.{IsRising}
use Rattle.lay_point.specs.Edges.{IsEdgeBefore}
use Rattle.snap_slabs.specs.Runs.{centre_at}
use Rattle.snap_chains.specs.declared.owner.Owner.{Owner}
use Rattle.snap_chains.specs.Visits.{Visit}
use Rattle.snap_chains.specs.Owners.{IsOwnerBefore, owner_eq}
use Rattle.snap_chains.specs.Visits.{visit_eq}
use Rattle.snap_chains.specs.declared.pass.Pass.{Pass}

-- an edge by numbers
abbrev pub NumberedEdge : Type 0
NumberedEdge = ℕ × ℕ

abbrev pub numbered_edge : Pass → NumberedEdge
numbered_edge p = (p.low, p.high)

abbrev pub pass_of : NumberedEdge → Owner → Pass
pass_of e o = record { low = e.0; high = e.1; owner = o }

abbrev pub pass_eq : Pass → Pass → Bool
pass_eq p q = (p.low == q.low && p.high == q.high) && owner_eq p.owner q.owner

abbrev pub AreEndsBefore : NumberedEdge → NumberedEdge → Type 0
AreEndsBefore e f = (e.0 < f.0) ⊎ ((e.0 ≡ f.0) × (e.1 < f.1))

-- the owners that go the edge an odd number of times, in order
pub record AreOddOwners (passes : List Pass) (e : NumberedEdge) (owners : List Owner) : Type 0 where
  pub rising : IsRising IsOwnerBefore owners
  pub exact : (o : Owner) → Contains owners o ↔ IsTrue (parity (pass_eq (pass_of e o)) passes)

pub record AreRead (passes : List Pass) (edges : List NumberedEdge) (owners : List (List Owner)) : Type 0 where
  pub rising : IsRising AreEndsBefore edges
  pub exact : (e : NumberedEdge) → Contains edges e ↔ Contains (map numbered_edge passes) e
  pub owned : AllZip (AreOddOwners passes) edges owners

-- ---- how they are read
abbrev pub IsPassBefore : Pass → Pass → Type 0
IsPassBefore p q = AreEndsBefore (numbered_edge p) (numbered_edge q) ⊎ ((numbered_edge p ≡ numbered_edge q) × IsOwnerBefore p.owner q.owner)

-- what `cmp` computes
abbrev pub owner_cmp : Owner → Owner → Ordering
owner_cmp = then_cmp (on (λ o. o.input) (input_ord.ghosts).cmp) (on (λ o. o.shape) nat_cmp)

abbrev pub pass_cmp : Pass → Pass → Ordering
pass_cmp = then_cmp (on (λ p. p.low) nat_cmp) (then_cmp (on (λ p. p.high) nat_cmp) (on (λ p. p.owner) owner_cmp))

-- the first n passes are of one edge, and the next isn't
pub record IsEdgeGroup (passes : List Pass) (n : ℕ) : Type 0 where
  pub some : 0 < n
  pub within : n ≤ length passes
  pub same : (k : ℕ) (d : Pass) → k < n → numbered_edge (slice_index_or passes k d) ≡ numbered_edge (slice_index_or passes 0 d)
  pub next : (d : Pass) → n < length passes → ¬ (numbered_edge (slice_index_or passes 0 d) ≡ numbered_edge (slice_index_or passes n d))

abbrev pub HasLastOwner : List Owner → ℕ → Owner → Type 0
HasLastOwner owners base o = (base < length owners) × (slice_get owners (length owners - 1) ≡ Some o)

abbrev pub IsOddAdded : List Pass → NumberedEdge → List Owner → List Owner → Type 0
IsOddAdded group e old new = (odd : List Owner) × (new ≡ old ++ odd) × AreOddOwners group e odd

-- ---- the same by points
abbrev pub edge_by_numbers : List Point → NumberedEdge → Point × Point
edge_by_numbers hot e = (centre_at hot e.0, centre_at hot e.1)

pub record AreOddVisitors (visits : List Visit) (e : Point × Point) (owners : List Owner) : Type 0 where
  pub rising : IsRising IsOwnerBefore owners
  pub exact : (o : Owner) → Contains owners o ↔ IsTrue (parity (visit_eq (record { edge = e; owner = o })) visits)

-- the edges of the visits in order, and the owners of each
pub record IsView (visits : List Visit) (edges : List (Point × Point)) (owners : List (List Owner)) : Type 0 where
  pub rising : IsRising IsEdgeBefore edges
  pub exact : (e : Point × Point) → Contains edges e ↔ Contains (map (λ v. v.edge) visits) e
  pub owned : AllZip (AreOddVisitors visits) edges owners

-- the edges, seen by points, and their owners are what the passes are read to
pub record IsReadOff (hot : List Point) (passes : List Pass) (edges : List (Point × Point)) (owners : List (List Owner)) : Type 0 where
  pub ends : List NumberedEdge
  pub edges_are : edges ≡ map (edge_by_numbers hot) ends
  pub read : AreRead passes ends owners

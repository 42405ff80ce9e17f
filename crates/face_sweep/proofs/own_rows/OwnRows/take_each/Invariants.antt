use Rattle.std.proofs.Common.{◌++◌, List, ℕ, Some, take}
use Rattle.lay_point.specs.Parity.{parity, xor}
use Rattle.snap_chains.specs.declared.owner.Owner.{Owner}
use Rattle.snap_chains.specs.Owners.{owner_eq}
use Rattle.snap_chains.specs.Rounded.{is_owner_listed}
use Rattle.face_sweep.specs.OwnRows.{AreOwn, HaveLists, IsCutBy, listed_if, own_edge}
use Rattle.face_sweep.specs.Reaches.{keys_of}
use Rattle.face_sweep.proofs.own_rows.OwnRows.take_each.Given as goal

-- the edge is out of the lists of the owners so far
abbrev pub invariant-loop-owner : goal.invariant-loop-owner
invariant-loop-owner l = record {
  room : HaveLists l.edges (keys_of l.reach) l.self;
  taken : (right left : Owner → List ℕ) → ((o : Owner)
      → IsCutBy l.edges (Some l.fn.point) (right o ++ own_edge l.edges o l.fn.number) (left o))
      → AreOwn (keys_of l.reach) (λ o. (right o ++ own_edge l.edges o l.fn.number) ++ left o) l.initial.self
      → AreOwn (keys_of l.reach)
      (λ o. (right o ++ listed_if
      (xor (parity (λ q. owner_eq q o) (take l.owner-index l.owner-items)) (is_owner_listed o l.owner-items)) l.fn.number)
      ++ left o) l.self;
}

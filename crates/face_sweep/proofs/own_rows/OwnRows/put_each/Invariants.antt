use Rattle.std.proofs.Common.{◌++◌, List, ℕ, take}
use Rattle.lay_point.specs.Parity.{parity}
use Rattle.snap_chains.specs.declared.owner.Owner.{Owner}
use Rattle.snap_chains.specs.Owners.{owner_eq}
use Rattle.face_sweep.specs.OwnRows.{AreOwn, HaveLists, IsCutBy, listed_if}
use Rattle.face_sweep.specs.Reaches.{keys_of}
use Rattle.face_sweep.proofs.own_rows.OwnRows.put_each.Given as goal

-- the edge is in the lists of the owners so far
abbrev pub invariant-loop-owner : goal.invariant-loop-owner
invariant-loop-owner l = record {
  room : HaveLists l.edges (keys_of l.reach) l.self;
  put : (right left : Owner → List ℕ) → ((o : Owner) → IsCutBy l.edges l.fn.point (right o) (left o))
      → AreOwn (keys_of l.reach) (λ o. right o ++ left o) l.initial.self
      → AreOwn (keys_of l.reach)
      (λ o. (right o ++ listed_if (parity (λ q. owner_eq q o) (take l.owner-index l.owner-items)) l.fn.number) ++ left o) l.self;
}

use Rattle.std.proofs.Common.{drop, take}
use Rattle.lay_point.specs.Parity.{parity, xor}
use Rattle.snap_chains.specs.Owners.{owner_eq}
use Rattle.face_sweep.specs.Counts.{AreCounts}
use Rattle.face_sweep.specs.Sides.{is_odd_in}
use Rattle.face_sweep.proofs.sides.turned_by_owners.Given as goal

-- the owners so far are turned
abbrev pub invariant-loop-owner : goal.invariant-loop-owner
invariant-loop-owner l = AreCounts l.left (λ o. xor (parity (λ p. owner_eq p o) (take l.owner-index l.owner-items))
    (is_odd_in l.edges (drop l._next l._row) o))

use Rattle.std.proofs.Common.{◌≡◌, List, ◌∷◌, take}
use Rattle.lay_point.specs.declared.point.Point.{Point}
use Rattle.snap_chains.proofs.PathPasses.{AreSidesAdded}
use Rattle.snap_chains.proofs.passes.add_ring.Given as goal

-- the passes of the sides so far, where p is the first point
abbrev pub invariant-loop-side : goal.invariant-loop-side
invariant-loop-side l =
    (p : Point) (ps : List Point) → l.ring.1 ≡ p ∷ ps
    → AreSidesAdded l._segments l.centres l.ring.0 p (take l.side-index l.side-items) l.fn.passes.items l.passes.items l.from

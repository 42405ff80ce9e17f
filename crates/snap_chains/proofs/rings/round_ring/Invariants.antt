use Rattle.std.proofs.Common.{◌≡◌, List, ◌∷◌, map, take}
use Rattle.lay_point.specs.declared.point.Point.{Point}
use Rattle.snap_edge_laws.specs.Rounding.{IsRoundedPath}
use Rattle.snap_chains.proofs.rings.round_ring.Given as goal

-- the rounded path of the sides so far
abbrev pub invariant-loop-side : goal.invariant-loop-side
invariant-loop-side l =
    (p : Point) (ps : List Point) → l.ring ≡ p ∷ ps
    → IsRoundedPath l._segments (p ∷ map (λ s. s.b) (take l.side-index l.side-items)) l.walk.items

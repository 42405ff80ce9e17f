use Rattle.std.proofs.Common.{◌≡◌, Bool, length}
use Rattle.lay_point.specs.declared.point.Point.{Point}
use Rattle.lay_point.specs.Parity.{parity, xor}
use Rattle.lay_oriented.specs.Net.{IsUndirected}
use Rattle.lay_oriented.proofs.net.without_pairs.Given as goal

-- the edges so far, and those that are left
abbrev pub invariant-loop-edge : goal.invariant-loop-edge
invariant-loop-edge l = (test : Point × Point → Bool) → IsUndirected test → xor (parity test l.kept.items) (parity test l.left)
    ≡ parity test l.edges

abbrev pub decreases-loop-edge : goal.decreases-loop-edge
decreases-loop-edge l = length l.left

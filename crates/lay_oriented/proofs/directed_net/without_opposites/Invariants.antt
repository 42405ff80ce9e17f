use Rattle.std.proofs.Common.{◌≡◌, ℤ, ◌+ℤ◌, length}
use Rattle.lay_point.specs.declared.point.Point.{Point}
use Rattle.lay_oriented.specs.Winding.{IsTurn, sum_of}
use Rattle.lay_oriented.proofs.directed_net.without_opposites.Given as goal

-- the edges so far, and those that are left
abbrev pub invariant-loop-edge : goal.invariant-loop-edge
invariant-loop-edge l = (f : Point × Point → ℤ) → IsTurn f → sum_of f l.kept.items +ℤ sum_of f l.left ≡ sum_of f l.edges

abbrev pub decreases-loop-edge : goal.decreases-loop-edge
decreases-loop-edge l = length l.left

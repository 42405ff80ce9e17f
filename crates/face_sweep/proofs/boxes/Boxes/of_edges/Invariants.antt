use Rattle.std.proofs.Common.{◌<◌, ℕ}
use Rattle.face_sweep.specs.Reaches.{IsInBoxes}
use Rattle.face_sweep.proofs.boxes.Boxes.of_edges.Given as goal

-- the edges so far are in reach
abbrev pub invariant-loop-number : goal.invariant-loop-number
invariant-loop-number l = (n : ℕ) → n < l.number → IsInBoxes l.edges l.boxes n

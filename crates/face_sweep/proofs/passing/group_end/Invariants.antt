use Rattle.std.proofs.Common.{◌<◌, ◌≤◌, ℕ, get_or}
use Rattle.face_sweep.specs.Points.{HasHigh}
use Rattle.face_sweep.proofs.passing.group_end.Given as goal

-- those from the place on up to this one end at the point
abbrev pub invariant-loop-index : goal.invariant-loop-index
invariant-loop-index l = (k : ℕ) → l.fn.from ≤ k → k < l.index → HasHigh l.fn.edges l.fn.point (get_or l.fn.numbers k 0)

use Rattle.std.proofs.Common.{◌≡◌, ◌<◌, ◌≤◌, ◌-◌, ℕ, false, get_or, length}
use Rattle.face_sweep.specs.Ends.{is_level}
use Rattle.face_sweep.specs.declared.ends.Begin.{Begin}
use Rattle.face_sweep.proofs.stops.first_level.Given as goal

-- none so far is level
abbrev pub invariant-loop-index : goal.invariant-loop-index
invariant-loop-index l = record {
  bound : l.index ≤ length l.group;
  before : (k : ℕ) (d : Begin) → k < l.index → is_level (get_or l.group k d) ≡ false;
}

abbrev pub decreases-loop-index : goal.decreases-loop-index
decreases-loop-index l = length l.group - l.index

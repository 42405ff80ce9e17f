use Rattle.std.proofs.Common.{◌≡◌, ◌≤◌, ◌<◌, ℕ, slice_index_or}
use Rattle.std.specs.Prelude.{◌≢◌}
use Rattle.job_advice.proofs.place.line_start.Given as goal

abbrev pub invariant-loop-start : goal.invariant-loop-start
invariant-loop-start l =
    l.start ≤ l.fn.offset × ((i : ℕ) → l.start ≤ i → i < l.fn.offset → slice_index_or l.fn.text i 0 ≢ 10)

abbrev pub decreases-loop-start : goal.decreases-loop-start
decreases-loop-start l = l.start

use Rattle.std.proofs.Common.{◌≡◌, ◌+◌, ◌≤◌, length}
use Rattle.job_advice.specs.Places.{newlines}
use Rattle.job_advice.proofs.place.newlines.Given as goal

abbrev pub invariant-loop-byte : goal.invariant-loop-byte
invariant-loop-byte l =
    (l.lines + newlines l.rest ≡ newlines l.fn.bytes) × (l.lines + length l.rest ≤ length l.fn.bytes)

abbrev pub decreases-loop-byte : goal.decreases-loop-byte
decreases-loop-byte l = length l.rest

-- What the lines that are left say is what all lines say.
use Rattle.std.proofs.Common.{◌≡◌, ◌+◌, ◌≤◌, length}
use Rattle.job_text.specs.Job.{head_of}
use Rattle.byte_io.specs.Lines.{lines}
use Rattle.job_text.proofs.job.behind_head.Given as goal

abbrev pub invariant-loop-line : goal.invariant-loop-line
invariant-loop-line l = record {
  same : head_of l.number (lines l.rest) ≡ head_of 1 (lines l.initial.rest);
  count : l.number + length l.rest ≤ 16777217;
}

abbrev pub decreases-loop-line : goal.decreases-loop-line
decreases-loop-line l = length l.rest

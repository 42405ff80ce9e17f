-- The first odd line of those that are left is that of all.
use Rattle.std.proofs.Common.{◌≡◌, ◌+◌, ◌≤◌, length}
use Rattle.job_text.specs.Job.{odd_line}
use Rattle.byte_io.specs.Lines.{lines}
use Rattle.job_text.proofs.order_section.odd_line.Given as goal

abbrev pub invariant-loop-line : goal.invariant-loop-line
invariant-loop-line l = record {
  same : odd_line l.number (lines l.rest) ≡ odd_line l.initial.number (lines l.initial.rest);
  count : l.number + length l.rest ≤ 16777217;
}

abbrev pub decreases-loop-line : goal.decreases-loop-line
decreases-loop-line l = length l.rest

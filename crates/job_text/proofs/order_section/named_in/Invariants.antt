-- The sessions so far, and those of the lines that are left, are the sessions of all lines.
use Rattle.std.proofs.Common.{◌≡◌, ◌++◌, length}
use Rattle.job_text.specs.Job.{named_in}
use Rattle.byte_io.specs.Lines.{lines}
use Rattle.job_text.proofs.order_section.named_in.Given as goal

abbrev pub invariant-loop-line : goal.invariant-loop-line
invariant-loop-line l = l.order.items ++ named_in (lines l.rest) ≡ named_in (lines l.initial.rest)

abbrev pub decreases-loop-line : goal.decreases-loop-line
decreases-loop-line l = length l.rest

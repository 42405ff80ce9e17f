-- The scripts so far, and those of the lines that are left, are the scripts of all lines.
use Rattle.std.proofs.Common.{◌≡◌, ◌+◌, ◌<◌, ◌≤◌, [], length}
use Rattle.job_text.specs.Job.{scripts_of}
use Rattle.byte_io.specs.Lines.{lines}
use Rattle.job_text.proofs.scripts.scripts_of.Given as goal

abbrev pub invariant-loop-line : goal.invariant-loop-line
invariant-loop-line l = record {
  same : scripts_of l.done.items l.steps.items l.number (lines l.rest) ≡ scripts_of [] [] l.initial.number (lines l.initial.rest);
  count : l.number + length l.rest ≤ 16777217;
  few : length l.done.items < 64;
}

abbrev pub decreases-loop-line : goal.decreases-loop-line
decreases-loop-line l = length l.rest

-- What is left is all but the lengths of the scripts so far.
use Rattle.std.proofs.Common.{◌≡◌, ◌==◌, drop}
use Rattle.job_text.specs.Job.{total_len}
use Rattle.job_text.proofs.order_section.has_total_len.Given as goal

abbrev pub invariant-loop-script : goal.invariant-loop-script
invariant-loop-script l = (l.left == total_len (drop l.script-index l.scripts)) ≡ (l.len == total_len l.scripts)

-- The newlines among the bytes so far.
use Rattle.std.proofs.Common.{◌≡◌, ◌≤◌, ◌==◌, count_by, take}
use Rattle.job_text.proofs.text.count_newlines.Given as goal

abbrev pub invariant-loop-b : goal.invariant-loop-b
invariant-loop-b l = record {
  value : l.newlines ≡ count_by (λ b. b == 10) (take l.b-index l.bytes);
  few : l.newlines ≤ l.b-index;
}

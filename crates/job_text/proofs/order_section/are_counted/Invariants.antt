-- Whether the sessions that are left are counted decides of all sessions.
use Rattle.std.proofs.Common.{◌≡◌, ◌+◌, drop}
use Rattle.job_text.specs.Job.{are_counted}
use Rattle.job_text.proofs.order_section.are_counted.Given as goal

abbrev pub invariant-loop-script : goal.invariant-loop-script
invariant-loop-script l = record {
  same : are_counted l.session (drop l.script-index l.scripts) l.order ≡ are_counted 1 l.scripts l.order;
  count : l.session ≡ l.script-index + 1;
}

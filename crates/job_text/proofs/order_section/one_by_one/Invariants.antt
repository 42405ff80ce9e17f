-- The order so far, and that of the scripts that are left, is the whole order.
use Rattle.std.proofs.Common.{◌≡◌, ◌+◌, ◌++◌, drop}
use Rattle.job_text.specs.Job.{one_by_one}
use Rattle.job_text.proofs.order_section.one_by_one.Given as goal

abbrev pub invariant-loop-script : goal.invariant-loop-script
invariant-loop-script l = record {
  order : l.order.items ++ one_by_one l.session (drop l.script-index l.scripts) ≡ one_by_one 1 l.scripts;
  count : l.session ≡ l.script-index + 1;
}

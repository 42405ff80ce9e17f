-- What stands there, and what is left of the sessions that are left, is what is left of all.
use Rattle.std.proofs.Common.{◌≡◌, ◌+◌, ◌++◌, drop}
use Rattle.job_text.specs.Order.{rest_from}
use Rattle.job_text.proofs.order.push_rest.Given as goal

abbrev pub invariant-loop-replies : goal.invariant-loop-replies
invariant-loop-replies l = record {
  order : l.order.items ++ rest_from l.session (drop l.replies-index l.sessions) l.taken
      ≡ l.initial.order.items ++ rest_from 1 l.sessions l.taken;
  count : l.session ≡ l.replies-index + 1;
}

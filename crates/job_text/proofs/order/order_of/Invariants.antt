-- The order so far, and that of the calls and replies that are left, is the whole order.
use Rattle.std.proofs.Common.{◌≡◌, ◌++◌, drop, length, replicate}
use Rattle.job_text.specs.Order.{order_behind, order_of}
use Rattle.job_text.proofs.order.order_of.Given as goal

abbrev pub invariant-loop-call : goal.invariant-loop-call
invariant-loop-call l = record {
  same : l.order.items ++ order_behind l.sessions l.taken (drop l.call-index l.log) ≡ order_of l.log l.sessions;
  sessions : length l.taken ≡ 256;
}

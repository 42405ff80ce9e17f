-- All was put but the numbers that are left.
use Rattle.std.proofs.Common.{◌≡◌, ◌+◌, length}
use Rattle.job_text.specs.Order.{order_from}
use Rattle.cif_write.proofs.BegunLemmas.{Begun}
use Rattle.job_text.proofs.order.put_order.Given as goal

abbrev pub invariant-loop-session : goal.invariant-loop-session
invariant-loop-session g l = record {
  numbers : Begun g.O.Out.written g.O.Out.failures l.fn.out l.fn.buffer l.out l.buffer
      (order_from l.index l.rest) (order_from 0 l.fn.order);
  count : l.index + length l.rest ≡ length l.fn.order;
}

abbrev pub decreases-loop-session : goal.decreases-loop-session
decreases-loop-session g l = length l.rest

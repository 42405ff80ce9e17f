use Rattle.std.proofs.Common.{◌≡◌, ◌+◌, ◌≤◌, length, take}
use Rattle.band_workers.proofs.cuts.put_inner.Given as goal

abbrev pub invariant-loop-worker : goal.invariant-loop-worker
invariant-loop-worker l = record {
  len : length l.cuts.items + 1 ≡ length l.fn.cuts.items + l.worker;
  low : 1 ≤ l.worker;
  high : l.worker ≤ l.fn.workers;
  kept : take (length l.fn.cuts.items) l.cuts.items ≡ l.fn.cuts.items;
}

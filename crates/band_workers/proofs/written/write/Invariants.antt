use Rattle.std.proofs.Common.{◌≡◌, length}
use Rattle.band_workers.specs.Written.{AreNumbersBelow, with_labels}
use Rattle.band_workers.proofs.written.write.Given as goal

-- what is left, put at its numbers, gives what all of it gives
abbrev pub invariant-loop-number : goal.invariant-loop-number
invariant-loop-number l = record {
  count : length l.labels.items ≡ length l.initial.labels.items;
  within : AreNumbersBelow (length l.initial.labels.items) l.rest;
  same : with_labels l.labels.items l.rest ≡ with_labels l.initial.labels.items l.fn.numbered;
}

abbrev pub decreases-loop-number : goal.decreases-loop-number
decreases-loop-number l = length l.rest

use Rattle.std.proofs.Common.{◌≡◌, false, length, replicate}
use Rattle.band_workers.specs.Written.{ArePartsBelow, with_parts}
use Rattle.band_workers.proofs.written.written.Given as goal

-- the labels so far with those of the parts that are left are what all parts give
abbrev pub invariant-loop-part : goal.invariant-loop-part
invariant-loop-part l = record {
  count : length l.labels.items ≡ l.fn.count;
  below : ArePartsBelow l.fn.count l.part-iterator.rest.items;
  same : with_parts l.labels.items l.part-iterator.rest.items ≡ with_parts (replicate l.fn.count false) l.fn.parts.items;
}

-- What was read so far is gone from the input, and its front is kept. In each turn the device was read once and
-- gave bytes; it neither ended the input nor failed.
use Rattle.std.proofs.Common.{◌≡◌, ℕ, ◌+◌, ◌≤◌, List, length}
use Rattle.std.specs.Io.KnownBytes.{Consumes}
use Rattle.masklay.specs.Reading.{input_kept}
use Rattle.masklay.proofs.program.reading.read_all.Given as goal

abbrev pub invariant-loop : goal.invariant-loop
invariant-loop g l = record {
  gone : (done : List ℕ) × Consumes (g.I.In.remaining l.initial.input) (g.I.In.remaining l.input) done × (l.kept.items ≡ input_kept done);
  few : length l.kept.items ≤ 16777217;
  reads : (g.I.In.counts l.input).reads ≡ (g.I.In.counts l.initial.input).reads + l.counter;
  nonempty_reads : (g.I.In.counts l.input).nonempty_reads ≡ (g.I.In.counts l.initial.input).nonempty_reads + l.counter;
  turns : l.counter ≤ 33554432;
  unended : (g.I.In.counts l.input).ends ≡ (g.I.In.counts l.initial.input).ends;
  unfailing : (g.I.In.counts l.input).failures ≡ (g.I.In.counts l.initial.input).failures;
  buffer : length l.buffer ≡ 16384;
}

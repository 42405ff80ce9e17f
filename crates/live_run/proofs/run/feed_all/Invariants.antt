-- What was read so far is gone from the input, and was fed. In each turn the device was read once and gave bytes; it neither
-- ended the input nor failed.
use Rattle.std.proofs.Common.{◌≡◌, ℕ, ◌+◌, ◌≤◌, List, Ok, length}
use Rattle.std.specs.Io.KnownBytes.{Consumes}
use Rattle.live_run.specs.Feed.{PieceTo}
use Rattle.live_run.proofs.run.feed_all.Given as goal

abbrev pub invariant-loop : goal.invariant-loop
invariant-loop g l = record {
  gone : (done : List ℕ) × Consumes (g.I.In.remaining l.initial.input) (g.I.In.remaining l.input) done
      × PieceTo l.showing g.O.Out.written g.O.Out.failures g.J.Journal.kept g.J.Journal.losses (l.initial.out, l.initial.journal)
      (l.out, l.journal)
      l.initial.line_feed done (Ok l.line_feed);
  reads : (g.I.In.counts l.input).reads ≡ (g.I.In.counts l.initial.input).reads + l.counter;
  nonempty_reads : (g.I.In.counts l.input).nonempty_reads ≡ (g.I.In.counts l.initial.input).nonempty_reads + l.counter;
  turns : l.counter ≤ 33554432;
  unended : (g.I.In.counts l.input).ends ≡ (g.I.In.counts l.initial.input).ends;
  unfailing : (g.I.In.counts l.input).failures ≡ (g.I.In.counts l.initial.input).failures;
  buffer : length l.buffer ≡ 16384;
}

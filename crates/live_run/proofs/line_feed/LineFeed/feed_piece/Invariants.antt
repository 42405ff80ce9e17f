-- The bytes so far were fed.
use Rattle.std.proofs.Common.{take, Ok}
use Rattle.live_run.specs.Feed.{PieceTo}
use Rattle.live_run.proofs.line_feed.LineFeed.feed_piece.Given as goal

abbrev pub invariant-loop-byte : goal.invariant-loop-byte
invariant-loop-byte g l =
    PieceTo l.showing g.O.Out.written g.O.Out.failures g.J.Journal.kept g.J.Journal.losses (l.initial.out, l.initial.journal)
    (l.out, l.journal)
    l.initial.line_feed (take l.byte-index l.piece) (Ok l.line_feed)

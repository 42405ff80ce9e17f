use Rattle.std.proofs.Common.{refl}
use Rattle.live_run.specs.Course.{phase_of}
use Rattle.live_run.proofs.FeedLemmas.{last_closes}
use Rattle.live_run.proofs.line_feed.LineFeed.end.Goals as goal

pub returns-in-Ok : goal.returns-in-Ok
returns-in-Ok g c =
    λ past base given at.
    last_closes c.args.showing g.O.Out.written g.O.Out.failures g.J.Journal.kept g.J.Journal.losses past base
    (c.feed_last.new.out, c.feed_last.new.journal)
    (c.close.new.out, c.feed_last.new.journal) given (phase_of c.in-Ok.course) c.close.result (c.in-Ok.ensures past base given at)
    c.close.ensures refl

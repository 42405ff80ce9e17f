-- no run begins; one stops; or its input ends
use Rattle.live_run.specs.Devices.{devices, observed_by}
use Rattle.live_run.proofs.PastLemmas.{journal_ended, journal_stopped, journal_unbegun}
use Rattle.live_run.proofs.run.run_journaled.Goals as goal

pub returns-in-Err-clause-run : goal.returns-in-Err-clause-run
returns-in-Err-clause-run g c =
    journal_unbegun c.args.showing (observed_by g.I.In.remaining g.I.In.counts g.O.Out.written g.O.Out.failures g.J.Journal.kept
    g.J.Journal.losses) c.args.bytes.items (devices c.args.input.now c.args.out.now c.args.journal.now) c.in-Err.end c.in-Err.ensures

pub returns-in-Ok-feed_all-clause-run : goal.returns-in-Ok-feed_all-clause-run
returns-in-Ok-feed_all-clause-run g c =
    journal_ended c.args.showing (observed_by g.I.In.remaining g.I.In.counts g.O.Out.written g.O.Out.failures g.J.Journal.kept
    g.J.Journal.losses) c.args.bytes.items c.in-Ok.line_feed c.in-Ok-feed_all.line_feed
    (devices c.args.input.now c.args.out.now c.args.journal.now) (devices c.feed_all.new.input c.feed_all.new.out c.feed_all.new.journal)
    c.end.new.out c.end.new.journal c.end.result c.in-Ok.ensures c.in-Ok-feed_all.ensures.fed c.end.ensures

pub returns-in-Err-feed_all-clause-run : goal.returns-in-Err-feed_all-clause-run
returns-in-Err-feed_all-clause-run g c =
    journal_stopped c.args.showing (observed_by g.I.In.remaining g.I.In.counts g.O.Out.written g.O.Out.failures g.J.Journal.kept
    g.J.Journal.losses) c.args.bytes.items c.in-Ok.line_feed (devices c.args.input.now c.args.out.now c.args.journal.now)
    (devices c.feed_all.new.input c.feed_all.new.out c.feed_all.new.journal) c.in-Err-feed_all.end c.in-Ok.ensures
    c.in-Err-feed_all.ensures.fed

use Rattle.std.proofs.Common.{◌≡◌, ◌<◌, ap, length, arith}
use Rattle.std.proofs.lemmas.Grind.{common_steps}
use Rattle.std.proofs.lemmas.List.{nil_from_length}
use Rattle.live_run.specs.Course.{phase_of}
use Rattle.live_run.proofs.FeedLemmas.{last_fed, last_none}
use Rattle.live_run.proofs.line_feed.LineFeed.feed_last.Goals as goal

pub returns-then-is_empty : goal.returns-then-is_empty
returns-then-is_empty g c =
    let len : length c.args.self.line.items ≡ 0 = grind (arith, common_steps) in
    λ past base given at.
    last_none c.args.showing g.O.Out.written g.O.Out.failures g.J.Journal.kept g.J.Journal.losses past base
    (c.args.out.now, c.args.journal.now) given (phase_of c.args.self.course) c.args.self.line.items
    (nil_from_length c.args.self.line.items len) at

pub returns : goal.returns
returns g c =
    let some : 0 < length c.args.self.line.items = grind (arith, common_steps) in
    λ past base given at.
    last_fed c.args.showing g.O.Out.written g.O.Out.failures g.J.Journal.kept g.J.Journal.losses past base
    (c.args.out.now, c.args.journal.now)
    (c.feed.new.out, c.feed.new.journal) given (phase_of c.args.self.course)
    c.args.self.line.items c.as_slice.result.now c.feed.result
    (λ e. absurd (let none : length c.args.self.line.items ≡ 0 = ap length e in omega (arith, some, none)))
    c.as_slice.ensures.value c.feed.ensures at

use Rattle.std.proofs.Common.{rules, ◌≡◌, [], ◌∷◌, ◌++◌, Result, Err, subst, sym}
use Rattle.live_run.specs.declared.line_feed.LineFeed.{LineFeed}
use Rattle.live_run.specs.declared.ending.LiveEnd.{LiveEnd}
use Rattle.live_run.specs.declared.ending.LiveEnd.TheVariants.{Memory}
use Rattle.live_run.specs.Course.{phase_of}
use Rattle.live_run.specs.Feed.{FeedsOn}
use Rattle.live_run.proofs.FeedLemmas.{byte_memory, line_fed, line_stopped}
use Rattle.live_run.proofs.line_feed.LineFeed.feed_byte.Goals as goal

pub returns-in_err-map_err : goal.returns-in_err-map_err
returns-in_err-map_err g c =
    let failed : c.from_residual.result ≡ Err Memory = search rules in
    λ past base given at.
    subst (λ (r : Result LineFeed LiveEnd). FeedsOn c.args.showing g.O.Out.written g.O.Out.failures g.J.Journal.kept
    g.J.Journal.losses past base (c.args.out.now, c.args.journal.now) (given ++ c.args.byte ∷ []) r)
    (sym failed)
    (λ more. byte_memory c.args.showing g.O.Out.written g.O.Out.failures g.J.Journal.kept g.J.Journal.losses past base
    (c.args.out.now, c.args.journal.now)
    given (phase_of c.args.self.course) c.args.self.line.items
    c.args.byte more at)

pub returns-in-Ok : goal.returns-in-Ok
returns-in-Ok g c =
    let ten : c.args.byte ≡ 10 = search rules in
    let line : c.as_slice.result.now ≡ c.args.self.line.items ++ c.args.byte ∷ [] = search rules in
    let none : c.clear.new.self.items ≡ [] = search rules in
    λ past base given at.
    line_fed c.args.showing g.O.Out.written g.O.Out.failures g.J.Journal.kept g.J.Journal.losses past base
    (c.args.out.now, c.args.journal.now)
    (c.feed.new.out, c.feed.new.journal) given (phase_of c.args.self.course)
    c.args.self.line.items c.args.byte c.as_slice.result.now c.clear.new.self.items c.in-Ok.course ten line none c.in-Ok.ensures at

pub returns-in-Err : goal.returns-in-Err
returns-in-Err g c =
    let ten : c.args.byte ≡ 10 = search rules in
    let line : c.as_slice.result.now ≡ c.args.self.line.items ++ c.args.byte ∷ [] = search rules in
    λ past base given at more.
    line_stopped c.args.showing g.O.Out.written g.O.Out.failures g.J.Journal.kept g.J.Journal.losses past base
    (c.args.out.now, c.args.journal.now)
    (c.feed.new.out, c.feed.new.journal) given (phase_of c.args.self.course)
    c.args.self.line.items c.args.byte c.as_slice.result.now c.in-Err.end more ten line c.in-Err.ensures at

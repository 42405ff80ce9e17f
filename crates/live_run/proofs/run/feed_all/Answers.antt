use Rattle.std.proofs.Common.{rules, ◌≡◌, ◌<◌, ◌+◌, [], ◌++◌, Ok, Result, Err, inl, inr, refl, take, subst, sym, arith}
use Rattle.std.proofs.KnownBytes.{Consumes-kept, Consumes-nil, Consumes-trans}
use Rattle.std.proofs.lemmas.Grind.{common_steps}
use Rattle.live_run.specs.declared.line_feed.LineFeed.{LineFeed}
use Rattle.live_run.specs.declared.ending.LiveEnd.{LiveEnd}
use Rattle.live_run.specs.declared.ending.LiveEnd.TheVariants.{Device}
use Rattle.live_run.specs.Course.{phase_of}
use Rattle.live_run.specs.Devices.{devices, observed_by}
use Rattle.live_run.specs.Feed.{FedAll}
use Rattle.live_run.proofs.FeedLemmas.{no_piece, pieces}
use Rattle.live_run.proofs.RunLemmas.{run_broken, run_stopped}
use Rattle.live_run.proofs.run.feed_all.Goals as goal

pub loop-init : goal.loop-init
loop-init g c = record {
  gone = (
    [],
    Consumes-nil (g.I.In.remaining c.args.input.now),
    no_piece c.args.showing g.O.Out.written g.O.Out.failures g.J.Journal.kept
        g.J.Journal.losses (c.args.out.now, c.args.journal.now) c.args.first,
  );
  reads = search rules;
  nonempty_reads = search rules;
  turns = search rules;
  unended = refl;
  unfailing = refl;
  buffer = search rules;
}

-- a failed input
pub returns-in_err-taken-clause-fed : goal.returns-in_err-taken-clause-fed
returns-in_err-taken-clause-fed g c =
    let failed : c.from_residual.result ≡ Err Device = search rules in
    let at = c.loop.invariant.gone in
    let ends : (g.I.In.counts c.take.new.self).ends ≡ (g.I.In.counts c.args.input.now).ends = grind (arith, common_steps) in
    let failures : (g.I.In.counts c.take.new.self).failures ≡ (g.I.In.counts c.args.input.now).failures + 1 = grind (arith, common_steps) in
    subst (λ (r : Result LineFeed LiveEnd). FedAll c.args.showing (observed_by g.I.In.remaining g.I.In.counts g.O.Out.written
    g.O.Out.failures g.J.Journal.kept g.J.Journal.losses) c.args.first (devices c.args.input.now c.args.out.now c.args.journal.now)
    (devices c.take.new.self c.loop.out c.loop.journal) r) (sym failed)
    (λ past feeds. (
      at.0,
      Consumes-kept _ _ _ at.0 at.1 c.in_err-taken.ensures.bytes,
      run_broken c.args.showing g.O.Out.written g.O.Out.failures g.J.Journal.kept g.J.Journal.losses past g.I.In.counts c.args.input.now
          c.take.new.self (c.args.out.now, c.args.journal.now)
          (c.loop.out, c.loop.journal) at.0 (phase_of c.loop.line_feed.course)
          c.loop.line_feed.line.items (at.2 past (c.args.out.now, c.args.journal.now) [] feeds) (ends, inl failures),
    ))

-- a piece in which the run stops
pub returns-in-Err-clause-fed : goal.returns-in-Err-clause-fed
returns-in-Err-clause-fed g c =
    let at = c.loop.invariant.gone in
    let piece = take c.in_ok-taken.taken c.take.new.buffer in
    λ past feeds. (
      at.0 ++ piece,
      Consumes-trans _ _ _ at.0 piece at.1 c.in_ok-taken.ensures.bytes.0,
      run_stopped c.args.showing g.O.Out.written g.O.Out.failures g.J.Journal.kept g.J.Journal.losses past g.I.In.counts c.args.input.now
          c.take.new.self (c.args.out.now, c.args.journal.now)
          (c.feed_piece.new.out, c.feed_piece.new.journal)
          (at.0 ++ piece) c.in-Err.end (c.in-Err.ensures past (c.args.out.now, c.args.journal.now) at.0
          (at.2 past (c.args.out.now, c.args.journal.now) [] feeds) []),
    )

pub loop-preserved : goal.loop-preserved
loop-preserved g c =
    let at = c.loop.invariant.gone in
    let taken = c.in_ok-taken.taken in
    let piece = take taken c.take.new.buffer in
    let some : 0 < taken = omega arith in
    record {
      gone = (
        at.0 ++ piece,
        Consumes-trans _ _ _ at.0 piece at.1 c.in_ok-taken.ensures.bytes.0,
        pieces c.args.showing g.O.Out.written g.O.Out.failures g.J.Journal.kept g.J.Journal.losses (c.args.out.now, c.args.journal.now)
            (c.loop.out, c.loop.journal) (c.feed_piece.new.out, c.feed_piece.new.journal)
            c.args.first c.loop.line_feed at.0 piece (Ok c.in-Ok.next) at.2 c.in-Ok.ensures,
      );
      reads = grind (arith, common_steps);
      nonempty_reads = grind (arith, common_steps);
      turns = omega arith;
      unended = grind (arith, common_steps);
      unfailing = grind (arith, common_steps);
      buffer = search rules;
    }

-- an endless input
pub returns-clause-fed : goal.returns-clause-fed
returns-clause-fed g c =
    let at = c.loop.invariant.gone in
    let all : c.loop.counter ≡ 33554432 = omega arith in
    let nonempty : (g.I.In.counts c.loop.input).nonempty_reads ≡ (g.I.In.counts c.args.input.now).nonempty_reads + 33554432 =
    grind (arith, common_steps) in
    λ past feeds. (
      at.0,
      at.1,
      run_broken c.args.showing g.O.Out.written g.O.Out.failures g.J.Journal.kept g.J.Journal.losses past g.I.In.counts c.args.input.now
          c.loop.input (c.args.out.now, c.args.journal.now)
          (c.loop.out, c.loop.journal) at.0
          (phase_of c.loop.line_feed.course) c.loop.line_feed.line.items (at.2 past (c.args.out.now, c.args.journal.now) [] feeds) (
            c.loop.invariant.unended,
            inr (c.loop.invariant.unfailing, nonempty),
          ),
    )

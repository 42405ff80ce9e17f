-- the layout was directed
use Rattle.live_run.proofs.SaidLemmas.{noted_directed, seen_directed}
use Rattle.live_run.proofs.showing.seen.Goals as goal

pub returns-then-oriented-clause-layout : goal.returns-then-oriented-clause-layout
returns-then-oriented-clause-layout c =
    seen_directed c.args.oriented c.args.layout.now c.oriented_layout.result c.if-oriented.true c.oriented_layout.ensures

pub returns-then-oriented-clause-noted : goal.returns-then-oriented-clause-noted
returns-then-oriented-clause-noted c =
    noted_directed c.args.oriented c.args.layout.now c.oriented_layout.result c.if-oriented.true c.oriented_layout.ensures

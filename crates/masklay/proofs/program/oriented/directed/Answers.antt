use Rattle.masklay.proofs.GivenLemmas.{given_directed}
use Rattle.masklay.proofs.program.oriented.directed.Goals as goal

-- the layout of the outcome was directed
pub returns : goal.returns
returns c =
    let directed = c.in_ok-layout.ensures in
    given_directed c.args.oriented c.args.finished c.in_ok-layout.field-0.layout c.in_ok-layout.field-0.staying
    c.if-not-oriented.false (directed.0, directed.1, directed.3)

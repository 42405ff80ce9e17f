use Rattle.std.proofs.Common.{◌∙◌, is_some, ap, arith, sym}
use Rattle.lay_cells.specs.Graph.{rows_of}
use Rattle.lay_cells.specs.Tallies.{IsTallied}
use Rattle.lay_cells.proofs.TallyLemmas.{at_none, at_one, known_none}
use Rattle.lay_cells.proofs.tally.tally_one.Goals as goal

pub returns-then-is_none : goal.returns-then-is_none
returns-then-is_none c =
    at_one (rows_of c.args.rows.now.items) c.args.position c.args.tallies.now.items c.tally_of-tally.result
    (omega (arith, c.requires.position, c.requires.whole)) c.requires.sound
    (sym c.tally_at.ensures ∙ known_none (rows_of c.args.rows.now.items) c.tally_at.result c.if-is_none.ensures)
    c.tally_of-tally.ensures.sum c.tally_of-tally.ensures.all

pub returns-else-is_none : goal.returns-else-is_none
returns-else-is_none c =
    let known : IsTallied c.args.tallies.now.items c.args.position = sym (ap is_some c.tally_at.ensures) ∙ c.if-is_none.ensures in
    at_none (rows_of c.args.rows.now.items) c.args.position c.args.tallies.now.items c.requires.sound known

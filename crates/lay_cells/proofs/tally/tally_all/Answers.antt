use Rattle.std.proofs.Common.{ℕ, List, arith, sym, subst}
use Rattle.std.proofs.lemmas.List.{length-map}
use Rattle.std.specs.Global.{Vec}
use Rattle.lay_cells.specs.Graph.{rows_of}
use Rattle.lay_cells.specs.Tallies.{AreTallied}
use Rattle.lay_cells.proofs.TallyLemmas.{at_more, at_start, entries-more, entry-below}
use Rattle.lay_cells.proofs.tally.tally_all.Goals as goal

pub loop-position-init : goal.loop-position-init
loop-position-init c = at_start (rows_of c.args.rows.now.items) c.args.tallies.now.items c.requires.sound

pub tally_one-requires-clause-position : goal.tally_one-requires-clause-position
tally_one-requires-clause-position c =
    let rows = rows_of c.args.rows.now.items in
    let below = entry-below rows c.args.order.now _ c.loop-position.position-index c.requires.order c.loop-position-test.true in
    omega (arith, below, length-map c.args.rows.now.items (λ (v : Vec ℕ). v.items))

-- one position more
pub loop-position-preserved : goal.loop-position-preserved
loop-position-preserved c =
    let rows = rows_of c.args.rows.now.items in
    let more = entries-more rows c.args.order.now c.loop-position.position-index c.loop-position-test.true in
    subst (λ (ps : List ℕ). AreTallied rows c.args.tallies.now.items ps c.tally_one.new.tallies.items) (sym more)
    (at_more rows c.args.tallies.now.items c.loop-position.tallies.items c.tally_one.new.tallies.items _ _ c.loop-position.invariant
    c.tally_one.ensures)

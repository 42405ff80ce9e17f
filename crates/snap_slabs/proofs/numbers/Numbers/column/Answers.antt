use Rattle.std.proofs.Common.{subst}
use Rattle.snap_slabs.specs.Runs.{AreByRows}
use Rattle.snap_slabs.proofs.RowRuns.{column_is_run}
use Rattle.snap_slabs.proofs.numbers.Numbers.column.Goals as goal

pub returns-clause-run : goal.returns-clause-run
returns-clause-run c = λ s side upright.
    let rows = c.self.inside.rows.items in
    let places = c.self.inside.places.items in
    let n = subst (λ l. AreByRows l rows places) c.self.view_is c.self.invariant in
    column_is_run c.args.self.now rows places n s c.args.from c.args.to side c.ends.result.0 c.ends.result.1 c.ends.ensures upright

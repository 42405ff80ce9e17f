use Rattle.std.specs.Prelude.{slice_index_or}
use Rattle.snap_slabs.proofs.Placing.{own_element}
use Rattle.snap_slabs.proofs.rows.centres_of.Goals as goal

pub bounds-centres-number : goal.bounds-centres-number
bounds-centres-number c =
    let numbers = c.args.numbers.now in
    let k = c.loop-number.number-index in
    c.requires (slice_index_or numbers k 0) (own_element numbers k c.loop-number-test.true)

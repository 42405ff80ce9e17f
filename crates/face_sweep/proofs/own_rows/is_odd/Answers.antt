use Rattle.face_sweep.proofs.OwnLemmas.{odd_by_rest}
use Rattle.face_sweep.proofs.own_rows.is_odd.Goals as goal

pub returns : goal.returns
returns c = odd_by_rest c.args.count

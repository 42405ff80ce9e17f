use Rattle.std.proofs.Common.{drop}
use Rattle.face_rows.specs.Lines.{owners_at}
use Rattle.face_sweep.specs.Sides.{holds_beside, is_odd_in}
use Rattle.face_sweep.proofs.LabelLemmas.{label_beside}
use Rattle.face_sweep.proofs.StateLemmas.{sides_agree}
use Rattle.face_labels.proofs.begun.level_label.Goals as goal

pub returns : goal.returns
returns c =
    let r = c.args.edges.now in
    let n = c.args.number in
    label_beside c.args.op r n c.requires.sound c.requires.number c.of-sides.result
    (sides_agree (owners_at r n) (is_odd_in r (drop c.args.next c.args.row.now)) (holds_beside r n) c.of-sides.result c.requires.beside
    c.of-sides.ensures)
    c.differs.result c.differs.ensures

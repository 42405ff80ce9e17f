use Rattle.face_labels.proofs.LineLemmas.{all_given}
use Rattle.face_labels.proofs.sweep_row.SweepRow.group_at.Goals as goal

pub place_of_point-from-requires : goal.place_of_point-from-requires
place_of_point-from-requires c = all_given c.args.edges.now c.args.point c.args.self.now.numbers c.requires.status

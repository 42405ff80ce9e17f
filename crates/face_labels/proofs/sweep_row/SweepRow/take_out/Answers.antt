-- Only the edges that end at the point are lost from the lists.
use Rattle.face_labels.proofs.LineLemmas.{all_given, group_cut}
use Rattle.face_labels.proofs.sweep_row.SweepRow.take_out.Goals as goal

pub take_out-requires-clause-given : goal.take_out-requires-clause-given
take_out-requires-clause-given c = all_given c.args.edges.now c.args.group.point c.args.self.now.numbers c.requires.line.status

pub take_out-requires-clause-cut : goal.take_out-requires-clause-cut
take_out-requires-clause-cut c =
    let g = c.args.group in
    group_cut c.args.edges.now g.point c.args.self.now.numbers g.from g.to c.requires.sound c.requires.group

pub returns : goal.returns
returns c = record {
  status = c.requires.line.status;
  group = c.requires.group;
  lefts = c.requires.line.lefts;
  room = c.take_out.ensures.room;
  own = c.take_out.ensures.own;
}

use Rattle.std.proofs.Common.{◌-ℤ◌, pos, get_or, sym, subst}
use Rattle.face_rows.specs.Rows.{AreRowEdges}
use Rattle.face_sweep.specs.declared.stops.Stop.{Stop}
use Rattle.face_sweep.specs.Sides.{AreLefts}
use Rattle.face_sweep.proofs.LabelLemmas.{row_behind, row_given}
use Rattle.face_sweep.proofs.SweepLemmas.{first_status}
use Rattle.std.proofs.Common.{refl}
use Rattle.face_labels.proofs.sweep_row.SweepRow.at.Goals as goal

origin : Stop
origin = record { point = record { x = pos 0; y = pos 0 }; from = 0; to = 0 }

pub find_lefts-requires-clause-given : goal.find_lefts-requires-clause-given
find_lefts-requires-clause-given c =
    let r = c.args.edges.now in
    let row = (get_or c.args.shared.now.stops.list.items c.args.index origin).point.y -ℤ pos 1 in
    row_given r.0 row c.of-numbers.result c.of-numbers.result refl
    (subst (AreRowEdges r.0 row) (sym c.of-numbers.ensures) (c.in_ok-edges_below.ensures origin))

pub find_lefts-requires-clause-behind : goal.find_lefts-requires-clause-behind
find_lefts-requires-clause-behind c =
    let r = c.args.edges.now in
    let row = (get_or c.args.shared.now.stops.list.items c.args.index origin).point.y -ℤ pos 1 in
    row_behind r c.requires.sound row c.of-numbers.result
    (subst (AreRowEdges r.0 row) (sym c.of-numbers.ensures) (c.in_ok-edges_below.ensures origin))

pub find_lefts-requires-clause-room : goal.find_lefts-requires-clause-room
find_lefts-requires-clause-room c = c.in_ok-own.ensures.room c.args.edges.now

pub returns : goal.returns
returns c = λ d.
    let r = c.args.edges.now in
    let numbers = c.of-numbers.result in
    let row = (get_or c.args.shared.now.stops.list.items c.args.index d).point.y -ℤ pos 1 in
    record {
      status = first_status r c.args.shared.now.stops c.requires.shared.stops d c.args.index numbers c.requires.sound c.requires.index
          (λ k before. c.requires.first k d before)
          (subst (AreRowEdges r.0 row) (sym c.of-numbers.ensures) (c.in_ok-edges_below.ensures d));
      lefts = subst (AreLefts r numbers) (sym c.of.ensures) c.in_ok-lefts.ensures.lefts;
      room = c.in_ok-lefts.ensures.room;
      own = c.in_ok-lefts.ensures.own;
    }

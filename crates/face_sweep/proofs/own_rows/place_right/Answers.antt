use Rattle.std.proofs.Common.{rules, ◌≡◌, true, false, pos, int_lt, get_or}
use Rattle.lay_point.proofs.Tests.{lt_false, lt_true}
use Rattle.face_sweep.specs.Points.{distance_from}
use Rattle.face_sweep.proofs.OwnLemmas.{cut_place}
use Rattle.face_sweep.proofs.own_rows.place_right.Goals as goal

pub returns-clause-cut : goal.returns-clause-cut
returns-clause-cut c = λ right left is h.
    cut_place c.args.edges.now c.args.point c.args.list.now right left c.partition_from.result is h c.partition_from.ensures.bound
    (λ k next.
    let post = c.partition_from.ensures.before k next in
    let t : int_lt (distance_from c.args.edges.now c.args.point (get_or c.args.list.now k 0)) (pos 0) ≡ false = search rules in
    lt_false (distance_from c.args.edges.now c.args.point (get_or c.args.list.now k 0)) (pos 0) t)
    (λ less.
    let k = c.partition_from.result in
    let post = c.partition_from.ensures.behind less in
    let t : int_lt (distance_from c.args.edges.now c.args.point (get_or c.args.list.now k 0)) (pos 0) ≡ true = search rules in
    lt_true (distance_from c.args.edges.now c.args.point (get_or c.args.list.now k 0)) (pos 0) t)

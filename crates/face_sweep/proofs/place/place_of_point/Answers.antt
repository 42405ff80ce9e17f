-- What the test answers is the order of two numbers.
use Rattle.std.proofs.Common.{rules, ◌≡◌, ◌<◌, ◌≤◌, true, false, pos, int_lt, sym, subst, get_or}
use Rattle.lay_point.proofs.Tests.{lt_false, lt_true}
use Rattle.face_sweep.specs.Points.{distance_from}
use Rattle.face_sweep.proofs.place.place_of_point.Goals as goal

pub returns : goal.returns
returns c = record {
  bound = subst (λ l. c.partition_from.result ≤ l) c.len.ensures c.partition_from.ensures.bound;
  before = λ k next.
      let post = c.partition_from.ensures.before k next in
      let t : true ≡ int_lt (distance_from c.args.edges.now c.args.point (get_or c.args.numbers.now k 0)) (pos 0) = search rules in
      lt_true (distance_from c.args.edges.now c.args.point (get_or c.args.numbers.now k 0)) (pos 0) (sym t);
  behind = λ less.
      let k = c.partition_from.result in
      let post = c.partition_from.ensures.behind (subst (λ l. c.partition_from.result < l) (sym c.len.ensures) less) in
      let t : false ≡ int_lt (distance_from c.args.edges.now c.args.point (get_or c.args.numbers.now k 0)) (pos 0) = search rules in
      lt_false (distance_from c.args.edges.now c.args.point (get_or c.args.numbers.now k 0)) (pos 0) (sym t);
}

use Rattle.std.proofs.Common.{◌≡◌, ◌≤◌, arith, false, get_or, length, rules, subst, sym, true}
use Rattle.std.specs.Prelude.{int_lt}
use Rattle.std.specs.List.Sorted.{IsPartitionPoint}
use Rattle.std.proofs.lemmas.List.Sorted.{IsPartitionPoint-from_clause}
use Rattle.lay_point.specs.Rising.{IsRising}
use Rattle.lay_point.proofs.Tests.{lt_false, lt_true}
use Rattle.face_sweep.specs.Points.{IsAfter}
use Rattle.face_sweep.specs.Stops.{stop_list}
use Rattle.face_sweep.specs.declared.stops.Stop.{Stop}
use Rattle.face_sweep.proofs.StopLemmas.{below_parted, points_of}
use Rattle.face_sweep.proofs.stops.Stops.first_from.Goals as goal

pub returns : goal.returns
returns c =
    let list = stop_list c.args.self.now in
    let row = c.args.row in
    let index = c.partition_point.result in
    let rising = subst (λ l. IsRising IsAfter (points_of l)) (sym c.stops.ensures) c.requires in
    let lent = IsPartitionPoint-from_clause (λ (s : Stop). int_lt s.point.y row) c.stops.result.now index
    c.partition_point.ensures.partitioned (below_parted c.stops.result.now rising row) (λ a r q k. search rules) in
    let found = subst
    (λ l. IsPartitionPoint (λ (s : Stop). int_lt s.point.y row ≡ true) (λ (s : Stop). int_lt s.point.y row ≡ false) l index)
    c.stops.ensures lent in
    record {
      bound = subst (λ l. index ≤ length l) c.stops.ensures c.partition_point.ensures.bound;
      before = λ k d less. lt_true (get_or list k d).point.y row (found.0 k d (omega arith) less);
      behind = λ k d from less. lt_false (get_or list k d).point.y row (found.1 k d from less);
    }

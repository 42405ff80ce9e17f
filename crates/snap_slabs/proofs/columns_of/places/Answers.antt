use Rattle.std.proofs.Common.{rules}
use Rattle.std.specs.Prelude.{not}
use Rattle.std.proofs.lemmas.List.Sorted.{IsPartitionPoint-from_clause}
use Rattle.snap_slabs.specs.Columns.{is_lesser_point}
use Rattle.snap_slabs.proofs.ColumnLemmas.{left_part, right_part, round_both, ArePlaces, places_in_order, hold_met}
use Rattle.snap_slabs.proofs.columns_of.places.Goals as goal

pub returns-clause-ordered : goal.returns-clause-ordered
returns-clause-ordered c =
    let s = c.args.segment.now in
    let low = c.box_of-bounds.result.low in
    let high = c.box_of-bounds.result.high in
    let early = IsPartitionPoint-from_clause (λ v. is_lesser_point v low) _ _ c.partition_point-from.ensures.partitioned
    (left_part low c.args.centres.now c.requires) (λ a r q k. search rules) in
    let late = IsPartitionPoint-from_clause (λ v. not (is_lesser_point high v)) _ _ c.partition_point-to.ensures.partitioned
    (right_part high c.args.centres.now c.requires) (λ a r q k. search rules) in
    let places : ArePlaces c.args.centres.now low high c.partition_point-from.result c.partition_point-to.result =
    record { early = early; late = late; inside = c.partition_point-from.ensures.bound } in
    let corners = round_both c.box_of-bounds.result s.a s.b c.box_of-bounds.ensures in
    places_in_order low high s.a s.b corners c.args.centres.now _ _ places

pub returns-clause-all : goal.returns-clause-all
returns-clause-all c =
    let s = c.args.segment.now in
    let low = c.box_of-bounds.result.low in
    let high = c.box_of-bounds.result.high in
    let early = IsPartitionPoint-from_clause (λ v. is_lesser_point v low) _ _ c.partition_point-from.ensures.partitioned
    (left_part low c.args.centres.now c.requires) (λ a r q k. search rules) in
    let late = IsPartitionPoint-from_clause (λ v. not (is_lesser_point high v)) _ _ c.partition_point-to.ensures.partitioned
    (right_part high c.args.centres.now c.requires) (λ a r q k. search rules) in
    let places : ArePlaces c.args.centres.now low high c.partition_point-from.result c.partition_point-to.result =
    record { early = early; late = late; inside = c.partition_point-from.ensures.bound } in
    let corners = round_both c.box_of-bounds.result s.a s.b c.box_of-bounds.ensures in
    hold_met low high s.a s.b corners c.args.centres.now _ _ places

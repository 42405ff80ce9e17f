use Rattle.std.proofs.Common.{ℕ, ltb, rules}
use Rattle.std.proofs.lemmas.List.Sorted.{IsPartitionPoint-from_clause, IsPartitionedBy-ltb}
use Rattle.snap_chains.proofs.RowOrderLemmas.{found_at, never_falls}
use Rattle.snap_chains.proofs.row_order.index_of.Goals as goal

pub returns : goal.returns
returns c =
    let keys = c.args.keys.now in
    let parted = IsPartitionedBy-ltb (λ (k : ℕ). k) keys c.args.key (never_falls keys c.requires.increasing) in
    let point = IsPartitionPoint-from_clause (λ (k : ℕ). ltb k c.args.key) keys c.partition_point.result
    c.partition_point.ensures.partitioned parted (λ a r q k. search rules) in
    found_at keys c.args.key c.partition_point.result c.requires.increasing c.requires.keyed point

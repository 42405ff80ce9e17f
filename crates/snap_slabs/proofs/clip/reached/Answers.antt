use Rattle.std.proofs.Common.{rules}
use Rattle.std.specs.Prelude.{not}
use Rattle.std.proofs.lemmas.List.Sorted.{IsPartitionPoint-from_clause}
use Rattle.snap_slabs.specs.Clips.{is_off}
use Rattle.snap_slabs.proofs.ClipLemmas.{off_first, off_last, reached_met, same_met}
use Rattle.snap_slabs.proofs.clip.reached.Goals as goal

pub returns-clause-all : goal.returns-clause-all
returns-clause-all c =
    let s = c.args.segment.now in
    let cs = c.args.centres.now in
    let low = c.args.low in
    let high = c.args.high in
    let a = c.forward.result.0 in
    let b = c.forward.result.1 in
    let slack = c.slack-slack.result in
    let early = IsPartitionPoint-from_clause (λ v. is_off a b slack low high v) _ _ c.partition_point-from.ensures.partitioned
    (off_first a b slack low high cs c.forward.ensures.ordered c.requires.rising) (λ p r q k. search rules) in
    let late = IsPartitionPoint-from_clause (λ v. not (is_off b a slack low high v)) _ _ c.partition_point-to.ensures.partitioned
    (off_last b a slack low high cs c.forward.ensures.ordered c.requires.rising) (λ p r q k. search rules) in
    same_met cs s.a s.b a b _ c.forward.ensures.same
    (reached_met cs a b slack low high _ _ c.slack-slack.ensures c.requires.columns (record { early = early; late = late }))

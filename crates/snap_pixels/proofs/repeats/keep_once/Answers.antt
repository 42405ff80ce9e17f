use Rattle.snap_pixels.proofs.OrderLemmas.{once_members, segment_eq, segment_eq-Decides}
use Rattle.snap_pixels.proofs.repeats.keep_once.Goals as goal

pub returns : goal.returns
returns c = once_members segment_eq segment_eq-Decides _ _ _ c.sort_unstable_by_key.ensures.permutation c.dedup.ensures.filtered

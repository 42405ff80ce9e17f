use Rattle.std.proofs.Common.{map}
use Rattle.snap_pixels.proofs.StripLemmas.{AreListed}
use Rattle.snap_pixels.proofs.strips.Strips.lists.Given as goal

-- the segments so far are in the lists of their strips
abbrev pub invariant-loop-segment : goal.invariant-loop-segment
invariant-loop-segment l = AreListed l.self l.segments l.segment-index (map (λ list. list.items) l.lists.items)

use Rattle.std.proofs.Common.{map}
use Rattle.snap_pixels.proofs.StripLemmas.{ArePut}
use Rattle.snap_pixels.proofs.strips.put.Given as goal

-- the segment is in the lists of the numbers so far
abbrev pub invariant-loop-number : goal.invariant-loop-number
invariant-loop-number l =
    ArePut (map (λ list. list.items) l.initial.lists.items) (map (λ list. list.items) l.lists.items) l.segment l.fn.first l.number

use Rattle.std.proofs.Common.{length}
use Rattle.std.specs.List.{AllZip}
use Rattle.snap_chains.specs.RowOrder.{IsSpanBy}
use Rattle.snap_chains.proofs.ReadLemmas.{IsReading}
use Rattle.snap_chains.proofs.reading.read_sorted.Given as goal

-- the passes that are left become fewer
abbrev pub decreases-loop-first : goal.decreases-loop-first
decreases-loop-first l = length l.rest

-- what is read so far, and where the ends of these edges are
abbrev pub invariant-loop-first : goal.invariant-loop-first
invariant-loop-first l = record {
  read : IsReading l.centres l.passes l.rest l.edges.items l.owners.items l.parts.items;
  spans : AllZip (IsSpanBy l.centres l.ranks) l.edges.items l.spans.items;
}

use Rattle.std.proofs.Common.{◌≡◌, ◌<◌, ℕ}
use Rattle.std.specs.Prelude.{slice_index_or}
use Rattle.snap_chains.specs.declared.pass.Pass.{Pass}
use Rattle.snap_chains.specs.Reading.{numbered_edge}
use Rattle.snap_chains.proofs.reading.group_length.Given as goal

-- those so far go the first's edge
abbrev pub invariant-loop-number : goal.invariant-loop-number
invariant-loop-number l = (k : ℕ) (d : Pass) → k < l.number → numbered_edge (slice_index_or l.passes k d)
    ≡ numbered_edge (slice_index_or l.passes 0 d)

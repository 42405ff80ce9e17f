use Rattle.std.proofs.Common.{take}
use Rattle.std.specs.Prelude.{All}
use Rattle.snap_pixels.specs.Kinds.{IsOfKind}
use Rattle.snap_pixels.proofs.kind.run_length.Given as goal

-- those so far are along the first one's axis
abbrev pub invariant-loop-i : goal.invariant-loop-i
invariant-loop-i l = All (IsOfKind l.kind) (take l.i l.later)

use Rattle.std.proofs.Common.{◌≡◌, None, length}
use Rattle.byte_io.specs.Lines.{lines}
use Rattle.cif_names.specs.Woven.{last_call}
use Rattle.cif_names.proofs.woven.last_call.Given as goal

-- the lines that are left decide
abbrev pub invariant-loop-line : goal.invariant-loop-line
invariant-loop-line l = last_call l.called (lines l.rest) ≡ last_call None (lines l.written)

abbrev pub decreases-loop-line : goal.decreases-loop-line
decreases-loop-line l = length l.rest

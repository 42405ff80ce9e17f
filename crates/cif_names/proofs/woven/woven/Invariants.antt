use Rattle.std.proofs.Common.{◌≡◌, ◌++◌, length}
use Rattle.byte_io.specs.Lines.{lines}
use Rattle.cif_names.specs.Maps.{bytes_at}
use Rattle.cif_names.specs.Woven.{woven}
use Rattle.cif_names.proofs.woven.woven.Given as goal

-- what was made of the lines so far, and what is made of those that are left
abbrev pub invariant-loop-line : goal.invariant-loop-line
invariant-loop-line l =
    l.bytes.items ++ woven (bytes_at l.headings.entries) (lines l.rest) ≡ woven (bytes_at l.headings.entries) (lines l.written)

abbrev pub decreases-loop-line : goal.decreases-loop-line
decreases-loop-line l = length l.rest

-- Of the numbers that are left, the first that is unused is the same.
use Rattle.std.proofs.Common.{◌≡◌, ◌-◌, length}
use Rattle.cif_write.specs.Wrap.{least_unused, unused_from}
use Rattle.cif_write.proofs.wrap.least_unused.Given as goal

abbrev pub invariant-loop-symbol : goal.invariant-loop-symbol
invariant-loop-symbol l = unused_from (length l.cells - l._symbol) l.number l.cells ≡ least_unused l.cells

use Rattle.std.proofs.Common.{◌≡◌, drop}
use Rattle.txn_marks.specs.Met.{symbols_are_met}
use Rattle.txn_marks.proofs.met.symbols_touch.Given as goal

-- those that are left decide
abbrev pub invariant-loop-number : goal.invariant-loop-number
invariant-loop-number l = symbols_are_met l.footprint (drop l.number-index l.symbols) ≡ symbols_are_met l.footprint l.symbols

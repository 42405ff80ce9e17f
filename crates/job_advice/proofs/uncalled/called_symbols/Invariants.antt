use Rattle.std.proofs.Common.{◌≡◌, ℕ, take}
use Rattle.std.specs.List.{list_any}
use Rattle.lay_cells.specs.Symbols.{has_symbol}
use Rattle.job_advice.specs.Uncalled.{is_called_by}
use Rattle.job_advice.proofs.uncalled.called_symbols.Given as goal

-- what the symbols before the place call is there, and no other
abbrev pub invariant-loop-place : goal.invariant-loop-place
invariant-loop-place l =
    (n : ℕ) → has_symbol l.called n ≡ list_any (is_called_by l.layout n) (take l.place l.cells)

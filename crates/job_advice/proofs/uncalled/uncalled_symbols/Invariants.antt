use Rattle.std.proofs.Common.{◌≡◌, filter, not, take}
use Rattle.job_advice.specs.Uncalled.{is_called}
use Rattle.job_advice.proofs.uncalled.uncalled_symbols.Given as goal

-- those before the place that none calls
abbrev pub invariant-loop-place : goal.invariant-loop-place
invariant-loop-place l = l.uncalled.items ≡ filter (λ number. not (is_called l.layout number)) (take l.place l.cells)

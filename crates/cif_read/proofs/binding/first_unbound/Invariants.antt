use Rattle.std.proofs.Common.{ℕ, ◌<◌}
use Rattle.cif_read.specs.Binding.{IsBound, pending_at}
use Rattle.cif_read.proofs.binding.first_unbound.Given as goal

-- the calls so far are bound
abbrev pub invariant-loop-index : goal.invariant-loop-index
invariant-loop-index l = (i : ℕ) → i < l.index → IsBound l.symbols (pending_at l.calls i)

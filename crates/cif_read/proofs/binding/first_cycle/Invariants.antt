use Rattle.std.proofs.Common.{◌≡◌, map, take}
use Rattle.cif_read.specs.Binding.{edge_of}
use Rattle.cif_read.proofs.binding.first_cycle.Given as goal

abbrev pub invariant-loop-call : goal.invariant-loop-call
invariant-loop-call l = l.graph ≡ record { symbols = l.symbols; calls = map edge_of (take l.call-index l.calls) }

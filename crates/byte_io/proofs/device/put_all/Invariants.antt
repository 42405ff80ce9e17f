-- What is gone from the rest was written, and the device didn't fail.
use Rattle.std.proofs.Common.{◌≡◌, ℕ, List, ◌++◌, length}
use Rattle.std.specs.Io.KnownBytes.{Appends}
use Rattle.byte_io.proofs.device.put_all.Given as goal

abbrev pub invariant-loop-rest : goal.invariant-loop-rest
invariant-loop-rest g l = record {
  gone : (done : List ℕ) × (l.initial.rest ≡ done ++ l.rest) × Appends (g.O.Out.written l.initial.out) (g.O.Out.written l.out) done;
  unfailing : g.O.Out.failures l.out ≡ g.O.Out.failures l.initial.out;
}

abbrev pub decreases-loop-rest : goal.decreases-loop-rest
decreases-loop-rest g l = length l.rest

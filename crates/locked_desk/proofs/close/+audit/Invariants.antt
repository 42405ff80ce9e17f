use Rattle.std.specs.Prelude.{length}
use Rattle.locked_desk.proofs.close.+audit.Given as goal

abbrev pub decreases-audit : goal.decreases-audit
decreases-audit g l = length l.seats.now

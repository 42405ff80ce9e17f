use Rattle.std.specs.Prelude.{◌≡◌, length}
use Rattle.desk_rules.specs.Close.{missing_call}
use Rattle.locked_desk.proofs.close.missing_call.Given as goal

abbrev pub invariant-loop-seat : goal.invariant-loop-seat
invariant-loop-seat g l = missing_call l.fn.log l.rest ≡ missing_call l.fn.log l.fn.seats

abbrev pub decreases-loop-seat : goal.decreases-loop-seat
decreases-loop-seat g l = length l.rest

use Rattle.std.specs.Prelude.{◌≡◌, length}
use Rattle.desk_rules.specs.Close.{has_seat}
use Rattle.locked_desk.proofs.close.has_seat.Given as goal

abbrev pub invariant-loop-seat : goal.invariant-loop-seat
invariant-loop-seat g l = has_seat l.fn.session l.rest ≡ has_seat l.fn.session l.fn.seats

abbrev pub decreases-loop-seat : goal.decreases-loop-seat
decreases-loop-seat g l = length l.rest

use Rattle.std.specs.Prelude.{◌≡◌, length}
use Rattle.desk_rules.specs.Close.{missing_place}
use Rattle.desk_rules.proofs.seat_call.missing_place.Given as goal

abbrev pub invariant-loop-kept : goal.invariant-loop-kept
invariant-loop-kept l = missing_place l.fn.log l.rest ≡ missing_place l.fn.log l.fn.own

abbrev pub decreases-loop-kept : goal.decreases-loop-kept
decreases-loop-kept l = length l.rest

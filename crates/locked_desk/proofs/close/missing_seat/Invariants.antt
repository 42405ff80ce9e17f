use Rattle.std.specs.Prelude.{◌-◌}
use Rattle.desk_rules.specs.Close.{HasAll}
use Rattle.locked_desk.proofs.close.missing_seat.Given as goal

abbrev pub invariant-loop-session : goal.invariant-loop-session
invariant-loop-session g l = HasAll (l.session - 1) l.seats

use Rattle.std.specs.Prelude.{◌≡◌, ◌+◌, replicate}
use Rattle.desk_rules.specs.Close.{empty_seats}
use Rattle.locked_desk.proofs.desk.seats_of.Given as goal

abbrev pub invariant-loop-i : goal.invariant-loop-i
invariant-loop-i g l =
    (l.rest.parts + l.i ≡ l.sessions) × (l.rest.amount ≡ 0) × (l.seats.items ≡ empty_seats l.i) × (l.counts.items ≡ replicate l.i 0)

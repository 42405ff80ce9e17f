use Rattle.std.proofs.Common.{◌≡◌, map, take}
use Rattle.std.specs.Prelude.{All}
use Rattle.face_rows.specs.Crossings.{IsCrossingOf}
use Rattle.face_sweep.specs.Ends.{begin_numbers}
use Rattle.face_sweep.proofs.stops.crossings_of.Given as goal

-- where those of the edges so far cross the row
abbrev pub invariant-loop-begin : goal.invariant-loop-begin
invariant-loop-begin l = record {
  numbers : map (λ c. c.number) l.crossings.items ≡ begin_numbers (take l.begin-index l.group);
  places : All (IsCrossingOf l.edges l.fn.row) l.crossings.items;
}

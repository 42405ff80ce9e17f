use Rattle.std.proofs.Common.{◌≡◌, drop, false}
use Rattle.std.specs.List.{list_any}
use Rattle.lay_point.specs.Turns.{unturned}
use Rattle.cif_read.specs.Calls.{is_big_change, turn_changed_by}
use Rattle.cif_read.proofs.turns.turned_by.Given as goal

abbrev pub invariant-loop-change : goal.invariant-loop-change
invariant-loop-change l = record {
  found : turn_changed_by l.scale l.turn (drop l.change-index l.changes) ≡ turn_changed_by l.scale unturned l.changes;
  small : list_any is_big_change (drop l.change-index l.changes) ≡ false;
}

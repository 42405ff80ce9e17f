use Rattle.std.proofs.Common.{◌≡◌, drop, false}
use Rattle.std.specs.List.{list_all, list_any}
use Rattle.cif_read.specs.Calls.{is_big_change, is_whole_change}
use Rattle.cif_read.proofs.turns.are_whole.Given as goal

abbrev pub invariant-loop-change : goal.invariant-loop-change
invariant-loop-change l = record {
  decides : list_all (is_whole_change l.scale) (drop l.change-index l.changes) ≡ list_all (is_whole_change l.scale) l.changes;
  small : list_any is_big_change (drop l.change-index l.changes) ≡ false;
}

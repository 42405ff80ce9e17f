-- Whatever is found for the items that are left completes what is found for all; no more shapes stay than there are items.
use Rattle.std.proofs.Common.{◌≡◌, ◌+◌, ◌≤◌, List, length, take}
use Rattle.std.specs.FinMap.{entries}
use Rattle.lay_cells.specs.declared.cell_id.CellId.{CellId}
use Rattle.lay_layouts.specs.declared.id.ItemId.{ItemId}
use Rattle.lay_oriented.proofs.CompleteLemmas.{Completes}
use Rattle.lay_oriented.proofs.directing.found_in.Given as goal

abbrev pub invariant-loop-id : goal.invariant-loop-id
invariant-loop-id l = record {
  found : (stays : List (CellId × ItemId)) × (l.staying ≡ length stays) × (l.first.items ≡ take 3 stays)
      × Completes (entries l.layout.items) l.id-iterator l.writes.items stays;
  few : l.staying + length l.id-iterator ≤ length (entries l.layout.items);
}

use Rattle.std.proofs.Common.{◌≡◌, ◌-◌, length}
use Rattle.lay_layouts.specs.SlotOrder.{in_slot_order}
use Rattle.lay_items.proofs.Entering.{FoundSo}
use Rattle.lay_flat.proofs.graph.symbols_from.Given as goal

-- what the symbols before the index call is there
abbrev pub invariant-loop-number : goal.invariant-loop-number
invariant-loop-number l = record {
  layout : l.lists ≡ l.fn.lists;
  found : FoundSo l.fn.lists l.fn.cell l.symbols l.index;
}

abbrev pub decreases-loop-number : goal.decreases-loop-number
decreases-loop-number l = length (in_slot_order l.fn.lists.symbols) - l.index

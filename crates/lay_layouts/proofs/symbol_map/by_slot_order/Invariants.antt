use Rattle.std.proofs.Common.{◌≡◌, map}
use Rattle.std.specs.FinMap.{from_entries}
use Rattle.lay_layouts.specs.SlotOrder.{standing_cmp, standing_of}
use Rattle.lay_layouts.proofs.DistinctLemmas.{inserted}
use Rattle.lay_layouts.proofs.symbol_map.by_slot_order.Given as goal

-- the symbols that are left lead to the same map
abbrev pub invariant-loop-number : goal.invariant-loop-number
invariant-loop-number l = inserted (from_entries {R = standing_cmp} l.standings.entries) (map standing_of l.number-iterator)
    ≡ inserted (from_entries {R = standing_cmp} l.initial.standings.entries) (map standing_of l.initial.number-iterator)

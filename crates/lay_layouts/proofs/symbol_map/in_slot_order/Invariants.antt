use Rattle.std.proofs.Common.{◌≡◌, ◌++◌, map}
use Rattle.lay_layouts.specs.SlotOrder.{in_slot_order}
use Rattle.lay_layouts.specs.Layout.{symbols_of}
use Rattle.lay_layouts.proofs.symbol_map.in_slot_order.Given as goal

-- the numbers that are left stand behind those that were added
abbrev pub invariant-loop-number : goal.invariant-loop-number
invariant-loop-number l = l.cells ++ map (λ e. e.1) l.number-iterator ≡ in_slot_order (symbols_of l.slots)

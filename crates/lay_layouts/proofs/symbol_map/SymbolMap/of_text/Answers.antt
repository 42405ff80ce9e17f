use Rattle.std.proofs.Common.{◌≡◌, rules, sym, ◌∙◌, ap}
use Rattle.lay_layouts.specs.SlotOrder.{in_slot_order}
use Rattle.lay_layouts.proofs.SlotLemmas.{in_slot_order-placed}
use Rattle.lay_layouts.proofs.symbol_map.SymbolMap.of_text.Goals as goal

-- the symbols stand in the order of their list
pub invariant_of-result : goal.invariant_of-result
invariant_of-result c =
    let cells : c.in_ok-cells.cells ≡ c.args.symbols.now = search rules in
    cells ∙ sym (ap in_slot_order c.in_ok-slots.ensures.map ∙ in_slot_order-placed c.args.symbols.now c.base_symbols.ensures.distinct)

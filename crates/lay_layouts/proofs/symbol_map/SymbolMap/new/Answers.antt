use Rattle.std.proofs.Common.{◌≡◌, [], rules, sym, ◌∙◌, ap}
use Rattle.lay_layouts.specs.Layout.{symbols_of}
use Rattle.lay_layouts.specs.SlotOrder.{in_slot_order}
use Rattle.lay_layouts.proofs.SlotLemmas.{in_slot_order-none}
use Rattle.lay_layouts.proofs.symbol_map.SymbolMap.new.Goals as goal

pub invariant_of-result : goal.invariant_of-result
invariant_of-result c =
    let none : c.new.result ≡ [] = search rules in
    c.new-2.ensures ∙ sym (ap (λ es. in_slot_order (symbols_of es)) none ∙ in_slot_order-none)

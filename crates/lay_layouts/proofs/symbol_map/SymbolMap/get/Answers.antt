use Rattle.std.proofs.Common.{◌∙◌, ap, sym}
use Rattle.std.specs.Cmp.{nat_cmp_total}
use Rattle.std.specs.FinMap as finite
use Rattle.std.specs.FinMap.{FinMap, get-from_entries}
use Rattle.std.specs.Ordering.{nat_cmp}
use Rattle.lay_layouts.specs.declared.slot.CellSlot.{CellSlot}
use Rattle.lay_layouts.proofs.symbol_map.SymbolMap.get.Goals as goal

pub returns : goal.returns
returns c =
    c.copied.ensures ∙ c.get.ensures ∙ sym (get-from_entries nat_cmp_total c.self.inside.slots c.args.number)
    ∙ ap (λ (m : FinMap nat_cmp CellSlot). finite.get m c.args.number) c.self.view_is

use Rattle.std.proofs.Common.{◌≡◌, ◌∙◌, ℕ, IfSome, List, Option, ap, subst, sym}
use Rattle.std.specs.Cmp.{nat_cmp_total}
use Rattle.std.specs.FinMap.{FinMap, nat_cmp-IsAntisymmetric}
use Rattle.std.specs.Ordering.{nat_cmp}
use Rattle.lay_layouts.specs.declared.slot.CellSlot.{CellSlot}
use Rattle.lay_layouts.specs.Layout.{put_all, symbols_of}
use Rattle.lay_layouts.specs.SlotOrder.{in_slot_order}
use Rattle.lay_layouts.proofs.PutLemmas.{put_all-written}
use Rattle.lay_layouts.proofs.symbol_map.SymbolMap.with.Goals as goal
use Rattle.lay_layouts.proofs.symbol_map.SymbolMap.with.Goals.{in-Some, in-None+in_ok-cells-in-None}

pub returns : goal.returns
returns c =
    ap symbols_of c.in_ok-slots.ensures.entries
    ∙ put_all-written nat_cmp_total nat_cmp-IsAntisymmetric c.self.inside.slots c.args.writes.now
    ∙ ap (λ (m : FinMap nat_cmp CellSlot). put_all m c.args.writes.now) c.self.view_is

-- the numbers are those that were added, or made anew
pub invariant_of-result : goal.invariant_of-result
invariant_of-result c =
    elim c.match-branch-3.branch [
      | in-Some w ↦
          w.cells-is
          ∙ subst (λ (o : Option (List ℕ)). IfSome o (λ cells. cells ≡ in_slot_order (put_all c.args.self.now c.args.writes.now)))
          w.in-Some.is c.in_ok-cells.ensures
          ∙ ap in_slot_order (sym (returns c))
      | in-None+in_ok-cells-in-None w ↦ w.cells-is ∙ w.in_ok-cells-in-None.ensures
    ]

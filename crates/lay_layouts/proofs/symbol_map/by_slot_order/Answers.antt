use Rattle.std.proofs.Common.{◌≡◌, ◌∙◌, ℕ, List, [], ap, map, rules, sym}
use Rattle.std.specs.Cmp.{nat_cmp_total}
use Rattle.std.specs.FinMap.{entries, entries_sorted, from_entries}
use Rattle.std.specs.Ordering.{nat_cmp}
use Rattle.lay_point.proofs.BoolLaws.{true_by_T}
use Rattle.lay_layouts.specs.declared.slot.CellSlot.{CellSlot}
use Rattle.lay_layouts.specs.Layout.{symbols_of}
use Rattle.lay_layouts.specs.SlotOrder.{Standing, standing_cmp, standing_of}
use Rattle.lay_layouts.proofs.DistinctLemmas.{AreDistinct, inserted, inserted-empty}
use Rattle.lay_layouts.proofs.MapLemmas.{entries_again}
use Rattle.lay_layouts.proofs.SlotLemmas.{sorted-distinct, standings_exact, standings_total}
use Rattle.lay_layouts.proofs.SymbolLemmas.{standings-distinct}
use Rattle.lay_layouts.proofs.symbol_map.by_slot_order.Goals as goal

-- none is left
pub returns : goal.returns
returns c =
    let symbols = symbols_of c.args.slots.now in
    let es = entries symbols in
    let read : c.into_iter-number-iterator.result ≡ c.args.slots.now = search rules in
    let all : c.into_iter-number-iterator.result ≡ es =
    read ∙ sym (entries_again nat_cmp nat_cmp_total c.args.slots.now c.iter-number-items.ensures.sorted) in
    let distinct : AreDistinct nat_cmp es = sorted-distinct nat_cmp es (true_by_T _ (entries_sorted symbols)) in
    let none : c.new-standings.result.entries ≡ [] = search rules in
    sym (ap (λ (xs : List (ℕ × CellSlot)). inserted (from_entries {R = standing_cmp} c.loop-number.standings.entries) (map standing_of xs))
    c.in-None.ensures.steps.0)
    ∙ c.loop-number.invariant
    ∙ ap (λ (xs : List (ℕ × CellSlot)). inserted (from_entries {R = standing_cmp} c.new-standings.result.entries) (map standing_of xs)) all
    ∙ ap (λ (fs : List (Standing × ℕ)). inserted (from_entries {R = standing_cmp} fs) (map standing_of es)) none
    ∙ inserted-empty standings_total standings_exact (map standing_of es) (standings-distinct symbols es distinct)

use Rattle.std.proofs.Common.{◌≡◌, ◌∙◌, ◌++◌, ◌∷◌, ℕ, List, [], ap, append_assoc, map, nat_eq, rules, subst, sym}
use Rattle.std.specs.FinMap.{FinMap, entries}
use Rattle.std.specs.List.{IsDistinct}
use Rattle.lay_cells.specs.Symbols.{with_symbol}
use Rattle.lay_layouts.specs.Layout.{symbols_of}
use Rattle.lay_layouts.specs.SlotOrder.{Standing, in_slot_order, standing_cmp}
use Rattle.lay_layouts.proofs.MapLemmas.{entries_again}
use Rattle.lay_layouts.proofs.SlotLemmas.{standings_total}
use Rattle.lay_layouts.proofs.SymbolLemmas.{in_slot_order-distinct, with_symbol-new}
use Rattle.lay_layouts.proofs.symbol_map.in_slot_order.Goals as goal

pub loop-number-init : goal.loop-number-init
unfolding in_slot_order
loop-number-init c =
    let none : c.new-cells.result ≡ [] = c.new-cells.ensures in
    let read : c.into_iter-number-iterator.result ≡ c.in_ok-standings.standings.entries = search rules in
    ap (λ (cells : List ℕ). cells ++ map (λ (e : Standing × ℕ). e.1) c.into_iter-number-iterator.result) none
    ∙ ap (map (λ (e : Standing × ℕ). e.1)) (read
    ∙ sym (entries_again standing_cmp standings_total c.in_ok-standings.standings.entries c.iter-number-items.ensures.ordered))
    ∙ ap (λ (m : FinMap standing_cmp ℕ). map (λ (e : Standing × ℕ). e.1) (entries m)) c.in_ok-standings.ensures

-- the next number is new, and stands behind the others
pub loop-number-preserved : goal.loop-number-preserved
loop-number-preserved c =
    let n : ℕ = c.in-Some.number.now in
    let cells : List ℕ = c.loop-number.cells in
    let rest : List ℕ = map (λ (e : Standing × ℕ). e.1) c.next.new.self in
    let left : c.loop-number.number-iterator ≡ (c.in-Some.field-0-0.now, c.in-Some.number.now) ∷ c.next.new.self = search rules in
    let whole : cells ++ n ∷ rest ≡ in_slot_order (symbols_of c.args.slots.now) =
    sym (ap (λ (es : List (Standing × ℕ)). cells ++ map (λ (e : Standing × ℕ). e.1) es) left) ∙ c.loop-number.invariant in
    let distinct : IsDistinct nat_eq (cells ++ n ∷ rest) =
    subst (λ (ns : List ℕ). IsDistinct nat_eq ns) (sym whole) (in_slot_order-distinct (symbols_of c.args.slots.now)) in
    let added : c.add.new.self ≡ with_symbol cells n = c.in_ok-add.ensures.ok in
    ap (λ (ns : List ℕ). ns ++ rest) (added ∙ with_symbol-new cells n rest distinct) ∙ append_assoc cells (n ∷ []) rest ∙ whole

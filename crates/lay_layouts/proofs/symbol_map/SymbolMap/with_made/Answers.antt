use Rattle.std.proofs.Common.{◌≡◌, ◌∙◌, ◌+◌, ◌∷◌, ◌&&◌, ℕ, true, List, [], Some, None, ap, drop, get_or, is_none, rules, subst, sym}
use Rattle.std.proofs.Math.ListN.{drop_of_length-le}
use Rattle.std.proofs.lemmas.List.{drop_more}
use Rattle.std.specs.FinMap as finite
use Rattle.lay_cells.specs.Symbols.{with_symbol}
use Rattle.lay_layouts.specs.Layout.{SymbolWrite, put_all}
use Rattle.lay_layouts.specs.SlotOrder.{in_slot_order, is_behind, is_made}
use Rattle.lay_layouts.proofs.MadeLemmas.{IsGrown, grown, start}
use Rattle.lay_layouts.proofs.symbol_map.SymbolMap.with_made.Goals as goal

pub loop-number-init : goal.loop-number-init
loop-number-init c =
    start c.args.self.now c.args.writes.now c.in_ok-cells.cells c.last_made-last.result
    (c.in_ok-cells.ensures.cases ∙ c.self.invariant ∙ ap in_slot_order c.self.view_is) c.last_made-last.ensures

-- one more is made
pub loop-number-preserved : goal.loop-number-preserved
loop-number-preserved c =
    let old = c.args.self.now in
    let whole = put_all c.args.self.now c.args.writes.now in
    let write : SymbolWrite = get_or c.args.writes.now c.loop-number.number-index (0, None) in
    let left : List SymbolWrite = drop (c.loop-number.number-index + 1) c.args.writes.now in
    let so_far : IsGrown old (write ∷ left) whole c.loop-number.cells c.loop-number.last =
    subst (λ (ws : List SymbolWrite). IsGrown old ws whole c.loop-number.cells c.loop-number.last)
    (drop_more c.args.writes.now c.loop-number.number-index (0, None) c.loop-number-test.true) c.loop-number.invariant in
    let test : (is_made write.1 && (is_behind c.loop-number.last write.0 && is_none (finite.get old write.0))) ≡ true = search rules in
    let added : c.add.new.self ≡ with_symbol c.loop-number.cells write.0 = c.in_ok-add.ensures.ok in
    subst (λ (ns : List ℕ). IsGrown old left whole ns (Some write.0)) (sym added)
    (grown old left whole c.loop-number.cells c.loop-number.last write.0 write.1 so_far test)

-- no write is left
pub returns : goal.returns
returns c =
    let left : drop c.loop-number.number-index c.args.writes.now ≡ [] = drop_of_length-le c.args.writes.now c.loop-number-test.false in
    c.loop-number.invariant.ordered
    ∙ ap in_slot_order (sym (ap (put_all c.loop-number.invariant.now) left) ∙ c.loop-number.invariant.rest)

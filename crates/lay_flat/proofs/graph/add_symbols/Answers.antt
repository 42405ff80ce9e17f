use Rattle.std.proofs.Common.{◌≡◌, ◌++◌, ◌<◌, Some, None, ap, arith, map, rules, subst, sym, ◌∙◌, List, ℕ, true}
use Rattle.std.specs.Prelude.{slice_get}
use Rattle.std.proofs.lemmas.Option.{slice_get_within}
use Rattle.lay_cells.specs.declared.cell_id.CellId.TheVariants.{Symbol}
use Rattle.lay_cells.specs.Symbols.{has_symbol}
use Rattle.lay_cells.specs.Walks.{Calls}
use Rattle.lay_layouts.specs.Layout.{Layout}
use Rattle.lay_layouts.specs.Lent.{LentCall, calls_in}
use Rattle.lay_items.specs.Graphs.{graph_calls, in_graph, symbol_calls}
use Rattle.lay_items.proofs.Entering.{calls_one, has_at, take_whole}
use Rattle.lay_flat.proofs.graph.add_symbols.Goals as goal

pub add_calls-requires-clause-cell : goal.add_calls-requires-clause-cell
add_calls-requires-clause-cell c =
    let at : slice_get c.args.symbols.now c.loop-number.index ≡ Some c.in-Some.number = search rules in
    subst (λ (s : List ℕ). has_symbol s c.in-Some.number ≡ true) (sym c.loop-number.invariant.same)
    (has_at c.args.symbols.now c.loop-number.index c.in-Some.number at)

pub overflow_add-index : goal.overflow_add-index
overflow_add-index c =
    let at : slice_get c.args.symbols.now c.loop-number.index ≡ Some c.in-Some.number = search rules in
    let less = slice_get_within c.args.symbols.now c.loop-number.index c.in-Some.number at in
    let within : c.loop-number.index < c.len-len.result = omega (arith, less, c.len-len.ensures.value) in
    search (rules, within)

pub loop-number-smaller : goal.loop-number-smaller
loop-number-smaller c =
    let at : slice_get c.args.symbols.now c.loop-number.index ≡ Some c.in-Some.number = search rules in
    let less = slice_get_within c.args.symbols.now c.loop-number.index c.in-Some.number at in
    omega (arith, less)

pub loop-number-preserved : goal.loop-number-preserved
loop-number-preserved c =
    let at : slice_get c.args.symbols.now c.loop-number.index ≡ Some c.in-Some.number = search rules in
    let less = slice_get_within c.args.symbols.now c.loop-number.index c.in-Some.number at in
    let symbols : c.add_calls.new.graph.symbols ≡ c.loop-number.graph.symbols = ap (λ (g : Calls). g.symbols) c.in_ok-add_calls.ensures in
    let read : c.as_slice.result.now ≡ calls_in c.args.lists.now (Symbol c.in-Some.number) =
    c.as_slice.ensures ∙ c.in_ok-list.ensures.list
    ∙ ap (λ (l : Layout). calls_in l (Symbol c.in-Some.number)) c.loop-number.invariant.layout in
    let calls : c.add_calls.new.graph.calls ≡ c.loop-number.graph.calls ++ graph_calls c.args.lists.now (Symbol c.in-Some.number) =
    ap (λ (g : Calls). g.calls) c.in_ok-add_calls.ensures
    ∙ ap (λ (cs : List LentCall). c.loop-number.graph.calls ++ map (in_graph (Symbol c.in-Some.number)) cs) read in
    record {
      layout = c.in_ok-list.ensures.same ∙ c.loop-number.invariant.layout;
      within = omega (arith, less);
      same = symbols ∙ c.loop-number.invariant.same;
      calls = calls_one c.args.lists.now c.args.graph.now.calls c.loop-number.graph.calls c.add_calls.new.graph.calls c.args.symbols.now
          c.loop-number.index c.in-Some.number at c.loop-number.invariant.calls calls;
    }

pub returns-clause-graph : goal.returns-clause-graph
returns-clause-graph c =
    let none : slice_get c.args.symbols.now c.loop-number.index ≡ None = search rules in
    let whole = take_whole c.args.symbols.now c.loop-number.index c.loop-number.invariant.within none in
    let symbols : c.loop-number.graph.symbols ≡ c.args.graph.now.symbols = c.loop-number.invariant.same ∙ sym c.requires.same in
    let calls : c.loop-number.graph.calls ≡ c.args.graph.now.calls ++ symbol_calls c.args.lists.now c.args.symbols.now =
    c.loop-number.invariant.calls ∙ ap (λ (s : List ℕ). c.args.graph.now.calls ++ symbol_calls c.args.lists.now s) whole in
    (λ i. record { symbols = symbols i; calls = calls i })

use Rattle.std.proofs.Common.{◌≡◌, ◌∙◌, ◌<◌, Some, None, ap, arith, length, rules}
use Rattle.std.specs.Prelude.{slice_get}
use Rattle.lay_cells.specs.declared.cell_id.CellId.TheVariants.{Symbol}
use Rattle.lay_layouts.specs.Layout.{Layout}
use Rattle.lay_layouts.specs.Lent.{calls_in}
use Rattle.lay_layouts.specs.SlotOrder.{in_slot_order}
use Rattle.lay_items.specs.Graphs.{with_called}
use Rattle.lay_items.proofs.Entering.{first_found, found_all, found_few, found_more}
use Rattle.lay_flat.proofs.graph.symbols_from.Goals as goal

pub loop-number-init : goal.loop-number-init
loop-number-init c = record {
  layout = c.in_ok-symbols.ensures.same;
  found = first_found c.args.lists.now c.version.ensures.sound c.args.cell c.requires c.in_ok-symbols.symbols
      c.in_ok-symbols.ensures.symbols;
}

pub overflow_add-index : goal.overflow_add-index
overflow_add-index c =
    let at : slice_get c.loop-number.symbols c.loop-number.index ≡ Some c.in-Some.number = search rules in
    let f = c.loop-number.invariant.found in
    let less = found_few c.args.lists.now c.loop-number.symbols c.loop-number.index c.in-Some.number f.known f.distinct at in
    let most : c.len-most.result ≡ length (in_slot_order c.args.lists.now.symbols) =
    c.len-most.ensures.value ∙ ap length c.cells.ensures
    ∙ ap (λ (l : Layout). length (in_slot_order l.symbols)) c.version.ensures.value in
    let within : c.loop-number.index < c.len-most.result = omega (arith, less, most) in
    search (rules, within)

pub loop-number-smaller : goal.loop-number-smaller
loop-number-smaller c =
    let at : slice_get c.loop-number.symbols c.loop-number.index ≡ Some c.in-Some.number = search rules in
    let f = c.loop-number.invariant.found in
    let less = found_few c.args.lists.now c.loop-number.symbols c.loop-number.index c.in-Some.number f.known f.distinct at in
    omega (arith, less)

pub loop-number-preserved : goal.loop-number-preserved
loop-number-preserved c =
    let at : slice_get c.loop-number.symbols c.loop-number.index ≡ Some c.in-Some.number = search rules in
    let i = c.loop-number.invariant in
    let read : c.as_slice.result.now ≡ calls_in c.args.lists.now (Symbol c.in-Some.number) =
    c.as_slice.ensures ∙ c.in_ok-list.ensures.list ∙ ap (λ (l : Layout). calls_in l (Symbol c.in-Some.number)) i.layout in
    let new : c.add_called.new.symbols ≡ with_called c.loop-number.symbols (calls_in c.args.lists.now (Symbol c.in-Some.number)) =
    c.in_ok-add_called.ensures ∙ ap (with_called c.loop-number.symbols) read in
    record {
      layout = c.in_ok-list.ensures.same ∙ i.layout;
      found = found_more c.args.lists.now c.version.ensures.sound c.args.cell c.loop-number.symbols c.loop-number.index
          c.in-Some.number i.found at c.add_called.new.symbols new;
    }

pub returns-clause-symbols : goal.returns-clause-symbols
returns-clause-symbols c =
    let none : slice_get c.loop-number.symbols c.loop-number.index ≡ None = search rules in
    found_all c.args.lists.now c.args.cell c.loop-number.symbols c.loop-number.index c.loop-number.invariant.found none

use Rattle.std.proofs.Common.{◌≡◌, ◌+◌, Some, arith, rules, sym, ◌∙◌, ap, slice_get, drop, []}
use Rattle.std.proofs.Math.ListN.{drop_of_length-le}
use Rattle.std.proofs.lemmas.Option.{get_or_from_slice_get}
use Rattle.std.specs.Cmp.{nat_cmp_total}
use Rattle.std.specs.FinMap.{nat_cmp-IsAntisymmetric}
use Rattle.lay_layouts.specs.Layout.{symbols_of}
use Rattle.lay_layouts.specs.LayoutWith.{placed_from}
use Rattle.lay_layouts.proofs.DistinctLemmas.{inserted, inserted-empty}
use Rattle.lay_layouts.proofs.SlotLemmas.{placed-distinct, placed_more}
use Rattle.lay_layouts.proofs.parts.by_number.Goals as goal

-- the symbol at this position is inserted
pub loop-position-preserved : goal.loop-position-preserved
loop-position-preserved c =
    let place : c.in_ok-place.place ≡ c.loop-position.position + 1 = search rules in
    let found : slice_get c.args.symbols.now c.loop-position.position ≡ Some c.unwrap.result = search rules in
    let old = symbols_of c.loop-position.base.entries in
    record {
      place = place;
      rest = ap (λ m. inserted m (placed_from (c.loop-position.position + 1 + 1) (drop (c.loop-position.position + 1) c.args.symbols.now)))
          c.in_ok-insert_symbol.ensures
          ∙ placed_more old c.args.symbols.now c.loop-position.position c.unwrap.result c.in_ok-place.place _
          (omega (arith, c.loop-position-test.true, c.len-position-end.ensures.value))
          (get_or_from_slice_get c.args.symbols.now c.loop-position.position c.unwrap.result c.unwrap.result found) place
          c.loop-position.invariant.rest;
    }

-- none is left
pub returns : goal.returns
returns c =
    let left : drop c.loop-position.position c.args.symbols.now ≡ [] =
    drop_of_length-le c.args.symbols.now (omega (arith, c.loop-position-test.false, c.len-position-end.ensures.value)) in
    record {
      map = sym (ap (λ ns. inserted (symbols_of c.loop-position.base.entries) (placed_from (c.loop-position.position + 1) ns)) left)
          ∙ c.loop-position.invariant.rest
          ∙ inserted-empty nat_cmp_total nat_cmp-IsAntisymmetric (placed_from 1 c.args.symbols.now)
          (placed-distinct 1 c.args.symbols.now c.len-position-end.ensures.distinct);
      distinct = c.len-position-end.ensures.distinct;
    }

use Rattle.std.proofs.Common.{◌≡◌, ◌+◌, ◌<◌, [], Some, ◌∙◌, ◌||◌, ap, sym, arith, drop, length, nat_eq, rules, slice_get}
use Rattle.std.proofs.Math.ListN.{drop_of_length-le}
use Rattle.std.specs.BTreeMap.{is_at}
use Rattle.std.specs.List.{list_any}
use Rattle.std.specs.Ordering.{nat_cmp}
use Rattle.std.proofs.lemmas.List.{at_drop_more}
use Rattle.std.proofs.lemmas.Option.{get_or_from_slice_get}
use Rattle.live_questions.proofs.CellLemmas.{number_taken, numbers_sorted}
use Rattle.live_questions.proofs.cells.numbers_of.Goals as goal

pub loop-position-preserved : goal.loop-position-preserved
loop-position-preserved c =
    let cells = c.cells-cells.result.now in
    let i = c.loop-position.position in
    let number = c.unwrap.result in
    let within : i < length cells = omega (arith, c.loop-position-test.true, c.len-position-end.ensures.value) in
    let at : slice_get cells i ≡ Some number = search rules in
    record {
      sorted = c.in_ok-insert.ensures.ordered;
      all = λ q.
          number_taken number q _ _ (list_any (nat_eq q) (drop (i + 1) cells)) (c.in_ok-insert.ensures.updates.0 q)
          ∙ ap (λ b. b || list_any (is_at (nat_cmp q)) c.loop-position.numbers.keys)
          (ap (λ k. nat_eq q k || list_any (nat_eq q) (drop (i + 1) cells)) (sym (get_or_from_slice_get cells i number number at))
          ∙ sym (at_drop_more (list_any (nat_eq q)) cells i number within))
          ∙ c.loop-position.invariant.all q;
    }

-- none is left
pub returns : goal.returns
returns c =
    let cells = c.cells-cells.result.now in
    let none : drop c.loop-position.position cells ≡ [] =
    drop_of_length-le cells (omega (arith, c.loop-position-test.false, c.len-position-end.ensures.value)) in
    numbers_sorted c.args.layout.now.symbols c.loop-position.numbers.keys c.loop-position.invariant.sorted (λ q.
    ap (λ ns. list_any (nat_eq q) ns || list_any (is_at (nat_cmp q)) c.loop-position.numbers.keys) (sym none)
    ∙ c.loop-position.invariant.all q ∙ ap (list_any (nat_eq q)) c.cells-cells.ensures)

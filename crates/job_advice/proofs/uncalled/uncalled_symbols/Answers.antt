use Rattle.std.proofs.Common.{◌≡◌, ◌∙◌, Some, ap, append-nil, arith, filter, not, rules, slice_get, take_all}
use Rattle.std.proofs.lemmas.List.Elements.{filter_more}
use Rattle.std.proofs.lemmas.Option.{get_or_from_slice_get, slice_get_within}
use Rattle.job_advice.specs.Uncalled.{is_called}
use Rattle.job_advice.proofs.uncalled.uncalled_symbols.Goals.{else-is_none, then-is_none+in_ok-push}
use Rattle.job_advice.proofs.uncalled.uncalled_symbols.Goals as goal

-- the number at the place is there, where none calls it
pub loop-place-preserved : goal.loop-place-preserved
loop-place-preserved c =
    let cells = c.cells-cells.result.now in
    let place = c.loop-place.place in
    let number = c.unwrap-number.result in
    let at : slice_get cells place ≡ Some number = search rules in
    let same = get_or_from_slice_get cells place number number at in
    let more = filter_more (λ n. not (is_called c.args.layout.now n)) cells place number (slice_get_within cells place number at) in
    let is = c.in_ok-called.ensures number in
    elim c.if-is_none.branch [
      | then-is_none+in_ok-push w ↦ rw w.uncalled-is (grind (arith, more, same, is))
      | else-is_none w ↦ rw w.uncalled-is (grind (arith, more, same, is, append-nil))
    ]

-- the place is behind the last
pub returns : goal.returns
returns c =
    let cells = c.cells-cells.result.now in
    let whole = take_all c.loop-place.place cells (omega (arith, c.loop-place-test.false, c.len-place-end.ensures.value)) in
    c.loop-place.invariant
    ∙ ap (filter (λ number. not (is_called c.args.layout.now number))) (whole ∙ c.cells-cells.ensures)

use Rattle.std.proofs.Common.{◌≡◌, ◌∙◌, List, ℕ, Some, ap, rules, slice_get}
use Rattle.lay_cells.specs.Symbols.{has_symbol}
use Rattle.job_advice.proofs.CalledLemmas.{called_more}
use Rattle.job_advice.proofs.uncalled.called_symbols.Goals as goal

pub loop-place-preserved : goal.loop-place-preserved
loop-place-preserved c =
    let cells = c.cells-cells.result.now in
    let at : slice_get cells c.loop-place.place ≡ Some c.unwrap.result = search rules in
    λ n.
    ap (λ (s : List ℕ). has_symbol s n) c.in_ok-add_called.ensures
    ∙ called_more c.args.layout.now cells c.loop-place.place c.unwrap.result at c.loop-place.called n (c.loop-place.invariant n)

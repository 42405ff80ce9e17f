use Rattle.std.proofs.Common.{◌≡◌, ◌∙◌, ◌<◌, [], ℕ, List, length, get_or, arith, sym, subst}
use Rattle.std.proofs.lemmas.List.{get_or_default}
use Rattle.lay_cells.specs.Graph.{row, rows_of}
use Rattle.lay_cells.specs.Tallies.{IsSum, IsTally}
use Rattle.lay_cells.proofs.GraphLemmas.{row_read}
use Rattle.lay_cells.proofs.TallyLemmas.{sum-few, sum-next, sum-none, tally-few, tally-shallow}
use Rattle.lay_cells.proofs.tally.tally_of.Goals as goal

-- before the first target
pub loop-target-init : goal.loop-target-init
loop-target-init c =
    subst (λ t. IsSum (rows_of c.args.rows.now.items) [] t) (sym c.uncalled-sum.ensures) (sum-none (rows_of c.args.rows.now.items))

pub with-sum-requires-clause-depth : goal.with-sum-requires-clause-depth
with-sum-requires-clause-depth c =
    let rows = rows_of c.args.rows.now.items in
    let is : IsTally rows _ c.in_ok-tally_at.field-0 = c.requires.sound _ _ (sym c.tally_at.ensures ∙ c.in_ok-tally_at.was) in
    tally-shallow rows _ _ c.requires.shallow is

pub with-sum-requires-clause-walks : goal.with-sum-requires-clause-walks
with-sum-requires-clause-walks c =
    let rows = rows_of c.args.rows.now.items in
    let is : IsTally rows _ c.in_ok-tally_at.field-0 = c.requires.sound _ _ (sym c.tally_at.ensures ∙ c.in_ok-tally_at.was) in
    omega (arith, tally-few rows _ _ is, sum-few rows _ _ c.loop-target.invariant)

pub loop-target-preserved : goal.loop-target-preserved
loop-target-preserved c =
    let rows = rows_of c.args.rows.now.items in
    let qs = row rows c.args.position in
    let i = c.loop-target.target-index in
    let slice : c.as_slice-target-items.result.now ≡ qs =
    c.as_slice-target-items.ensures.value ∙ row_read c.args.rows.now.items c.args.position c.index.result.now c.requires.position
    c.index.ensures in
    let target : ℕ = get_or c.as_slice-target-items.result.now i 0 in
    let is : IsTally rows target c.in_ok-tally_at.field-0 = c.requires.sound target _ (sym c.tally_at.ensures ∙ c.in_ok-tally_at.was) in
    sum-next rows qs i target c.loop-target.sum c.in_ok-tally_at.field-0 c.with-sum.result
    (subst (λ (xs : List ℕ). i < length xs) slice c.loop-target-test.true)
    (subst (λ (xs : List ℕ). target ≡ get_or xs i target) slice
    (get_or_default c.as_slice-target-items.result.now i 0 target c.loop-target-test.true))
    c.loop-target.invariant is c.with-sum.ensures

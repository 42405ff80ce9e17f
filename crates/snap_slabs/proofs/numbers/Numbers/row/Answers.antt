use Rattle.std.proofs.Common.{◌≡◌, ◌∙◌, ◌+◌, arith, subst, length, Contains, ◌<◌}
use Rattle.snap_slabs.proofs.Stretches.{in_whole}
use Rattle.std.specs.Prelude.{slice_index_or, slice_range}
use Rattle.std.proofs.lemmas.List.{get_or_default}
use Rattle.snap_slabs.specs.Runs.{AreEnds, AreByRows, IsChainRun}
use Rattle.snap_slabs.proofs.RowRuns.{row_is_run}
use Rattle.snap_slabs.proofs.numbers.Numbers.row.Goals as goal

pub returns-clause-run : goal.returns-clause-run
returns-clause-run c = λ s side level.
    let hot = c.args.self.now in
    let rows = c.self.inside.rows.items in
    let places = c.self.inside.places.items in
    let n = subst (λ l. AreByRows l rows places) c.self.view_is c.self.invariant in
    let a : c.index-a.result.now ≡ slice_index_or places c.args.from 0 =
    c.index-a.ensures ∙ get_or_default places c.args.from _ 0 (omega (arith, n.as_many, c.requires.from)) in
    let b : c.index-b.result.now ≡ slice_index_or places c.args.to 0 =
    c.index-b.ensures ∙ get_or_default places c.args.to _ 0 (omega (arith, n.as_many, c.requires.to)) in
    let first = c.ends-first.result.0 in
    let last = c.ends-first.result.1 in
    let ends : AreEnds (slice_index_or places c.args.from 0) (slice_index_or places c.args.to 0) first last =
    coe 0 1 (t. AreEnds (a t) (b t) first last) c.ends-first.ensures in
    coe 1 0 (t. IsChainRun hot s (slice_range (c.deref.ensures.value t) first (last + 1)))
    (row_is_run hot rows places n s c.args.from c.args.to side first last ends level)

pub returns-clause-inside : goal.returns-clause-inside
returns-clause-inside c = λ k m.
    let rows = c.self.inside.rows.items in
    let first = c.ends-first.result.0 in
    let last = c.ends-first.result.1 in
    let m' = subst (λ l. Contains (slice_range l first (last + 1)) k) c.deref.ensures.value m in
    subst (λ l. k < length l) c.self.view_is (c.self.invariant.inside k (in_whole rows first (last + 1) k m'))

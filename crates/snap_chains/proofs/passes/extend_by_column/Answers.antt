use Rattle.std.proofs.Common.{◌≡◌, suc, ◌+◌, ◌-◌, [], ◌∷◌, ◌++◌, sym, ap, ◌∙◌, append-nil, append_assoc, arith}
use Rattle.std.specs.List.{range_with_len}
use Rattle.snap_chains.specs.Passes.{pass_between, passes_by}
use Rattle.snap_chains.proofs.PassLemmas.{column_more}
use Rattle.snap_chains.proofs.passes.extend_by_column.Goals as goal

pub loop-number-init : goal.loop-number-init
loop-number-init c =
    let old = c.args.passes.now.items in
    let one : 1 ≡ c.args.first + 1 - c.args.first = omega arith in
    sym (append-nil old) ∙ ap (λ n. old ++ passes_by c.args.owner (range_with_len c.args.first n)) one

pub loop-number-preserved : goal.loop-number-preserved
loop-number-preserved c =
    let old = c.args.passes.now.items in
    let o = c.args.owner in
    let a = c.args.first in
    let n = c.loop-number.number in
    let m = n - a in
    let here : n ≡ a + m = omega (arith, c.loop-number.auto.number) in
    let so_far : n + 1 - a ≡ suc m = omega (arith, c.loop-number.auto.number) in
    let more : suc (suc m) ≡ n + 1 + 1 - a = omega (arith, c.loop-number.auto.number) in
    c.in_ok-push.ensures.items ∙ (λ i. c.loop-number.invariant i ++ c.pass_between.ensures i ∷ [])
    ∙ append_assoc old (passes_by o (range_with_len a (n + 1 - a))) _
    ∙ ap (λ k. old ++ (passes_by o (range_with_len a k) ++ pass_between o (n, n + 1) ∷ [])) so_far
    ∙ ap (λ l. old ++ l) (sym (column_more o a m n (n + 1) here (λ _. n + 1)))
    ∙ ap (λ k. old ++ passes_by o (range_with_len a k)) more

pub returns : goal.returns
returns c =
    let last : c.loop-number.number ≡ c.args.last = omega (arith, c.loop-number-test.false, c.loop-number.auto.number-end c.requires) in
    c.loop-number.invariant
    ∙ ap (λ k. c.args.passes.now.items ++ passes_by c.args.owner (range_with_len c.args.first (k + 1 - c.args.first))) last

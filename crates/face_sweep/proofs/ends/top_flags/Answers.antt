use Rattle.std.proofs.Common.{◌<◌, ◌+◌, ◌∙◌, ℕ, true, length, set, ap, subst, sym, rules}
use Rattle.face_sweep.proofs.EndLemmas.{AreTopFlagsTo, any_span, one_more_flag, top_inside}
use Rattle.face_sweep.proofs.ends.top_flags.Goals as goal

pub index_mut-requires : goal.index_mut-requires
index_mut-requires c =
    let flags = c.loop-number.flags.items in
    let inside : c.upward_span-high.result.1 < length flags =
    subst (λ (p : ℕ × ℕ). p.1 < length flags) (sym c.upward_span-high.ensures)
    (top_inside c.args.edges.now c.args.order.now c.requires c.spans-spans.result.now c.spans-spans.ensures c.loop-number.number
    c.index-edges-number.result flags c.loop-number-test.true c.index-edges-number.is c.loop-number.invariant.len) in
    search (rules, inside)

pub loop-number-preserved : goal.loop-number-preserved
loop-number-preserved c =
    let order = c.args.order.now in
    let edges = c.args.edges.now in
    let spans = c.spans-spans.result.now in
    let same = c.spans-spans.ensures in
    let n = c.loop-number.number in
    let e = c.index-edges-number.result in
    let is = c.index-edges-number.is in
    let flags = c.loop-number.flags.items in
    let less = c.loop-number-test.true in
    let h = c.loop-number.invariant in
    let both : n < length spans = subst (λ k. n < k) (sym (ap length same ∙ c.requires.as_many)) less in
    let inside = top_inside edges order c.requires spans same n e flags less is h.len in
    subst (λ (p : ℕ × ℕ). AreTopFlagsTo order.0 edges spans (n + 1) (set flags p.1 true)) (sym c.upward_span-high.ensures)
    (one_more_flag order.0 edges spans n flags e any_span less both is inside h)

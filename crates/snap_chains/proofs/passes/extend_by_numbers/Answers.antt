use Rattle.std.proofs.Common.{◌≡◌, [], ◌∷◌, ◌++◌, get_or, take, rules, sym, ap, ◌∙◌, append-nil, append_assoc}
use Rattle.std.proofs.lemmas.List.{take_all, take_more}
use Rattle.lay_point.specs.Rising.{last}
use Rattle.snap_chains.proofs.PathLemmas.{last-push}
use Rattle.snap_chains.specs.Passes.{pass_between, passes_by}
use Rattle.snap_chains.proofs.PassLemmas.{passes_by-push}
use Rattle.snap_chains.proofs.passes.extend_by_numbers.Goals as goal

pub loop-to-init : goal.loop-to-init
loop-to-init c = λ p e.
    let whole : c.args.numbers.now ≡ c.in-Some.first.now ∷ c.in-Some.later.now = search rules in
    let same : c.in-Some.first.now ∷ c.in-Some.later.now ≡ p ∷ c.in-Some.later.now = sym whole ∙ e in
    let first : c.in-Some.first.now ≡ p = cc in
    (sym (append-nil c.args.passes.now.items), first)

pub loop-to-preserved : goal.loop-to-preserved
loop-to-preserved c = λ p e.
    let later = c.in-Some.later.now in
    let owner = c.args.owner in
    let old = c.args.passes.now.items in
    let so_far = take c.loop-to.to-index later in
    let next = get_or later c.loop-to.to-index 0 in
    let more = take_more later c.loop-to.to-index 0 c.loop-to-test.true in
    let was = c.loop-to.invariant p e in
    let pass : c.pass_between.result ≡ pass_between owner (last p so_far, next) =
    c.pass_between.ensures ∙ ap (λ v. pass_between owner (v, next)) was.1 in (
      c.in_ok-push.ensures.items ∙ (λ i. was.0 i ++ pass i ∷ [])
          ∙ append_assoc old (passes_by owner (p ∷ so_far)) _
          ∙ ap (λ l. old ++ l) (sym (passes_by-push owner p so_far next))
          ∙ ap (λ l. old ++ passes_by owner (p ∷ l)) (sym more),
      sym (last-push p so_far next) ∙ ap (last p) (sym more),
    )

pub returns : goal.returns
returns c =
    let first = c.in-Some.first.now in
    let later = c.in-Some.later.now in
    let whole : c.args.numbers.now ≡ first ∷ later = search rules in
    let all = take_all c.loop-to.to-index later (search rules) in
    (c.loop-to.invariant first whole).0 ∙ ap (λ l. c.args.passes.now.items ++ passes_by c.args.owner (first ∷ l)) all
    ∙ ap (λ l. c.args.passes.now.items ++ passes_by c.args.owner l) (sym whole)

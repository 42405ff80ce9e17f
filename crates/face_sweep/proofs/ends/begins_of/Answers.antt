use Rattle.std.proofs.Common.{arith, ◌≡◌, ◌<◌, ◌++◌, ◌∙◌, [], ◌∷◌, true, length, get_or, refl, sym, ap, subst}
use Rattle.std.specs.List.{zip}
use Rattle.std.proofs.lemmas.List.{get_or_default, take_all}
use Rattle.std.proofs.lemmas.Slice.Zip.{get_or-zip}
use Rattle.lay_point.proofs.EdgeOrder.{one_more_lesser}
use Rattle.face_rows.specs.Picked.{picked}
use Rattle.face_rows.proofs.PickedLemmas.{picked_more}
use Rattle.face_sweep.specs.Ends.{begin_of}
use Rattle.face_sweep.proofs.EndLemmas.{any_span, zip_length}
use Rattle.face_sweep.proofs.ends.begins_of.Goals as goal

pub loop-number-preserved : goal.loop-number-preserved
loop-number-preserved c =
    let edges = c.args.edges.now in
    let spans = c.args.spans.now in
    let n = c.loop-number.number in
    let e = c.index-edges-number.result in
    let s = get_or spans n any_span in
    let old = c.loop-number.begins.items in
    let less = c.loop-number-test.true in
    let less_s : n < length spans = subst (λ k. n < k) (sym c.requires) less in
    let inside : n < length (zip edges spans) = subst (λ k. n < k) (sym (zip_length edges spans c.requires)) less in
    let at : (e, s) ≡ get_or (zip edges spans) n (e, s) =
    (λ i. (c.index-edges-number.is i, get_or_default spans n any_span s less_s i)) ∙ sym (get_or-zip edges spans n (e, s) less less_s) in
    let pushed : c.push.new.self.items ≡ old ++ begin_of n (e, s) ∷ [] =
    c.in_ok-push.ensures.items ∙ ap (λ b. old ++ b ∷ []) c.new.ensures.value in (
      pushed ∙ ap (λ bs. bs ++ begin_of n (e, s) ∷ []) c.loop-number.invariant.0
          ∙ sym (picked_more (λ p. true) begin_of (zip edges spans) n (e, s) inside at refl),
      one_more_lesser edges n e less c.index-edges-number.is c.new.ensures.lesser c.loop-number.invariant.1,
    )

pub returns-clause-begins : goal.returns-clause-begins
returns-clause-begins c =
    let ps = zip c.args.edges.now c.args.spans.now in
    c.loop-number.invariant.0 ∙ ap (picked (λ p. true) begin_of 0) (take_all c.loop-number.number ps
    (omega (arith, zip_length c.args.edges.now c.args.spans.now c.requires, c.loop-number-test.false)))

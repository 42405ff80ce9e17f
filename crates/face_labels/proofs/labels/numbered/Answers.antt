use Rattle.std.proofs.Common.{◌≡◌, ◌+◌, ◌<◌, ◌++◌, [], ◌∷◌, Bool, true, false, get_or, length, take, sym, ap, ◌∙◌, arith, rules}
use Rattle.std.specs.List.{zip}
use Rattle.std.proofs.lemmas.List.{get_or_default, take_all}
use Rattle.std.proofs.lemmas.Slice.Zip.{get_or-zip, length-zip}
use Rattle.lay_point.specs.declared.point.Point.{Point}
use Rattle.face_rows.specs.Bands.{begins_in}
use Rattle.face_rows.proofs.PickedLemmas.{picked_more, picked_passed}
use Rattle.face_labels.proofs.WrittenLemmas.{written_labels}
use Rattle.face_labels.proofs.labels.numbered.Goals as goal
use Rattle.face_labels.proofs.labels.numbered.Goals.{then-has+in_ok-push, else-has}

pub loop-number-preserved : goal.loop-number-preserved
loop-number-preserved c =
    let edges = c.args.edges.now in
    let labels = c.args.labels.now in
    let band = c.args.band in
    let n = c.loop-number.number in
    let e = c.index-edges-number.result in
    let p : (Point × Point) × Bool = (e, get_or labels n false) in
    let old = c.loop-number.numbered.items in
    let less : n < length (zip edges labels) = omega (arith, length-zip edges labels, c.requires, c.loop-number-test.true) in
    let is : p ≡ get_or (zip edges labels) n p =
    (λ i. (
      c.index-edges-number.is i,
      get_or_default labels n false (get_or labels n false)
          (omega (arith, c.requires, c.loop-number-test.true)) i,
    ))
    ∙ sym (get_or-zip edges labels n p c.loop-number-test.true (omega (arith, c.requires, c.loop-number-test.true))) in
    let next : c.if-has.numbered.items ≡ written_labels band 0 (take (n + 1) (zip edges labels)) = elim c.if-has.branch [
      | then-has+in_ok-push w ↦
          let pushed : c.if-has.numbered.items ≡ old ++ (n, get_or labels n false) ∷ [] = search rules in
          let begins : begins_in band e ≡ true = sym c.has.ensures.value ∙ w.if-has.true in
          pushed ∙ ap (λ ss. ss ++ (n, get_or labels n false) ∷ []) c.loop-number.invariant
          ∙ sym (picked_more (λ q. begins_in band q.0) (λ k q. (k, q.1)) (zip edges labels) n p less is begins)
      | else-has w ↦
          let passed : begins_in band e ≡ false = sym c.has.ensures.value ∙ w.if-has.false in
          ap (λ v. v.items) w.numbered-is ∙ c.loop-number.invariant
          ∙ sym (picked_passed (λ q. begins_in band q.0) (λ k q. (k, q.1)) (zip edges labels) n p less is passed)
    ] in
    next

pub returns : goal.returns
returns c =
    c.loop-number.invariant
    ∙ ap (written_labels c.args.band 0) (take_all c.loop-number.number (zip c.args.edges.now c.args.labels.now)
    (omega (arith, length-zip c.args.edges.now c.args.labels.now, c.requires, c.loop-number-test.false)))

use Rattle.std.proofs.Common.{get_or, subst}
use Rattle.std.proofs.lemmas.List.{get_or_default, take_all}
use Rattle.face_rings.specs.Joining.{IsStretchOf, numbered_box}
use Rattle.face_rings.proofs.CoverLemmas.{stretch_more}
use Rattle.face_rings.proofs.JoinLemmas.{nowhere}
use Rattle.face_rings.proofs.stretch.Stretch.of.Goals as goal

pub loop-number-preserved : goal.loop-number-preserved
loop-number-preserved c =
    let boxes = c.args.boxes.now in
    let numbers = c.args.numbers.now in
    let i = c.loop-number.number-index in
    let inside = c.requires i 0 c.loop-number-test.true in
    let b = numbered_box boxes (get_or numbers i 0) in
    stretch_more boxes numbers i c.loop-number-test.true inside b (get_or_default boxes (get_or numbers i 0) nowhere b inside)
    c.loop-number.stretch c.with-stretch.result c.with-stretch.ensures c.loop-number.invariant

pub returns : goal.returns
returns c = subst (λ l. IsStretchOf c.args.boxes.now l c.loop-number.stretch)
    (take_all c.loop-number.number-index c.args.numbers.now c.loop-number-test.false) c.loop-number.invariant

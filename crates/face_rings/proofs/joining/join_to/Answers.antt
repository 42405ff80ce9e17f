use Rattle.std.proofs.Common.{◌+◌, sym, subst, ◌∙◌, List, get_or, ℕ}
use Rattle.std.proofs.lemmas.List.{get_or_default, take_all}
use Rattle.std.specs.Prelude.{Contains}
use Rattle.face_rings.specs.Joining.{numbered_box}
use Rattle.face_rings.proofs.JoinLemmas.{IsJoining, joining_skips, joining_takes, nowhere}
use Rattle.face_rings.proofs.joining.join_to.Goals as goal
use Rattle.face_rings.proofs.joining.join_to.Goals.{then-touches, else-touches}

pub loop-number-preserved : goal.loop-number-preserved
loop-number-preserved c =
    let boxes = c.args.boxes.now in
    let numbers = c.args.numbers.now in
    let i = c.loop-number.number-index in
    let n = get_or numbers i 0 in
    let b = numbered_box boxes c.args.one in
    let d = numbered_box boxes n in
    let inside = c.requires.inside i 0 c.loop-number-test.true in
    let is_b = get_or_default boxes c.args.one nowhere b c.requires.one in
    let is_d = get_or_default boxes n nowhere d inside in
    let after : List ℕ → Type 0 = λ parents. IsJoining boxes c.args.parents.now parents c.args.one numbers (i + 1) in
    elim c.if-touches.branch [
      | then-touches w ↦
          subst after (sym w.parents-is)
          (joining_takes boxes c.args.parents.now c.loop-number.parents c.args.one numbers i b d
          c.loop-number.invariant c.requires.each c.loop-number-test.true c.requires.one inside is_b
          is_d w.unite.new.parents (sym c.touches.ensures ∙ w.if-touches.true) w.unite.auto.parents
          w.unite.ensures.forest w.unite.ensures.united)
      | else-touches w ↦
          subst after (sym w.parents-is)
          (joining_skips boxes c.args.parents.now c.loop-number.parents c.args.one numbers i b d
          c.loop-number.invariant c.requires.each c.loop-number-test.true c.requires.one inside is_b
          is_d (sym c.touches.ensures ∙ w.if-touches.false))
    ]

pub returns-clause-grows : goal.returns-clause-grows
returns-clause-grows c = c.loop-number.invariant.grows

pub returns-clause-joined : goal.returns-clause-joined
returns-clause-joined c = λ k m g. c.loop-number.invariant.joined k
    (subst (λ l. Contains l k) (sym (take_all c.loop-number.number-index c.args.numbers.now c.loop-number-test.false)) m) g

use Rattle.std.proofs.Common.{◌+◌, ◌∙◌, Bool, true, List, ℕ, Vec, Global, arith, ap, inr, refl, subst, sym}
use Rattle.face_rings.specs.Joining.{numbered_box, covers}
use Rattle.face_rings.proofs.CoverLemmas.{IsPass, opened_inside, pass_covered, pass_opens}
use Rattle.face_rings.proofs.covering.join_down.Goals as goal
use Rattle.face_rings.proofs.covering.join_down.Goals.{then-is_covered_by+in_ok-take_over, else-is_covered_by+in_ok-push}

pub take_over-requires-clause-inside : goal.take_over-requires-clause-inside
take_over-requires-clause-inside c =
    opened_inside c.args.boxes.now c.args.numbers.now (λ k. true) (λ k. covers c.args.stretch (numbered_box c.args.boxes.now k))
    c.args.parents.now
    c.loop-number.parents c.loop-number.number-index c.loop-number.opened.items c.requires.inside c.loop-number.invariant

pub loop-number-preserved : goal.loop-number-preserved
loop-number-preserved c =
    let boxes = c.args.boxes.now in
    let numbers = c.args.numbers.now in
    let s = c.args.stretch in
    let i = c.loop-number.number-index in
    let now = c.loop-number.parents in
    let opened = c.loop-number.opened.items in
    let h = c.loop-number.invariant in
    let lt = c.loop-number-test.true in
    let from : ℕ → Bool = (λ k. true) in
    let to : ℕ → Bool = (λ k. covers c.args.stretch (numbered_box c.args.boxes.now k)) in
    let after : List ℕ → List ℕ → Type 0 = λ ps left. IsPass boxes numbers from to c.args.parents.now ps (i + 1) left in
    elim c.if-is_covered_by.branch [
      | then-is_covered_by+in_ok-take_over w ↦
          let over = sym c.is_covered_by.ensures ∙ w.if-is_covered_by.true in
          subst (after c.if-is_covered_by.parents) (sym (ap (λ (v : Vec ℕ Global). v.items) w.opened-is))
          (subst (λ ps. after ps w.take_over.new.opened.items) (sym w.parents-is)
          (pass_covered boxes numbers s c.requires.height c.requires.inside c.requires.by_bottom c.requires.stretch from to
          (λ a b f t. inr t)
          c.args.parents.now now i opened c.requires.each lt h w.take_over.new.parents w.take_over.ensures.grows
          w.take_over.ensures.joined over refl w.take_over.new.opened.items w.in_ok-take_over.ensures.highest))
      | else-is_covered_by+in_ok-push w ↦
          subst (after c.if-is_covered_by.parents) (sym (ap (λ (v : Vec ℕ Global). v.items) w.opened-is))
          (subst (λ ps. after ps w.push.new.self.items) (sym w.parents-is)
          (pass_opens boxes numbers s c.requires.height c.requires.inside c.requires.by_bottom c.requires.stretch from to (λ a b f t. inr t)
          c.args.parents.now now i opened c.requires.each lt h refl (sym c.is_covered_by.ensures ∙ w.if-is_covered_by.false)
          w.push.new.self.items w.in_ok-push.ensures.items))
    ]

pub returns-clause-joined : goal.returns-clause-joined
returns-clause-joined c = λ i j before far over g.
    c.loop-number.invariant.joined i j before (omega (arith, c.loop-number-test.false)) far refl over g

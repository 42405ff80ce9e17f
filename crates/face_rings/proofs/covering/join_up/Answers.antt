use Rattle.std.proofs.Common.{◌+◌, ◌<◌, ◌∙◌, Bool, true, List, ℕ, Vec, Global, arith, ap, inl, length, refl, subst, sym}
use Rattle.std.specs.Prelude.{All, Contains}
use Rattle.face_rings.specs.Joining.{numbered_box, covers}
use Rattle.face_rings.proofs.CoverLemmas.{IsPass, opened_inside, pass_covered, pass_stays}
use Rattle.face_rings.proofs.covering.join_up.Goals as goal
use Rattle.face_rings.proofs.covering.join_up.Goals.{then-is_covered_by+in_ok-take_over, else-is_covered_by}

pub take_over-requires-clause-inside : goal.take_over-requires-clause-inside
take_over-requires-clause-inside c =
    opened_inside c.args.boxes.now c.args.numbers.now (λ k. covers c.args.stretch (numbered_box c.args.boxes.now k)) (λ k. true)
    c.args.parents.now
    c.loop-number.parents c.loop-number.number-index c.loop-number.opened.items c.requires.inside c.loop-number.invariant

pub join_to-requires-clause-inside : goal.join_to-requires-clause-inside
join_to-requires-clause-inside c =
    subst (λ l. All (λ k. k < length c.args.boxes.now) l) (sym c.deref.ensures.value)
    (opened_inside c.args.boxes.now c.args.numbers.now (λ k. covers c.args.stretch (numbered_box c.args.boxes.now k)) (λ k. true)
    c.args.parents.now
    c.loop-number.parents c.loop-number.number-index c.loop-number.opened.items c.requires.inside c.loop-number.invariant)

pub loop-number-preserved : goal.loop-number-preserved
loop-number-preserved c =
    let boxes = c.args.boxes.now in
    let numbers = c.args.numbers.now in
    let s = c.args.stretch in
    let i = c.loop-number.number-index in
    let now = c.loop-number.parents in
    let opened = c.loop-number.opened.items in
    let h = c.loop-number.invariant in
    let lt = c.loop-number-test.true in
    let from : ℕ → Bool = (λ k. covers c.args.stretch (numbered_box c.args.boxes.now k)) in
    let to : ℕ → Bool = (λ k. true) in
    let after : List ℕ → List ℕ → Type 0 = λ ps left. IsPass boxes numbers from to c.args.parents.now ps (i + 1) left in
    elim c.if-is_covered_by.branch [
      | then-is_covered_by+in_ok-take_over w ↦
          let over = sym c.is_covered_by.ensures ∙ w.if-is_covered_by.true in
          subst (after c.if-is_covered_by.parents) (sym (ap (λ (v : Vec ℕ Global). v.items) w.opened-is))
          (subst (λ ps. after ps w.take_over.new.opened.items) (sym w.parents-is)
          (pass_covered boxes numbers s c.requires.height c.requires.inside c.requires.by_bottom c.requires.stretch from to
          (λ a b f t. inl f)
          c.args.parents.now now i opened c.requires.each lt h w.take_over.new.parents w.take_over.ensures.grows
          w.take_over.ensures.joined over over w.take_over.new.opened.items w.in_ok-take_over.ensures.highest))
      | else-is_covered_by w ↦
          subst (after c.if-is_covered_by.parents) (sym (ap (λ (v : Vec ℕ Global). v.items) w.opened-is))
          (subst (λ ps. after ps opened) (sym w.parents-is)
          (pass_stays boxes numbers s c.requires.height c.requires.inside c.requires.by_bottom c.requires.stretch from to (λ a b f t. inl f)
          c.args.parents.now now i opened c.requires.each lt h w.join_to.new.parents w.join_to.ensures.grows
          (λ k m g. w.join_to.ensures.joined k (subst (λ l. Contains l k) (sym w.deref.ensures.value) m) g)
          (sym c.is_covered_by.ensures ∙ w.if-is_covered_by.false)))
    ]

pub returns-clause-joined : goal.returns-clause-joined
returns-clause-joined c = λ i j before far over g.
    c.loop-number.invariant.joined i j before (omega (arith, c.loop-number-test.false)) far over refl g

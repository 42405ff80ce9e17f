use Rattle.std.proofs.Common.{◌≡◌, ◌+◌, ◌++◌, [], ◌∷◌, sym, subst, ◌∙◌, ap, take, rules, get_or, List, ℕ, Vec, Global}
use Rattle.std.proofs.lemmas.List.{get_or_default, take_all}
use Rattle.face_rings.specs.Joining.{IsPartOf, box_reaches_high, numbered_box}
use Rattle.face_rings.proofs.CutLemmas.{part_skips, part_takes}
use Rattle.face_rings.proofs.JoinLemmas.{nowhere}
use Rattle.face_rings.proofs.cut.Cut.high_part.Goals as goal
use Rattle.face_rings.proofs.cut.Cut.high_part.Goals.{then-reaches_high+in_ok-push, else-reaches_high}

pub loop-number-preserved : goal.loop-number-preserved
loop-number-preserved c =
    let numbers = c.args.numbers.now in
    let i = c.loop-number.number-index in
    let test = box_reaches_high c.args.self in
    let b = numbered_box c.args.boxes.now (get_or numbers i 0) in
    let inside = c.requires.inside i 0 c.loop-number-test.true in
    let is_b = get_or_default c.args.boxes.now (get_or numbers i 0) nowhere b inside in
    let after : List ℕ → Type 0 = λ part. IsPartOf test c.args.boxes.now (take (i + 1) numbers) part in
    elim c.if-reaches_high.branch [
      | then-reaches_high+in_ok-push w ↦
          let pushed : w.push.new.self.items ≡ c.loop-number.part.items ++ get_or numbers i 0 ∷ [] = search rules in
          subst after (sym (ap (λ (p : Vec ℕ Global). p.items) w.part-is))
          (part_takes test c.args.boxes.now numbers c.loop-number.part.items i b c.loop-number-test.true inside
          is_b c.requires.by_bottom c.loop-number.invariant w.push.new.self.items pushed)
      | else-reaches_high w ↦
          subst after (sym (ap (λ (p : Vec ℕ Global). p.items) w.part-is))
          (part_skips test c.args.boxes.now numbers c.loop-number.part.items i b c.loop-number-test.true inside
          is_b c.requires.by_bottom c.loop-number.invariant (sym c.reaches_high.ensures ∙ w.if-reaches_high.false))
    ]

pub returns : goal.returns
returns c = subst (λ l. IsPartOf (box_reaches_high c.args.self) c.args.boxes.now l c.loop-number.part.items)
    (take_all c.loop-number.number-index c.args.numbers.now c.loop-number-test.false) c.loop-number.invariant

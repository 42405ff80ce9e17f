-- The row keeps what holds before its edges; where there are none nothing holds.
use Rattle.std.proofs.Common.{◌≡◌, ◌+◌, ◌<◌, List, [], ◌∷◌, drop, get_or, length, refl, sym, ap, subst, ◌∙◌, arith}
use Rattle.std.proofs.lemmas.List.{get_or-drop, length-drop}
use Rattle.face_sweep.specs.Counts.{AreCounts, kept_counts}
use Rattle.face_sweep.specs.Sides.{AreLefts, is_odd_in}
use Rattle.face_sweep.proofs.StateLemmas.{first_left, none_left}
use Rattle.face_sweep.proofs.sides.counts_before.Goals as goal

no_elements : {A : Type 0} (xs : List A) → length xs ≡ 0 → xs ≡ []
no_elements [] e = refl
no_elements (x ∷ xs) e = absurd (omega (arith, e))

pub returns-then-next-len : goal.returns-then-next-len
returns-then-next-len c =
    let r = c.args._edges.now in
    let next = c.args.next in
    let behind = drop next c.args._row.now in
    let lefts = c.args.lefts.now in
    let left = c.get.result in
    let some : 0 < length (drop next lefts) = omega (arith, length-drop next lefts, c.if-next-len.true, c.len.ensures) in
    let at : next + 0 ≡ next = omega arith in
    let is : left ≡ get_or (drop next lefts) 0 left =
    c.get.ensures left ∙ ap (λ k. get_or lefts k left) (sym at) ∙ sym (get_or-drop next lefts 0 left) in
    subst (λ k. AreCounts k (is_odd_in r behind)) (sym (c.counts.ensures ∙ ap kept_counts is))
    (first_left r behind (drop next lefts) left c.requires.behind c.requires.lefts some)

pub returns-else-next-len : goal.returns-else-next-len
returns-else-next-len c =
    let r = c.args._edges.now in
    let next = c.args.next in
    let behind = drop next c.args._row.now in
    let lefts = c.args.lefts.now in
    let long : length (drop next lefts) ≡ 0 = omega (arith, length-drop next lefts, c.if-next-len.false, c.len.ensures) in
    let none = none_left r behind (subst (AreLefts r behind) (no_elements (drop next lefts) long) c.requires.lefts) in
    subst (λ l. AreCounts c.none.result (is_odd_in r l)) (sym none) c.none.ensures

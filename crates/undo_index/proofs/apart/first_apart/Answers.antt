use Rattle.std.proofs.Common.{◌≡◌, ◌<◌, suc, [], ◌∷◌, drop, drop-cons, get_or, length, ap, subst, sym, ◌∙◌, arith, Some}
use Rattle.std.proofs.lemmas.List.{drop_all, nil_from_length}
use Rattle.undo_index.proofs.ApartLemmas.{fronts_differ, one_ends, other_ends, unequal}
use Rattle.undo_index.specs.First.{IsFirst, first_of, has_place, is_apart, lesser}
use Rattle.undo_index.proofs.apart.first_apart.Goals as goal
use Rattle.undo_index.proofs.apart.first_apart.Goals.{in_default-via-in-Some+else-next-place, in_default-via-in_default}

-- one of the two has no place left, or their fronts differ
pub returns-in_default : goal.returns-in_default
returns-in_default c =
    let one = c.args.one.now in
    let other = c.args.other.now in
    let i = c.loop-place.place-index in
    let left = c.loop-place.left.now in
    let same : c.as_slice-place-items.result.now ≡ one = c.as_slice-place-items.ensures.value in
    let front : get_or c.as_slice-place-items.result.now i 0 ≡ get_or one i 0 = ap (λ xs. get_or xs i 0) same in
    let rest : drop i one ≡ get_or one i 0 ∷ drop (suc i) one =
    drop-cons one i 0 (subst (λ xs. i < length xs) same c.loop-place-test.true) in
    let is =
    c.lesser.ensures ∙ ap (lesser (Some (get_or c.as_slice-place-items.result.now i 0))) c.first_of.ensures
    ∙ ap (λ place. lesser (Some place) (first_of left)) front in
    subst (IsFirst (λ p. is_apart (has_place one p) (has_place other p)) 0) (sym is) (
    elim c.in_default.branch [
      | in_default-via-in-Some+else-next-place w ↦
          fronts_differ one other c.as_slice-place-items.ensures.rising c.as_slice-left.ensures.rising (drop i one) left
          (get_or one i 0) (drop (suc i) one) w.in-Some.next.now w.in-Some.behind.now c.loop-place.invariant rest w.in-Some.ensures.cases.0
          (unequal _ _ (λ e. w.if-next-place.false (e ∙ sym front)))
      | in_default-via-in_default w ↦
          other_ends one other c.as_slice-place-items.ensures.rising c.as_slice-left.ensures.rising (drop i one) left (get_or one i 0)
          (drop (suc i) one) c.loop-place.invariant rest (nil_from_length left w.in_default.ensures.cases)
    ]
    )

pub returns : goal.returns
returns c =
    let i = c.loop-place.place-index in
    let none : drop i c.args.one.now ≡ [] =
    subst (λ xs. drop i xs ≡ []) c.as_slice-place-items.ensures.value
    (drop_all i c.as_slice-place-items.result.now (omega (arith, c.loop-place-test.false))) in
    subst (IsFirst (λ p. is_apart (has_place c.args.one.now p) (has_place c.args.other.now p)) 0) (sym c.first_of-2.ensures)
    (one_ends c.args.one.now c.args.other.now c.as_slice-place-items.ensures.rising c.as_slice-left.ensures.rising (drop i c.args.one.now)
    c.loop-place.left.now c.loop-place.invariant none)

use Rattle.std.proofs.Common.{◌≡◌, ◌<◌, ◌≤◌, ◌+◌, ◌++◌, ◌∷◌, [], ⊎_elim, None, true, length, get_or, sym, ap, subst, ◌∙◌, arith}
use Rattle.std.proofs.lemmas.Bool.{cases_lt}
use Rattle.std.proofs.lemmas.List.{get_or_append_left, get_or_default, get_or_push, length_push}
use Rattle.std.proofs.lemmas.Option.{get_or_from_slice_get}
use Rattle.snap_chains.specs.Rounded.{is_owner_listed}
use Rattle.face_rows.specs.Lines.{edge_at, nowhere, owners_at}
use Rattle.face_sweep.specs.declared.turns.Turn.TheVariants.{Sought}
use Rattle.face_sweep.specs.Reaches.{IsTurnOf, extent_of, key_of, told_by}
use Rattle.face_sweep.proofs.turns.told_turns.Goals as goal

pub loop-number-preserved : goal.loop-number-preserved
loop-number-preserved c =
    let r = c.args.edges.now in
    let boxes = c.args.boxes.now in
    let m = c.loop-number.number in
    let old = c.loop-number.turns.items in
    let turn = c.in_ok-told_turn.field-0 in
    let given : m < length r.0 = subst (λ k. m < length k) c.edges-number-end.ensures.value c.loop-number-test.true in
    let edge : edge_at r m ≡ c.index-edges-number.result =
    sym (c.index-edges-number.is ∙ (λ i. get_or (c.edges-in-loop-number.ensures.value i) m c.index-edges-number.result)
    ∙ get_or_default r.0 m c.index-edges-number.result nowhere given) in
    let own : owners_at r m ≡ c.owners.result.now = get_or_from_slice_get r.1 m c.owners.result.now [] c.owners.ensures.value in
    let here : IsTurnOf (owners_at r m) (edge_at r m) boxes [] turn =
    coe 1 0 (i. IsTurnOf (own i) (edge i) boxes [] turn) c.in_ok-told_turn.ensures.turn in
    let long = c.loop-number.invariant.count in
    record {
      count = ap length c.in_ok-push.ensures.items ∙ length_push old turn ∙ ap (λ k. k + 1) long;
      each = λ n lt. subst (λ l. IsTurnOf (owners_at r n) (edge_at r n) boxes [] (get_or l n Sought))
          (sym c.in_ok-push.ensures.items) (⊎_elim
          (λ (before : n < m).
          subst (λ t. IsTurnOf (owners_at r n) (edge_at r n) boxes [] t)
          (sym (get_or_append_left old (turn ∷ []) Sought n (omega (arith, before, long)))) (c.loop-number.invariant.each n before))
          (λ (from : m ≤ n).
          let same : m ≡ n = omega (arith, lt, from) in
          subst (λ k. IsTurnOf (owners_at r k) (edge_at r k) boxes [] (get_or (old ++ turn ∷ []) k Sought)) same
          (subst (λ t. IsTurnOf (owners_at r m) (edge_at r m) boxes [] t) (sym (get_or_push old turn Sought m long)) here))
          (cases_lt n m));
      untold = λ n o lt listed none. ⊎_elim
          (λ (before : n < m). c.in_ok-told_turn.ensures.kept (key_of o) (c.loop-number.invariant.untold n o before listed none))
          (λ (from : m ≤ n).
          let same : n ≡ m = omega (arith, lt, from) in
          c.in_ok-told_turn.ensures.untold o
          (sym (ap (is_owner_listed o) own) ∙ subst (λ k. is_owner_listed o (owners_at r k) ≡ true) same listed)
          (sym (ap (told_by (extent_of boxes o)) edge)
          ∙ subst (λ k. told_by (extent_of boxes o) (edge_at r k) ≡ None) same none))
          (cases_lt n m);
    }

pub returns-clause-turns : goal.returns-clause-turns
returns-clause-turns c =
    let r = c.args.edges.now in
    let last : c.loop-number.number ≡ length c.edges-number-end.result.now =
    omega (arith, c.loop-number-test.false, c.loop-number.auto.number-end) in
    record {
      count = c.loop-number.invariant.count ∙ last ∙ ap length c.edges-number-end.ensures.value;
      each = λ n given. c.loop-number.invariant.each n
          (omega (arith, last, subst (λ l. n < length l) (sym c.edges-number-end.ensures.value) given));
    }

pub returns-clause-untold : goal.returns-clause-untold
returns-clause-untold c = λ n o given listed none.
    c.loop-number.invariant.untold n o
    (omega (arith, c.loop-number-test.false, subst (λ l. n < length l) (sym c.edges-number-end.ensures.value) given)) listed none

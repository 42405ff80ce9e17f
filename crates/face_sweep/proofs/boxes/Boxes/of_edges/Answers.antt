use Rattle.std.proofs.Common.{◌≡◌, ⊎_elim, ◌<◌, ◌≤◌, [], length, get_or, sym, ap, subst, ◌∙◌, arith}
use Rattle.std.proofs.lemmas.Bool.{cases_lt}
use Rattle.std.proofs.lemmas.List.{get_or_default}
use Rattle.std.proofs.lemmas.Option.{get_or_from_slice_get}
use Rattle.snap_chains.specs.Rounded.{is_owner_listed}
use Rattle.face_rows.specs.Lines.{edge_at, nowhere, owners_at}
use Rattle.face_sweep.specs.Reaches.{IsEdgeIn, IsInBoxes}
use Rattle.face_sweep.proofs.ReachLemmas.{still_in_boxes}
use Rattle.face_sweep.proofs.boxes.Boxes.of_edges.Goals as goal

pub loop-number-preserved : goal.loop-number-preserved
loop-number-preserved c = λ n before. ⊎_elim
    (λ (lt : n < c.loop-number.number).
    still_in_boxes c.args.edges.now c.loop-number.boxes c.extend.new.self n
    (record { first = c.extend.ensures.first; second = c.extend.ensures.second }) (c.loop-number.invariant n lt))
    (λ (ge : c.loop-number.number ≤ n).
    let r = c.args.edges.now in
    let m = c.loop-number.number in
    let same : m ≡ n = omega arith in
    let given : m < length r.0 = subst (λ k. m < length k) c.edges-count.ensures.value c.loop-number-test.true in
    let edge : c.index-edges-number.result ≡ edge_at r m =
    c.index-edges-number.is ∙ (λ i. get_or (c.edges.ensures.value i) m c.index-edges-number.result)
    ∙ get_or_default r.0 m c.index-edges-number.result nowhere given in
    let own : owners_at r m ≡ c.owners.result.now = get_or_from_slice_get r.1 m c.owners.result.now [] c.owners.ensures.value in
    let here : IsInBoxes r c.extend.new.self m = λ o extent listed e.
    subst (IsEdgeIn extent) edge (c.extend.ensures.reached o extent (sym (ap (is_owner_listed o) own) ∙ listed) e) in
    subst (IsInBoxes r c.extend.new.self) same here)
    (cases_lt n c.loop-number.number)

pub returns : goal.returns
returns c = λ n given. c.loop-number.invariant n
    (omega (arith, c.loop-number-test.false, subst (λ l. n < length l) (sym c.edges-count.ensures.value) given))

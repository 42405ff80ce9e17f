-- The first edge that is level stands behind those that rise.
use Rattle.std.proofs.Common.{◌≡◌, ◌<◌, ◌≤◌, ⊎_elim, true, get_or, length, subst, arith, rules}
use Rattle.std.specs.Prelude.{int_lt}
use Rattle.std.proofs.lemmas.Bool.{cases_lt}
use Rattle.std.proofs.lemmas.List.Elements.{Contains-get_or}
use Rattle.face_rows.specs.Lines.{edge_at}
use Rattle.face_rows.specs.Rows.{upward}
use Rattle.face_labels.proofs.BegunLemmas.{begun_given, split_here}
use Rattle.face_labels.proofs.begun.rising_count.Goals as goal

pub rises_above-requires : goal.rises_above-requires
rises_above-requires c =
    let begun = c.args.begun.now in
    let i = c.loop-index.index in
    begun_given c.args.edges.now c.args.point begun c.requires (get_or begun i 0) (Contains-get_or begun i 0 c.loop-index-test.true)

pub returns-then-not-rises_above : goal.returns-then-not-rises_above
returns-then-not-rises_above c =
    split_here c.args.edges.now c.args.point c.args.begun.now c.loop-index.index c.requires (omega (arith, c.loop-index-test.true))
    c.loop-index.invariant (λ less. search rules)

pub loop-index-preserved : goal.loop-index-preserved
loop-index-preserved c = λ k less.
    let r = c.args.edges.now in
    let begun = c.args.begun.now in
    let i = c.loop-index.index in
    ⊎_elim (λ (before : k < i). c.loop-index.invariant k before)
    (λ (ge : i ≤ k).
    let same : i ≡ k = omega arith in
    let here : int_lt c.args.point.y (upward (edge_at r (get_or begun i 0))).1.y ≡ true = search rules in
    subst (λ j. int_lt c.args.point.y (upward (edge_at r (get_or begun j 0))).1.y ≡ true) same here)
    (cases_lt k i)

pub returns : goal.returns
returns c =
    let begun = c.args.begun.now in
    split_here c.args.edges.now c.args.point begun (length begun) c.requires (omega arith)
    (λ k less. c.loop-index.invariant k (omega (arith, c.loop-index-test.false))) (λ less. absurd (omega arith))

use Rattle.std.proofs.Common.{◌≡◌, ◌+◌, to_z, of_z, w32, sym, subst, ◌∙◌, rules}
use Rattle.std.proofs.lemmas.Int.{to_z-of_z}
use Rattle.std.proofs.lemmas.List.{take_all}
use Rattle.face_rows.specs.Crossings.{crossing_numbers}
use Rattle.face_rows.specs.Rows.{crosses_row}
use Rattle.face_rows.proofs.RowLemmas.{AreCrossings, crossing_more, crossing_passed}
use Rattle.face_rows.proofs.rows.crossings.Goals as goal
use Rattle.face_rows.proofs.rows.crossings.Goals.{then-crosses_row+in_ok-push, else-crosses_row}

pub loop-number-preserved : goal.loop-number-preserved
loop-number-preserved c =
    let edges = c.args.edges.now in
    let row = to_z w32 (of_z w32 c.args.row) in
    let n = c.loop-number.number in
    let e = c.index-edges-number.result in
    let old = c.loop-number.crossings.items in
    let less = c.loop-number-test.true in
    let tested : c.crosses_row.result ≡ crosses_row row e = c.crosses_row.ensures.value in
    let next : AreCrossings edges row (n + 1) c.if-crosses_row.crossings.items = elim c.if-crosses_row.branch [
      | then-crosses_row+in_ok-push w ↦
          crossing_more edges row n e old c.if-crosses_row.crossings.items w.new.result less c.index-edges-number.is
          (sym tested ∙ w.if-crosses_row.true) w.new.ensures.number w.new.ensures.x w.new.ensures.rise
          (search rules) c.loop-number.invariant
      | else-crosses_row w ↦
          subst (λ cs. AreCrossings edges row (n + 1) cs) (search rules)
          (crossing_passed edges row n e old less c.index-edges-number.is (sym tested ∙ w.if-crosses_row.false) c.loop-number.invariant)
    ] in
    next

pub returns-clause-numbers : goal.returns-clause-numbers
returns-clause-numbers c =
    let at : to_z w32 (of_z w32 c.args.row) ≡ c.args.row = to_z-of_z w32 c.args.row c.ranges.row in
    c.loop-number.invariant.numbers
    ∙ (λ i. crossing_numbers (at i) 0 (take_all c.loop-number.number c.args.edges.now c.loop-number-test.false i))

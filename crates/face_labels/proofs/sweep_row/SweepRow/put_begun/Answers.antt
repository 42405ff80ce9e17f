-- Once the group is replaced, the edges from its place on are those right of the point.
use Rattle.std.proofs.Common.{rules, ◌≡◌, ◌+◌, ◌++◌, ◌<◌, drop, length, take, sym, ap, subst, ◌∙◌, arith}
use Rattle.std.specs.Prelude.{All, slice_range}
use Rattle.face_sweep.specs.Counts.{AreCounts}
use Rattle.face_sweep.specs.OwnRows.{IsCutAt}
use Rattle.face_sweep.specs.Points.{IsPassed}
use Rattle.face_sweep.specs.Sides.{AreBehind, AreLefts, is_odd_in}
use Rattle.face_sweep.proofs.PassLemmas.{rest_of_passed}
use Rattle.face_sweep.proofs.StateLemmas.{lefts_long}
use Rattle.face_sweep.proofs.StatusLemmas.{points_pass}
use Rattle.face_labels.specs.RowSides.{HasLabel}
use Rattle.face_labels.proofs.LineLemmas.{begun_cut, lefts_replaced, new_at, new_back, new_front, new_range, new_rest, passed_given}
use Rattle.face_labels.proofs.WrittenLemmas.{all_found}
use Rattle.face_labels.proofs.sweep_row.SweepRow.put_begun.Goals as goal

pub find_begun-requires-clause-given : goal.find_begun-requires-clause-given
find_begun-requires-clause-given c =
    let r = c.args.edges.now in
    let p = c.args.group.point in
    let old = c.args.self.now.numbers in
    let new = c.replace.new.self in
    let begun = c.args.begun.now in
    let from = c.args.group.from in
    let to = c.args.group.to in
    let line = c.requires.line in
    subst (All (λ n. n < length r.0)) (sym c.in_ok-replace.ensures)
    (passed_given r p (take from old ++ begun ++ drop to old)
    (points_pass r p old begun from to c.requires.sound c.requires.end line.status c.requires.begun line.group))

pub find_begun-requires-clause-behind : goal.find_begun-requires-clause-behind
find_begun-requires-clause-behind c =
    let r = c.args.edges.now in
    let p = c.args.group.point in
    let old = c.args.self.now.numbers in
    let new = c.replace.new.self in
    let begun = c.args.begun.now in
    let from = c.args.group.from in
    let to = c.args.group.to in
    let line = c.requires.line in
    subst (AreBehind r) (sym (new_back old new begun from to line.group.order line.group.bound c.in_ok-replace.ensures))
    (rest_of_passed r p old begun from to c.requires.sound c.requires.end line.status c.requires.begun line.group).behind

pub find_begun-requires-clause-right : goal.find_begun-requires-clause-right
find_begun-requires-clause-right c =
    let old = c.args.self.now.numbers in
    let new = c.replace.new.self in
    let begun = c.args.begun.now in
    let from = c.args.group.from in
    let to = c.args.group.to in
    let line = c.requires.line in
    let end : c.in_ok-ok_or.field-0 ≡ from + length begun = search rules in
    subst (λ l. AreCounts c.args.right (is_odd_in c.args.edges.now l))
    (sym (ap (λ k. drop k new) end ∙ new_rest old new begun from to line.group.order line.group.bound c.in_ok-replace.ensures))
    c.requires.right

pub find_begun-requires-clause-cut : goal.find_begun-requires-clause-cut
find_begun-requires-clause-cut c =
    let r = c.args.edges.now in
    let p = c.args.group.point in
    let old = c.args.self.now.numbers in
    let new = c.replace.new.self in
    let begun = c.args.begun.now in
    let from = c.args.group.from in
    let to = c.args.group.to in
    let line = c.requires.line in
    let back = new_back old new begun from to line.group.order line.group.bound c.in_ok-replace.ensures in
    let front = new_front old new begun from to line.group.order line.group.bound c.in_ok-replace.ensures in
    coe 1 0 (i. IsCutAt r p (back i) (front i)) (begun_cut r p old from to c.requires.sound line.group begun c.requires.begun)

pub replace-requires-2-clause-bound : goal.replace-requires-2-clause-bound
replace-requires-2-clause-bound c =
    let line = c.requires.line in
    omega (arith, line.group.bound, lefts_long c.args.edges.now c.args.self.now.numbers c.args.self.now.lefts line.lefts)

pub returns-clause-line : goal.returns-clause-line
returns-clause-line c =
    let r = c.args.edges.now in
    let p = c.args.group.point in
    let old = c.args.self.now.numbers in
    let new = c.replace.new.self in
    let begun = c.args.begun.now in
    let from = c.args.group.from in
    let to = c.args.group.to in
    let line = c.requires.line in
    let end : c.in_ok-ok_or.field-0 ≡ from + length begun = search rules in
    record {
      passed = subst (IsPassed r p) (sym c.in_ok-replace.ensures)
          (points_pass r p old begun from to c.requires.sound c.requires.end line.status c.requires.begun line.group);
      lefts = lefts_replaced r old new begun c.args.self.now.lefts c.replace-2.new.self c.find_begun.new.lefts.items from to
          c.in_ok-replace.ensures
          (c.in_ok-replace-2.ensures
          ∙ ap (λ l. take from c.args.self.now.lefts ++ l ++ drop to c.args.self.now.lefts) c.as_slice.ensures.value)
          line.lefts
          (subst (λ l. AreLefts r l c.find_begun.new.lefts.items)
          (ap (slice_range new from) end
          ∙ new_range old new begun from to line.group.order line.group.bound c.in_ok-replace.ensures) c.in_ok-find_begun.ensures.lefts);
      room = c.in_ok-find_begun.ensures.room;
      own = c.in_ok-find_begun.ensures.own;
    }

pub returns-clause-labels : goal.returns-clause-labels
returns-clause-labels c =
    let r = c.args.edges.now in
    let p = c.args.group.point in
    let old = c.args.self.now.numbers in
    let new = c.replace.new.self in
    let begun = c.args.begun.now in
    let from = c.args.group.from in
    let to = c.args.group.to in
    let line = c.requires.line in
    let end : c.in_ok-ok_or.field-0 ≡ from + length begun = search rules in
    let labels = c.find_begun.new.labels.items in
    all_found (HasLabel c.args.op r labels) begun (λ k less.
    subst (HasLabel c.args.op r labels) (new_at old new begun from to line.group.order line.group.bound c.in_ok-replace.ensures k less)
    (c.in_ok-find_begun.ensures.labels (from + k) (omega arith) (omega (arith, less, end))))

-- The first edge that doesn't end at the point is right of it, and so are those behind it.
use Rattle.std.proofs.Common.{rules, ◌≡◌, ◌<◌, ◌≤◌, ⊎_elim, true, length, get_or, sym, subst, arith}
use Rattle.std.proofs.lemmas.Bool.{cases_lt}
use Rattle.lay_point.specs.Points.{point_eq}
use Rattle.face_rows.specs.Lines.{edge_at}
use Rattle.face_rows.specs.Rows.{upward}
use Rattle.face_sweep.specs.Points.{HasHigh, IsEndedGroup}
use Rattle.face_sweep.proofs.GroupLemmas.{ends_by_test, group_here, status_given}
use Rattle.face_sweep.proofs.passing.group_end.Goals as goal

pub ends_at-requires : goal.ends_at-requires
ends_at-requires c =
    subst (λ n. n < length c.args.edges.now.0) (sym (c.get.ensures 0))
    (status_given c.args.edges.now c.args.point c.args.numbers.now c.requires.status c.loop-index.index (search rules))

pub returns-then-not-ends_at : goal.returns-then-not-ends_at
returns-then-not-ends_at c =
    group_here c.args.edges.now c.args.point c.args.numbers.now c.args.from c.loop-index.index c.requires.sound c.requires.end
    c.requires.status c.requires.place (search rules) (search rules) c.loop-index.invariant
    (λ less. search rules)

pub loop-index-preserved : goal.loop-index-preserved
loop-index-preserved c = λ k from less.
    let here : point_eq (upward (edge_at c.args.edges.now (get_or c.args.numbers.now c.loop-index.index 0))).1 c.args.point ≡ true =
    search rules in
    ⊎_elim (λ (before : k < c.loop-index.index). c.loop-index.invariant k from before)
    (λ (ge : c.loop-index.index ≤ k).
    let same : c.loop-index.index ≡ k = omega arith in
    subst (λ j. HasHigh c.args.edges.now c.args.point (get_or c.args.numbers.now j 0)) same
    (ends_by_test c.args.edges.now c.args.point (get_or c.args.numbers.now c.loop-index.index 0) here))
    (cases_lt k c.loop-index.index)

pub returns : goal.returns
returns c =
    let numbers = c.args.numbers.now in
    subst (IsEndedGroup c.args.edges.now c.args.point numbers c.args.from) (sym c.len.ensures)
    (group_here c.args.edges.now c.args.point numbers c.args.from (length numbers) c.requires.sound c.requires.end
    c.requires.status c.requires.place c.requires.place.bound (omega arith)
    (λ k from less. c.loop-index.invariant k from (omega (arith, less, c.loop-index-test.false, c.len.ensures)))
    (λ less. absurd (omega arith)))

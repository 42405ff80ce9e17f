-- Above a level edge holds what the edges right of the point tell, of which none has begun there yet.
use Rattle.std.proofs.Common.{◌<◌, drop, length, take, Contains, sym, subst}
use Rattle.std.specs.Prelude.{All}
use Rattle.std.proofs.lemmas.List.{take_rest}
use Rattle.face_sweep.specs.OwnRows.{own_of}
use Rattle.face_sweep.specs.Points.{AreBegunAt, IsEndPoint, IsLevelFrom}
use Rattle.face_sweep.proofs.OwnLemmas.{own_cut}
use Rattle.face_sweep.proofs.PassLemmas.{AreRest, rest_beside, rest_of_status}
use Rattle.face_sweep.proofs.StateLemmas.{lefts_drop}
use Rattle.face_labels.specs.RowSides.{HasLabel, IsLineAt, IsLinePast}
use Rattle.face_labels.proofs.LineLemmas.{all_in, begun_labels, rest_cut}
use Rattle.face_labels.proofs.sweep_row.SweepRow.pass.Goals as goal

pub counts_before-right-requires-clause-behind : goal.counts_before-right-requires-clause-behind
counts_before-right-requires-clause-behind c =
    let r = c.args.edges.now in
    let p = c.group_at-group.result.point in
    let numbers = c.take_out.new.self.numbers in
    let from = c.group_at-group.result.from in
    let to = c.group_at-group.result.to in
    let line = c.take_out.ensures in
    let end : IsEndPoint r p = subst (IsEndPoint r) (sym c.group_at-group.ensures.point) c.requires.stop.end in
    let rest : AreRest r p (drop to numbers) = rest_of_status r p numbers from to c.requires.sound end line.status line.group in
    rest.behind

pub counts_before-right-requires-clause-lefts : goal.counts_before-right-requires-clause-lefts
counts_before-right-requires-clause-lefts c =
    let row = c.take_out.new.self in
    lefts_drop c.args.edges.now c.group_at-group.result.to row.numbers row.lefts c.take_out.ensures.lefts

pub label_levels-requires-clause-own : goal.label_levels-requires-clause-own
label_levels-requires-clause-own c =
    let r = c.args.edges.now in
    let p = c.group_at-group.result.point in
    let numbers = c.take_out.new.self.numbers in
    let from = c.group_at-group.result.from in
    let to = c.group_at-group.result.to in
    let line = c.take_out.ensures in
    let end : IsEndPoint r p = subst (IsEndPoint r) (sym c.group_at-group.ensures.point) c.requires.stop.end in
    record {
      left = λ o. own_of r o (take from numbers);
      cut = λ o. own_cut r o p (drop to numbers) (take from numbers) (rest_cut r p numbers from to c.requires.sound line.group);
      own = line.own;
    }

pub label_levels-requires-clause-levels : goal.label_levels-requires-clause-levels
label_levels-requires-clause-levels c =
    let r = c.args.edges.now in
    let begun = c.begun-begun.result.now in
    let rising = c.rising_count-rising.result in
    subst (All (λ n. n < length r.0)) (sym (take_rest begun rising))
    (all_in (λ n. n < length r.0) (drop rising begun) (λ n found. (c.rising_count-rising.ensures.levels n found).given))

pub label_levels-requires-clause-beside : goal.label_levels-requires-clause-beside
label_levels-requires-clause-beside c = λ n o found.
    let r = c.args.edges.now in
    let p = c.group_at-group.result.point in
    let numbers = c.take_out.new.self.numbers in
    let from = c.group_at-group.result.from in
    let to = c.group_at-group.result.to in
    let line = c.take_out.ensures in
    let end : IsEndPoint r p = subst (IsEndPoint r) (sym c.group_at-group.ensures.point) c.requires.stop.end in
    let begun = c.begun-begun.result.now in
    let rising = c.rising_count-rising.result in
    let level : IsLevelFrom r p n = subst (λ q. IsLevelFrom r q n) (sym c.group_at-group.ensures.point)
    (c.rising_count-rising.ensures.levels n (subst (λ ns. Contains ns n) (take_rest begun rising) found)) in
    rest_beside r p numbers from to n o c.requires.sound end line.status line.group level

pub put_begun-requires-clause-end : goal.put_begun-requires-clause-end
put_begun-requires-clause-end c =
    subst (IsEndPoint c.args.edges.now) (sym c.group_at-group.ensures.point) c.requires.stop.end

pub take_out-requires-clause-line : goal.take_out-requires-clause-line
take_out-requires-clause-line c =
    subst (λ q. IsLineAt c.args.edges.now c.args.shared.now.reach q c.args.self.now) (sym c.group_at-group.ensures.point) c.requires.line

pub put_begun-requires-clause-begun : goal.put_begun-requires-clause-begun
put_begun-requires-clause-begun c =
    subst (λ q. AreBegunAt c.args.edges.now q (take c.rising_count-rising.result c.begun-begun.result.now))
    (sym c.group_at-group.ensures.point) c.rising_count-rising.ensures.begun

pub returns-clause-line : goal.returns-clause-line
returns-clause-line c =
    subst (λ q. IsLinePast c.args.edges.now c.args.shared.now.reach q c.put_begun.new.self) c.group_at-group.ensures.point
    c.in_ok-put_begun.ensures.line

pub returns-clause-kept : goal.returns-clause-kept
returns-clause-kept c = λ n h. c.in_ok-put_begun.ensures.kept n (c.label_levels.ensures.kept n h)

pub returns-clause-labels : goal.returns-clause-labels
returns-clause-labels c =
    let r = c.args.edges.now in
    let op = c.args.op in
    let begun = c.begun-begun.result.now in
    let rising = c.rising_count-rising.result in
    let first = c.label_levels.new.labels.items in
    begun_labels r op c.args.stop.point begun rising first c.put_begun.new.labels.items c.rising_count-rising.ensures
    (subst (All (HasLabel op r first)) (take_rest begun rising) c.label_levels.ensures.labels)
    c.in_ok-put_begun.ensures.kept c.in_ok-put_begun.ensures.labels

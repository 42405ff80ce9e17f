use Rattle.std.proofs.Common.{ap, ◌∙◌}
use Rattle.std.proofs.lemmas.List.{take_all}
use Rattle.lay_point.proofs.EdgeOrder.{one_more_lesser}
use Rattle.face_rings.proofs.IncidenceLemmas.{are_ends, ends_from, ends_more}
use Rattle.face_rings.proofs.incidence.sorted_ends.Goals as goal

pub loop-number-preserved : goal.loop-number-preserved
loop-number-preserved c =
    let edges = c.args.edges.now in
    let e = c.index-edges-number.result in
    let less = c.loop-number-test.true in (
      ends_more edges c.loop-number.number e c.low.result c.high.result c.loop-number.ends.items c.push.new.self.items _ less
          c.index-edges-number.is c.low.ensures.value c.high.ensures.value c.loop-number.invariant.0 c.in_ok-push.ensures.items
          c.in_ok-push-2.ensures.items,
      one_more_lesser edges c.loop-number.number e less c.index-edges-number.is c.low.ensures.lesser c.loop-number.invariant.1,
    )

pub returns-clause-sound : goal.returns-clause-sound
returns-clause-sound c =
    let all = take_all c.loop-number.number c.args.edges.now c.loop-number-test.false in
    are_ends c.args.edges.now c.loop-number.ends.items c.sort_unstable.new.self.items
    (c.loop-number.invariant.0 ∙ ap (ends_from 0) all) c.sort_unstable.ensures.permutation c.sort_unstable.ensures.sorted

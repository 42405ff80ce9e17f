use Rattle.std.proofs.Common.{◌<◌, length, map, subst, arith}
use Rattle.std.proofs.lemmas.List.{length-map}
use Rattle.face_sweep.specs.Ends.{IsNoLater, IsSooner}
use Rattle.face_sweep.specs.declared.ends.Place.{Place}
use Rattle.face_sweep.proofs.StopLemmas.{place_at, run_behind, run_more}
use Rattle.face_sweep.proofs.stops.run_end.Goals as goal

pub loop-to-preserved : goal.loop-to-preserved
loop-to-preserved g c =
    let place_of = g.T.StandsAt.place_of in
    let items = c.args.items.now in
    let p = c.args.place in
    let to = c.loop-to.to in
    let less = c.loop-to-test.true in
    let inside : to < length (map place_of items) = omega (arith, less, length-map items place_of) in
    let here = c.is_before.ensures.later c.if-not-is_before.true in
    record {
      order = omega (arith, c.loop-to.invariant.order);
      bound = omega (arith, less);
      same = run_more (map place_of items) c.args.from to p c.requires.order c.requires.ahead c.loop-to.invariant.order inside
          (λ d. subst (λ (z : Place). IsNoLater z p)
          (place_at place_of items to c.index-items-to.result c.stands_at.result less c.index-items-to.is c.stands_at.ensures d) here)
          c.loop-to.invariant.same;
    }

pub returns-else-not-is_before : goal.returns-else-not-is_before
returns-else-not-is_before g c =
    let place_of = g.T.StandsAt.place_of in
    let items = c.args.items.now in
    let p = c.args.place in
    let to = c.loop-to.to in
    let less = c.loop-to-test.true in
    let sooner = c.is_before.ensures.sooner c.if-not-is_before.false in
    record {
      order = c.loop-to.invariant.order;
      bound = omega (arith, c.loop-to.invariant.bound, length-map items place_of);
      same = c.loop-to.invariant.same;
      behind = run_behind (map place_of items) to p c.requires.order
          (λ d inside. subst (IsSooner p)
          (place_at place_of items to c.index-items-to.result c.stands_at.result less c.index-items-to.is c.stands_at.ensures d) sooner);
    }

use Rattle.std.proofs.Common.{◌≡◌, ◌<◌, ◌≤◌, ◌++◌, [], ◌∷◌, length, refl, sym, subst, rules, arith}
use Rattle.std.proofs.lemmas.List.{length-map, map-id}
use Rattle.face_sweep.specs.Ends.{AreBegins, ArePlacesInOrder, AreTops, begin_place, begin_places, point_at}
use Rattle.face_sweep.specs.Stops.{IsPlaceRun}
use Rattle.face_sweep.specs.declared.stops.Stop.{Stop}
use Rattle.face_sweep.proofs.StopLemmas.{fewer_left, group_of, passed_all, place_inside, points_of, stops_done, stops_more}
use Rattle.face_sweep.proofs.stops.stops_at.Goals as goal

pub bounds-points-place : goal.bounds-points-place
bounds-points-place c =
    let points = c.args.points.now in
    let es = c.args.edges.now.0 in
    let begins = c.as_slice-begins.result.now in
    let tops = c.as_slice-tops.result.now in
    place_inside points es begins tops c.loop-place.low c.loop-place.top c.in-Some.place
    (subst (AreBegins points es) (sym c.as_slice-begins.ensures.value) c.requires.begins)
    (subst (AreTops points es) (sym c.as_slice-tops.ensures.value) c.requires.tops) c.in-Some.ensures.some

pub put_begun-requires : goal.put_begun-requires
put_begun-requires c =
    let points = c.args.points.now in
    let r = c.args.edges.now in
    let begins = c.as_slice-begins.result.now in
    let tops = c.as_slice-tops.result.now in
    let low = c.loop-place.low in
    let top = c.loop-place.top in
    let p = c.in-Some.place in
    let list = c.loop-place.list.items in
    let begun = c.loop-place.begun.items in
    let h = c.loop-place.invariant in
    let begin_facts = subst (AreBegins points r.0) (sym c.as_slice-begins.ensures.value) c.requires.begins in
    let top_facts = subst (AreTops points r.0) (sym c.as_slice-tops.ensures.value) c.requires.tops in
    let next = c.in-Some.ensures.some in
    let inside : p.key < length points = place_inside points r.0 begins tops low top p begin_facts top_facts next in (
      points,
      group_of points r.0 begins (points_of list) low c.run_end-after.result p c.requires.rising begin_facts inside c.run_end-after.ensures
          h.low_joined.had (passed_all points r (begin_places begins) tops low top list begun p h next),
    )

pub run_end-top-requires-clause-order : goal.run_end-top-requires-clause-order
run_end-top-requires-clause-order c =
    subst ArePlacesInOrder (sym (map-id c.as_slice-tops.result.now))
    (subst ArePlacesInOrder (sym c.as_slice-tops.ensures.value) c.requires.tops.order)

pub loop-place-smaller : goal.loop-place-smaller
loop-place-smaller c =
    let tops = c.as_slice-tops.result.now in
    let over = c.run_end-top.result in
    let p = c.in-Some.place in
    fewer_left (begin_places c.as_slice-begins.result.now) tops c.loop-place.low c.loop-place.top c.run_end-after.result over p
    c.in-Some.ensures.some c.run_end-after.ensures
    (subst (λ l. IsPlaceRun l c.loop-place.top over p) (map-id tops) c.run_end-top.ensures)

pub loop-place-preserved : goal.loop-place-preserved
loop-place-preserved c =
    let points = c.args.points.now in
    let r = c.args.edges.now in
    let begins = c.as_slice-begins.result.now in
    let tops = c.as_slice-tops.result.now in
    let low = c.loop-place.low in
    let top = c.loop-place.top in
    let after = c.run_end-after.result in
    let over = c.run_end-top.result in
    let p = c.in-Some.place in
    let list = c.loop-place.list.items in
    let more = c.push.new.self.items in
    let old = c.loop-place.begun.items in
    let new = c.put_begun.new.begun.items in
    let s : Stop = record { point = point_at points p; from = c.len-from.result; to = c.len.result } in
    let begin_facts = subst (AreBegins points r.0) (sym c.as_slice-begins.ensures.value) c.requires.begins in
    let top_facts = subst (AreTops points r.0) (sym c.as_slice-tops.ensures.value) c.requires.tops in
    let run_top = subst (λ l. IsPlaceRun l top over p) (map-id tops) c.run_end-top.ensures in
    let from : c.len-from.result ≡ length old = search rules in
    let to : c.len.result ≡ length new = search rules in
    let is : more ≡ list ++ s ∷ [] = search rules in
    stops_more points r begins tops low top after over list more old new p s c.requires.rising begin_facts top_facts c.loop-place.invariant
    c.in-Some.ensures.some c.run_end-after.ensures run_top c.in_ok-put_begun.ensures refl from to is

pub returns : goal.returns
returns c =
    let points = c.args.points.now in
    let es = c.args.edges.now.0 in
    let begins = c.as_slice-begins.result.now in
    let tops = c.as_slice-tops.result.now in
    let none = c.in_default.ensures.none in
    let low : length (begin_places begins) ≤ c.loop-place.low = omega (arith, none.0, length-map begins begin_place) in
    stops_done points c.args.edges.now begins tops c.loop-place.low c.loop-place.top
    (record { list = c.loop-place.list; begun = c.loop-place.begun })
    (subst (AreBegins points es) (sym c.as_slice-begins.ensures.value) c.requires.begins)
    (subst (AreTops points es) (sym c.as_slice-tops.ensures.value) c.requires.tops) c.loop-place.invariant low none.1

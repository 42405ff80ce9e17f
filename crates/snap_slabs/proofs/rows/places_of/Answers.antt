use Rattle.std.proofs.Common.{◌≡◌, ◌<◌, ◌∙◌, Contains, sym, subst, length, arith, rules}
use Rattle.std.specs.Prelude.{slice_index_or}
use Rattle.std.proofs.lemmas.List.{take_all, length-set}
use Rattle.snap_slabs.proofs.Placing.{own_element, place_more}
use Rattle.snap_slabs.proofs.rows.places_of.Goals as goal

pub index_mut-requires : goal.index_mut-requires
index_mut-requires c =
    let rows = c.args.rows.now in
    let k = c.loop-place.place in
    let inside = c.requires.inside (slice_index_or rows k 0) (own_element rows k c.loop-place-test.true) in
    let len : length c.loop-place.places.items ≡ c.loop-place.places.len = search rules in
    omega (arith, inside, c.loop-place.invariant.as_many, len)

pub loop-place-preserved : goal.loop-place-preserved
loop-place-preserved c =
    let rows = c.args.rows.now in
    let places = c.loop-place.places.items in
    let k = c.loop-place.place in
    let lt = c.loop-place-test.true in
    let inside = subst (λ n. slice_index_or rows k 0 < n) (sym c.loop-place.invariant.as_many)
    (c.requires.inside (slice_index_or rows k 0) (own_element rows k lt)) in
    record {
      as_many = length-set places (slice_index_or rows k 0) k ∙ c.loop-place.invariant.as_many;
      placed = place_more rows places k lt inside c.loop-place.invariant.placed;
    }

pub returns-clause-placed : goal.returns-clause-placed
returns-clause-placed c = λ i m.
    let all = take_all c.loop-place.place c.args.rows.now (search rules) in
    c.loop-place.invariant.placed i (subst (λ l. Contains l i) (sym all) m)

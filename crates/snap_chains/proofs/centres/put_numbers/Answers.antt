use Rattle.std.proofs.Common.{◌≡◌, ◌∙◌, ◌<◌, ◌++◌, [], ◌∷◌, ⊎_elim, Some, get_or, length, rules, sym, ap, subst, Contains}
use Rattle.std.specs.Prelude.{slice_get}
use Rattle.std.proofs.lemmas.List.{take_all, take_more}
use Rattle.std.proofs.lemmas.List.Elements.{Contains-get_or, Contains-push_cases}
use Rattle.std.proofs.lemmas.Option.{get_or_from_slice_get, slice_get_within}
use Rattle.snap_slabs.specs.Runs.{centre_at, centres_at, no_centre}
use Rattle.snap_chains.proofs.OwnerLemmas.{map-push}
use Rattle.snap_chains.proofs.centres.put_numbers.Goals as goal

pub number_among-requires : goal.number_among-requires
number_among-requires c =
    let points = c.args.points.now in
    let i = c.loop-point.point-index in
    c.requires (get_or points i no_centre) (Contains-get_or points i no_centre c.loop-point-test.true)

pub loop-point-preserved : goal.loop-point-preserved
loop-point-preserved c =
    let hot = c.args.numbers.now in
    let points = c.args.points.now in
    let i = c.loop-point.point-index in
    let found = c.loop-point.found.items in
    let n = c.number_among.result in
    let at : slice_get hot n ≡ Some (get_or points i no_centre) = c.number_among.ensures in
    record {
      centres = ap (centres_at hot) c.in_ok-push.ensures.items ∙ map-push (centre_at hot) found n
          ∙ (λ t. c.loop-point.invariant.centres t ++ get_or_from_slice_get hot n (get_or points i no_centre) no_centre at t ∷ [])
          ∙ sym (take_more points i no_centre c.loop-point-test.true);
      inside = λ k m. ⊎_elim (λ old. c.loop-point.invariant.inside k old)
          (λ same. subst (λ j. j < length hot) same (slice_get_within hot n (get_or points i no_centre) at))
          (Contains-push_cases found n k (subst (λ l. Contains l k) c.in_ok-push.ensures.items m));
    }

pub returns-clause-centres : goal.returns-clause-centres
returns-clause-centres c = c.loop-point.invariant.centres ∙ take_all c.loop-point.point-index c.args.points.now (search rules)

-- The stops of the band are all passed: those before the first are below it, and those from the last on above.
use Rattle.std.proofs.Common.{◌≡◌, ⊎_elim, ◌<◌, ◌≤◌, ◌≤ℤ◌, ◌<ℤ◌, false, pos, get_or, length, sym, ap, subst, ◌∙◌, arith}
use Rattle.std.proofs.Common.{rules, to_z, of_z, w64}
use Rattle.std.specs.Prelude.{int_lt}
use Rattle.std.proofs.lemmas.Bool.{cases_lt}
use Rattle.std.proofs.lemmas.Int.{to_z-of_z}
use Rattle.std.proofs.lemmas.List.{get_or_default}
use Rattle.lay_point.proofs.Tests.{lt_false}
use Rattle.lay_point.specs.declared.point.Point.{Point}
use Rattle.face_rows.specs.Sound.{AreSound}
use Rattle.face_sweep.specs.declared.stops.Stop.{Stop}
use Rattle.face_sweep.specs.Points.{HasLow, IsPassed}
use Rattle.face_sweep.proofs.SweepLemmas.{all_of_band, next_status}
use Rattle.face_labels.specs.RowSides.{HasLabel, IsSweepStop}
use Rattle.face_labels.proofs.LineLemmas.{stop_is}
use Rattle.face_labels.proofs.labels.labels_at.Goals as goal

abbrev origin : Stop
origin = record { point = record { x = pos 0; y = pos 0 }; from = 0; to = 0 }

pub returns-then-first-stops-clause-labels : goal.returns-then-first-stops-clause-labels
returns-then-first-stops-clause-labels c =
    let low : to_z w64 (of_z w64 c.args.band.low) ≡ c.args.band.low = to_z-of_z w64 c.args.band.low (search rules) in
    let first = c.first_from-first.result in
    let count = ap length c.stops-stops.ensures in
    let none = c.if-first-stops.true in
    all_of_band c.args.edges.now c.args.shared.now.stops c.requires.stops origin
    (HasLabel c.args.op c.args.edges.now c.in_ok-labels.labels.items) c.args.band first first
    (λ k before. subst (λ z. (get_or c.args.shared.now.stops.list.items k origin).point.y <ℤ z) low
    (c.first_from-first.ensures.before k origin before))
    (λ less. absurd (omega (arith, less, none, count)))
    (λ k n from to inside given begun. absurd (omega (arith, from, to)))

pub returns-then-not-is_below-clause-labels : goal.returns-then-not-is_below-clause-labels
returns-then-not-is_below-clause-labels c =
    let i = c.loop-index.index in
    let low : to_z w64 (of_z w64 c.args.band.low) ≡ c.args.band.low = to_z-of_z w64 c.args.band.low (search rules) in
    let high = c.args.band.high in
    let above : int_lt (get_or c.stops-stops.result.now i origin).point.y high ≡ false = search rules in
    all_of_band c.args.edges.now c.args.shared.now.stops c.requires.stops origin
    (HasLabel c.args.op c.args.edges.now c.loop-index.labels.items) c.args.band c.first_from-first.result i
    (λ k before. subst (λ z. (get_or c.args.shared.now.stops.list.items k origin).point.y <ℤ z) low
    (c.first_from-first.ensures.before k origin before))
    (λ less. subst (λ l. high ≤ℤ (get_or l i origin).point.y) c.stops-stops.ensures
    (lt_false (get_or c.stops-stops.result.now i origin).point.y high above))
    (λ k n from to inside given begun. c.loop-index.invariant.labels k n origin from to inside given begun)

pub pass-requires-clause-stop : goal.pass-requires-clause-stop
pass-requires-clause-stop c =
    let r = c.args.edges.now in
    let stops = c.args.shared.now.stops in
    let i = c.loop-index.index in
    subst (λ l. IsSweepStop r stops (get_or l i origin)) (sym c.stops-stops.ensures)
    (stop_is r stops c.requires.stops i origin (subst (λ l. i < length l) c.stops-stops.ensures c.loop-index-test.true))

pub loop-index-preserved : goal.loop-index-preserved
loop-index-preserved c =
    let r = c.args.edges.now in
    let stops = c.args.shared.now.stops in
    let list = stops.list.items in
    let i = c.loop-index.index in
    let here : i < length list = subst (λ l. i < length l) c.stops-stops.ensures c.loop-index-test.true in
    let line = c.pass.new.self in
    let past = c.in_ok-pass.ensures in
    let at : (d : Stop) → (get_or c.stops-stops.result.now i origin).point ≡ (get_or list i d).point =
    λ d. ap (λ l. (get_or l i origin).point) c.stops-stops.ensures ∙ ap (λ (s : Stop). s.point) (get_or_default list i origin d here) in
    let sound : AreSound r = record {
      rising = c.edges.ensures.rising;
      paired = c.edges.ensures.paired;
      even = c.edges.ensures.even;
      clean = c.edges.ensures.clean;
      lesser = c.requires.lesser;
    } in
    record {
      count = c.pass.ensures.count;
      line = λ d less. record {
        status = next_status r stops c.requires.stops d i line.numbers sound less
            (subst (λ (q : Point). IsPassed r q line.numbers) (at d) past.line.passed);
        lefts = past.line.lefts;
        room = past.line.room;
        own = past.line.own;
      };
      labels = λ k n d from to inside given low. ⊎_elim
          (λ (before : k < i). past.kept n (c.loop-index.invariant.labels k n d from before inside given low))
          (λ (ge : i ≤ k).
          let same : k ≡ i = omega arith in
          past.labels n given (subst (λ (q : Point). HasLow r q n) (sym (at d)) (subst (λ j. HasLow r (get_or list j d).point n) same low)))
          (cases_lt k i);
    }

pub returns-clause-labels : goal.returns-clause-labels
returns-clause-labels c =
    let low : to_z w64 (of_z w64 c.args.band.low) ≡ c.args.band.low = to_z-of_z w64 c.args.band.low (search rules) in
    let i = c.loop-index.index in
    let count = ap length c.stops-stops.ensures in
    all_of_band c.args.edges.now c.args.shared.now.stops c.requires.stops origin
    (HasLabel c.args.op c.args.edges.now c.loop-index.labels.items) c.args.band c.first_from-first.result i
    (λ k before. subst (λ z. (get_or c.args.shared.now.stops.list.items k origin).point.y <ℤ z) low
    (c.first_from-first.ensures.before k origin before))
    (λ less. absurd (omega (arith, less, c.loop-index-test.false, count)))
    (λ k n from to inside given begun. c.loop-index.invariant.labels k n origin from to inside given begun)

use Rattle.std.proofs.Common.{◌≡◌, ◌∙◌, get_or, map, to_z, of_z, w32, sym, ap, subst}
use Rattle.std.specs.Prelude.{All}
use Rattle.std.proofs.lemmas.Int.{to_z-of_z}
use Rattle.face_rows.specs.Crossings.{IsCrossingOf}
use Rattle.face_rows.specs.declared.crossing.Crossing.{Crossing}
use Rattle.face_sweep.specs.Stops.{AreRisers}
use Rattle.face_sweep.specs.declared.ends.Begin.{Begin}
use Rattle.face_sweep.proofs.StopLemmas.{crossing_push}
use Rattle.face_sweep.proofs.stops.crossings_of.Goals as goal

pub loop-begin-preserved : goal.loop-begin-preserved
loop-begin-preserved c =
    let es = c.args.edges.now in
    let group = c.args.group.now in
    let row = to_z w32 (of_z w32 c.args.row) in
    let at : row ≡ c.args.row = to_z-of_z w32 c.args.row c.ranges.row in
    let points = c.requires.0 in
    let risers = subst (λ z. AreRisers points es z group) (sym at) c.requires.1 in
    let any : Begin = record { key = 0 } in
    let is_number = c.number-number.ensures in
    let e = c.index-edges-number.result in
    let next = crossing_push points es row group c.loop-begin.begin-index any c.loop-begin.crossings.items c.new.result e
    c.loop-begin-test.true risers (subst (λ n. e ≡ get_or es n e) is_number c.index-edges-number.is)
    (c.new.ensures.number ∙ is_number) c.new.ensures.x c.new.ensures.rise
    c.loop-begin.invariant.numbers c.loop-begin.invariant.places in
    let is = c.in_ok-push.ensures.items in
    record {
      numbers = ap (map (λ (z : Crossing). z.number)) is ∙ next.0;
      places = subst (All (IsCrossingOf es row)) (sym is) next.1;
    }

use Rattle.std.proofs.Common.{◌≡◌, [], drop, refl, ap, sym, ◌∙◌}
use Rattle.std.proofs.Math.ListN.{drop_of_length-le}
use Rattle.std.proofs.lemmas.List.{at_drop_more}
use Rattle.cif_write.specs.Lines.{path_text}
use Rattle.cif_write.specs.Ways.{last_point, kept_of}
use Rattle.cif_write.proofs.BegunLemmas.{Begun-all, Begun-nothing, Begun-then}
use Rattle.cif_write.proofs.WayLemmas.{behind_text-step}
use Rattle.cif_write.proofs.points.put_behind.Goals as goal

pub loop-point-init : goal.loop-point-init
loop-point-init g c = record { put = Begun-nothing _ _ _; last = refl }

pub loop-point-preserved : goal.loop-point-preserved
loop-point-preserved g c =
    let points = c.args.points.now in
    let last = c.loop-point.last in
    let i = c.loop-point.point-index in
    record {
      put = Begun-then _ c.loop-point.invariant.put c.put_unless_next.ensures (behind_text-step last points i _ c.loop-point-test.true);
      last = sym (at_drop_more (last_point last) points i _ c.loop-point-test.true) ∙ c.loop-point.invariant.last;
    }

pub returns-clause-put : goal.returns-clause-put
returns-clause-put g c =
    let none : drop c.loop-point.point-index c.args.points.now ≡ [] = drop_of_length-le c.args.points.now c.loop-point-test.false in
    Begun-all c.loop-point.invariant.put (ap (λ ps. path_text (kept_of c.loop-point.last ps)) none)

pub returns-clause-last : goal.returns-clause-last
returns-clause-last g c =
    let none : drop c.loop-point.point-index c.args.points.now ≡ [] = drop_of_length-le c.args.points.now c.loop-point-test.false in
    sym (ap (last_point c.loop-point.last) none) ∙ c.loop-point.invariant.last

use Rattle.std.proofs.Common.{◌≡◌, [], ◌∷◌, drop, get_or, refl, ap, sym, ◌∙◌}
use Rattle.lay_point.specs.Rings.{closed}
use Rattle.std.proofs.Math.ListN.{drop_of_length-le}
use Rattle.byte_io.proofs.BufferedLemmas.{Buffered-is}
use Rattle.cif_write.specs.Lines.{path_text}
use Rattle.cif_write.specs.Ways.{last_point, kept_of, ways}
use Rattle.cif_write.proofs.BegunLemmas.{Begun-all, Begun-nothing, Begun-then}
use Rattle.cif_write.proofs.WayLemmas.{ways_last-step, ways_text-step}
use Rattle.cif_write.proofs.points.put_ways.Goals as goal

pub loop-ring-init : goal.loop-ring-init
loop-ring-init g c = record { put = Begun-nothing _ _ _; last = refl }

pub loop-ring-preserved : goal.loop-ring-preserved
loop-ring-preserved g c =
    let start = c.args.start in
    let last = c.loop-ring.last in
    let after = c.put_way-last.result in
    let rings = c.args.rings.now in
    let i = c.loop-ring.ring-index in
    let ring = c.ring-item.result in
    let is_last : after ≡ last_point last (start ∷ closed (get_or rings i ring)) =
    c.put_way-last.ensures.last ∙ ap (λ r. last_point last (start ∷ closed r)) c.ring-item.is in
    record {
      put = Begun-then _ c.loop-ring.invariant.put
          (Buffered-is c.put_way-last.ensures.put (ap (λ r. path_text (kept_of last (start ∷ closed r))) c.ring-item.is))
          (ways_text-step last start after rings i ring c.loop-ring-test.true is_last);
      last = ways_last-step last start after rings i ring c.loop-ring-test.true is_last ∙ c.loop-ring.invariant.last;
    }

pub returns-clause-put : goal.returns-clause-put
returns-clause-put g c =
    let none : drop c.loop-ring.ring-index c.args.rings.now ≡ [] = drop_of_length-le c.args.rings.now c.loop-ring-test.false in
    Begun-all c.loop-ring.invariant.put (ap (λ rs. path_text (kept_of c.loop-ring.last (ways c.args.start rs))) none)

pub returns-clause-last : goal.returns-clause-last
returns-clause-last g c =
    let none : drop c.loop-ring.ring-index c.args.rings.now ≡ [] = drop_of_length-le c.args.rings.now c.loop-ring-test.false in
    sym (ap (λ rs. last_point c.loop-ring.last (ways c.args.start rs)) none) ∙ c.loop-ring.invariant.last

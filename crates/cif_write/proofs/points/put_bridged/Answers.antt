use Rattle.std.proofs.Common.{◌≡◌, ◌∷◌, length, pos, refl, rules}
use Rattle.std.proofs.lemmas.List.{take_rest}
use Rattle.lay_point.specs.declared.point.Point.{Point}
use Rattle.byte_io.proofs.BufferedLemmas.{Buffered-is, Buffered-nothing, Buffered-then}
use Rattle.cif_write.proofs.WayLemmas.{bridged_text, no_path}
use Rattle.cif_write.proofs.points.put_bridged.Goals as goal

pub returns-in_default : goal.returns-in_default
returns-in_default g c =
    let none : length c.args.rings.now ≡ 0 = search rules in
    Buffered-is (Buffered-nothing _ _) (no_path c.args.rings.now none)

abbrev zero : Point
zero = record { x = pos 0; y = pos 0 }

pub returns : goal.returns
returns g c =
    let points = c.points-points.result.now in
    let all : c.args.rings.now ≡ c.in-Some.first.now ∷ c.in-Some.others.now = search rules in
    Buffered-is
    (Buffered-then (Buffered-then (Buffered-then c.put_point.ensures c.put_behind-round.ensures.put) c.put_ways-last.ensures.put)
    c.put_unless_next.ensures)
    (bridged_text c.in-Some.first.now points _ c.args.rings.now c.in-Some.others.now _ _ c.put_behind-round.result
    c.put_ways-last.result zero c.points-points.ensures.ring all c.points-points.ensures.value refl refl (take_rest points 2)
    c.put_behind-round.ensures.last c.put_ways-last.ensures.last)

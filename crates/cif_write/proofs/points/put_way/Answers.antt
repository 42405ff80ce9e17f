use Rattle.std.proofs.Common.{◌≡◌, ◌++◌, get_or, pos, ap, ◌∙◌}
use Rattle.lay_point.specs.declared.point.Point.{Point}
use Rattle.byte_io.proofs.BufferedLemmas.{Buffered-is, Buffered-then}
use Rattle.cif_write.specs.Lines.{path_text}
use Rattle.cif_write.specs.Ways.{last_point, kept_of, kept_by}
use Rattle.cif_write.proofs.WayLemmas.{way_last, way_text}
use Rattle.cif_write.proofs.points.put_way.Goals as goal

abbrev zero : Point
zero = record { x = pos 0; y = pos 0 }

pub returns-clause-put : goal.returns-clause-put
returns-clause-put g c =
    let ring = c.points-points.ensures.ring in
    let points : c.points-points.result.now ≡ c.args.ring.now = c.points-points.ensures.value in
    Buffered-is (Buffered-then (Buffered-then c.put_unless_next.ensures c.put_behind-round.ensures.put) c.put_unless_next-2.ensures)
    (ap (λ ps. (path_text (kept_by c.args.held c.args.start) ++ path_text (kept_of c.args.start ps))
    ++ path_text (kept_by c.put_behind-round.result (get_or c.points-points.result.now 0 zero))) points
    ∙ way_text c.args.held c.args.start _ c.put_behind-round.result c.args.ring.now zero ring (ap (λ ps. get_or ps 0 zero) points)
    (c.put_behind-round.ensures.last ∙ ap (last_point c.args.start) points))

pub returns-clause-last : goal.returns-clause-last
returns-clause-last g c =
    way_last c.args.held c.args.start _ c.args.ring.now zero c.points-points.ensures.ring
    (ap (λ ps. get_or ps 0 zero) c.points-points.ensures.value)

-- All edges begin in the band, so that each has its label.
use Rattle.std.proofs.Common.{◌≡◌, Contains, true}
use Rattle.lay_point.specs.declared.point.Point.{Point}
use Rattle.lay_point.proofs.Members.{contains}
use Rattle.lay_point.proofs.ListLaws.{has_get}
use Rattle.face_rows.specs.Bands.{begins_in}
use Rattle.face_rows.specs.Lines.{edge_at, nowhere}
use Rattle.face_labels.proofs.WrittenLemmas.{labels_of_all}
use Rattle.face_labels.proofs.labels.label_edges.Goals as goal

pub returns : goal.returns
returns c =
    let r = c.args.edges.now in
    let band = c.of.result in
    let all = coe 0 1 (i. (e : Point × Point) → Contains (c.edges.ensures.value i) e → begins_in band e ≡ true) c.of.ensures in
    labels_of_all c.args.op r c.in_ok-labels.labels.items c.edges.ensures.paired c.in_ok-labels.ensures.len
    (λ n less. c.in_ok-labels.ensures.labels n less (all (edge_at r n) (contains r.0 (edge_at r n) (has_get r.0 n nowhere less))))

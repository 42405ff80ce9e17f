use Rattle.std.proofs.Common.{◌∙◌}
use Rattle.std.specs.List.{zip}
use Rattle.face_labels.proofs.WrittenLemmas.{labels_of_band, written_labels}
use Rattle.face_labels.proofs.labels.label_sharing.Goals as goal

pub returns : goal.returns
returns c =
    c.in_ok-numbered.ensures
    ∙ (λ i. written_labels c.args.band 0 (zip (c.edges.ensures.value i) (c.as_slice.ensures.value i)))
    ∙ labels_of_band c.args.op c.args.edges.now c.args.band c.in_ok-labels.labels.items c.edges.ensures.paired c.in_ok-labels.ensures.len
    c.in_ok-labels.ensures.labels

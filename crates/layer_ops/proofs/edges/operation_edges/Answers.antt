-- The labels are whether the operation's answers differ at each edge.
use Rattle.std.proofs.Common.{◌≡◌, Bool, map, ◌∙◌}
use Rattle.std.specs.Prelude.{filter}
use Rattle.std.specs.List.{zip}
use Rattle.lay_point.specs.declared.point.Point.{Point}
use Rattle.face_rows.specs.Labels.{differs, owned_items}
use Rattle.face_rows.specs.Operations.{answer}
use Rattle.layer_ops.proofs.Kept.{kept_by_labels}
use Rattle.layer_ops.proofs.edges.operation_edges.Goals as goal

pub returns : goal.returns
returns g c =
    let r = c.args.edges.now in
    let test = differs (answer c.args.op) (owned_items r) in
    let labels : c.deref.result.now ≡ map (differs (answer c.args.op) (owned_items r)) (owned_items r) =
    c.deref.ensures.value ∙ c.in_ok-labels.ensures in
    c.in_ok-labelled.ensures
    ∙ (λ k. map (λ (p : (Point × Point) × Bool). p.0) (filter (λ p. p.1) (zip (c.edges.ensures.value k) (labels k))))
    ∙ kept_by_labels test r.0 r.1

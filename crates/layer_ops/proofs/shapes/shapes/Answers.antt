-- Each step's answer is a step of the definition.
use Rattle.std.proofs.Common.{Err, map, ap, ◌∙◌}
use Rattle.std.specs.Global.{Vec}
use Rattle.std.proofs.lemmas.Result.{err_from_is_err_and}
use Rattle.lay_point.specs.declared.ring.Ring.{Ring}
use Rattle.face_ring_laws.specs.Linking.{linked_rings}
use Rattle.layer_ops.specs.Combining.{tested_shapes}
use Rattle.layer_ops.proofs.Short.{all_short, some_long}
use Rattle.layer_ops.proofs.Shaped.{link_failed, parts_are, test_failed, test_passed}
use Rattle.layer_ops.proofs.shapes.shapes.Goals as goal

pub returns-in_err-rings : goal.returns-in_err-rings
returns-in_err-rings c =
    let p = err_from_is_err_and c.from_residual.result c.from_residual.ensures.1 in
    let was = c.in_err-rings.was in
    link_failed c.args.edges.now c.in_err-rings.field-0.0 c.from_residual.result (p.1 ∙ ap Err p.2)
    (λ same. some_long (linked_rings c.args.edges.now) (c.link.ensures.too_many (was ∙ ap Err same)))

pub returns-in_err-test_paths : goal.returns-in_err-test_paths
returns-in_err-test_paths c =
    let p = err_from_is_err_and c.from_residual-in_err-test_paths.result c.from_residual-in_err-test_paths.ensures.1 in
    let was = c.in_err-test_paths.was in
    let parts = map (λ (shape : Vec Ring). shape.items) c.in_ok-shapes.shapes.items in
    let tests = c.test_paths.ensures ∙ ap (λ shapes. tested_shapes (map (λ (shape : Vec Ring). shape.items) shapes))
    c.deref.ensures.value in
    test_failed c.args.edges.now parts c.test_paths.result c.in_err-test_paths.field-0.0 c.from_residual-in_err-test_paths.result was tests
    (parts_are c.args.edges.now c.in_ok-rings.rings.items parts c.in_ok-rings.ensures.value c.in_ok-shapes.ensures.parts) (p.1 ∙ ap Err p.2)

pub returns : goal.returns
returns c =
    let was = c.in_ok-test_paths.was in
    let parts = map (λ (shape : Vec Ring). shape.items) c.in_ok-shapes.shapes.items in
    let tests = c.test_paths.ensures ∙ ap (λ shapes. tested_shapes (map (λ (shape : Vec Ring). shape.items) shapes))
    c.deref.ensures.value in
    test_passed c.args.edges.now parts c.test_paths.result was tests (all_short (linked_rings c.args.edges.now) c.in_ok-rings.ensures.short)
    (parts_are c.args.edges.now c.in_ok-rings.rings.items parts c.in_ok-rings.ensures.value c.in_ok-shapes.ensures.parts)

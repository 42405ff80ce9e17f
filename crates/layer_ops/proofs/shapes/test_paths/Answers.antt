-- All paths so far are short, and this one isn't; or all are.
use Rattle.std.proofs.Common.{cond, Vec, Global, Result, Ok, Err, sym, ap, ◌∙◌}
use Rattle.std.specs.List.{list_all}
use Rattle.std.proofs.lemmas.List.{take_all}
use Rattle.std.proofs.lemmas.List.Folds.{list_all_at, list_all-map}
use Rattle.lay_point.specs.declared.ring.Ring.{Ring}
use Rattle.lay_point.specs.Bridges.{bridged}
use Rattle.bool_rules.specs.Shapes.{is_short}
use Rattle.layer_ops.specs.declared.fault.OpFault.{OpFault}
use Rattle.layer_ops.specs.declared.fault.OpFault.TheVariants.{TooMany}
use Rattle.layer_ops.proofs.shapes.test_paths.Goals as goal

pub returns-then-not-is_path_short : goal.returns-then-not-is_path_short
returns-then-not-is_path_short c =
    let shapes = c.args.shapes.now in
    let item = c.shape-item.result in
    let long = ap (λ (s : Vec Ring Global). is_short (bridged s.items)) (sym c.shape-item.is)
    ∙ sym (ap (λ rings. is_short (bridged rings)) c.deref.ensures.value) ∙ sym c.is_path_short.ensures ∙ c.if-not-is_path_short.true in
    let all = list_all-map (λ shape. is_short (bridged shape)) (λ (s : Vec Ring Global). s.items) shapes
    ∙ list_all_at (λ (s : Vec Ring Global). is_short (bridged s.items)) shapes c.loop-shape.shape-index item c.loop-shape-test.true long in
    sym (ap (λ b. cond {A = Result (Unit {0}) OpFault} b (Ok tt) (Err TooMany)) all)

pub returns : goal.returns
returns c =
    let shapes = c.args.shapes.now in
    let whole = take_all c.loop-shape.shape-index shapes c.loop-shape-test.false in
    let all = list_all-map (λ shape. is_short (bridged shape)) (λ (s : Vec Ring Global). s.items) shapes
    ∙ ap (list_all (λ (s : Vec Ring Global). is_short (bridged s.items))) (sym whole) ∙ c.loop-shape.invariant in
    sym (ap (λ b. cond {A = Result (Unit {0}) OpFault} b (Ok tt) (Err TooMany)) all)

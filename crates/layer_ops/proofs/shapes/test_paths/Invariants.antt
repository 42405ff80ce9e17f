use Rattle.std.proofs.Common.{◌≡◌, true, take}
use Rattle.std.specs.List.{list_all}
use Rattle.lay_point.specs.Bridges.{bridged}
use Rattle.bool_rules.specs.Shapes.{is_short}
use Rattle.layer_ops.proofs.shapes.test_paths.Given as goal

-- the paths round the shapes so far are short
abbrev pub invariant-loop-shape : goal.invariant-loop-shape
invariant-loop-shape l = list_all (λ shape. is_short (bridged shape.items)) (take l.shape-index l.shapes) ≡ true

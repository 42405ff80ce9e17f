use Rattle.std.proofs.Common.{◌≡◌, ◌++◌, map, take}
use Rattle.bool_rules.specs.Shapes.{owned_by}
use Rattle.layer_ops.proofs.turning.add_turned.Given as goal

-- the rings of the flattening so far are added, turned
abbrev pub invariant-loop-ring : goal.invariant-loop-ring
invariant-loop-ring l = l.rings.items ≡ l.fn.rings.items ++ map (owned_by l.input) (take l.ring-index l.ring-items)

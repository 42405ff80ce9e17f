use Rattle.std.proofs.Common.{◌≡◌, take}
use Rattle.layer_ops.proofs.turning.lend_all.Given as goal

-- the rings so far are lent
abbrev pub invariant-loop-ring : goal.invariant-loop-ring
invariant-loop-ring l = l.lent.items ≡ take l.ring-index l.rings

use Rattle.std.specs.Prelude.{All}
use Rattle.lay_point.specs.Rings.{IsRing}
use Rattle.snap_round_bench.proofs.owned.Given as goal

-- the rings so far
abbrev pub invariant-loop-ring : goal.invariant-loop-ring
invariant-loop-ring l = All (λ r. IsRing r.1) l.owned.items

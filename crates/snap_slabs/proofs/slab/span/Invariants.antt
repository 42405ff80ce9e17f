use Rattle.std.proofs.Common.{◌≤ℤ◌, Contains, take}
use Rattle.lay_point.specs.declared.point.Point.{Point}
use Rattle.snap_slabs.proofs.slab.span.Given as goal

-- the centres so far are between the two
abbrev pub invariant-loop-centre : goal.invariant-loop-centre
invariant-loop-centre l = (c : Point) → Contains (take l.centre-index l.centres) c → (l.low ≤ℤ c.y) × (c.y ≤ℤ l.high)

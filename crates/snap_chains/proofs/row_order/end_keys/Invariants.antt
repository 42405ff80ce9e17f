use Rattle.std.proofs.Common.{ℕ, ◌<◌, get_or}
use Rattle.lay_point.specs.declared.point.Point.{Point}
use Rattle.snap_chains.specs.RowOrder.{HasKeys}
use Rattle.snap_chains.proofs.row_order.end_keys.Given as goal

-- the keys of the edges so far are there
abbrev pub invariant-loop-edge : goal.invariant-loop-edge
invariant-loop-edge l = (k : ℕ) (d : Point × Point) → k < l.edge-index → HasKeys l.keys.items (get_or l.edges k d)

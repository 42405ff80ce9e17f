use Rattle.std.proofs.Common.{◌≡◌, ℕ, ◌<◌, get_or, length, map}
use Rattle.lay_point.specs.declared.point.Point.{Point}
use Rattle.snap_chains.specs.RowOrder.{IsSpanOf, keyed_point}
use Rattle.snap_chains.specs.declared.row_order.Span.{Span}
use Rattle.snap_chains.proofs.row_order.keyed_spans.Given as goal

-- the spans of the edges so far
abbrev pub invariant-loop-edge : goal.invariant-loop-edge
invariant-loop-edge l = record {
  as_many : length l.spans.items ≡ l.edge-index;
  spans : (k : ℕ) (d : Point × Point) (s : Span) → k < l.edge-index
      → IsSpanOf (map keyed_point l.keys) (get_or l.edges k d) (get_or l.spans.items k s);
}

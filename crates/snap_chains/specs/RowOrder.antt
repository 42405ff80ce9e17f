-- The ends of edges in the order of rows: points by rows, and where the ends of each edge are among them.
use Rattle.std.specs.Prelude.{◌≡◌, ℕ, ◌+◌, ◌-◌, ◌*◌, ◌/◌, ◌%◌, ◌<◌, List, Some, Contains, length, slice_get, slice_index_or}
use Rattle.lay_point.specs.declared.point.Point.{Point}
use Rattle.lay_point.specs.Rising.{IsRising}
use Rattle.snap_pixels.specs.Coordinates.{coordinate_from, from_least}
use Rattle.snap_slabs.specs.Runs.{IsRowBefore}
use Rattle.snap_chains.specs.Reading.{NumberedEdge, edge_by_numbers}
use Rattle.snap_chains.specs.declared.row_order.Span.{Span}

-- the ends of the edge are there among the points
pub record IsSpanOf (points : List Point) (e : Point × Point) (s : Span) : Type 0 where
  pub low : slice_get points s.low ≡ Some e.0
  pub high : slice_get points s.high ≡ Some e.1

-- the points are by rows, and the spans are those of the edges
pub record AreInRowOrder (edges : List (Point × Point)) (order : List Point × List Span) : Type 0 where
  pub by_row : IsRising IsRowBefore order.0
  pub as_many : length order.1 ≡ length edges
  pub spanned : (n : ℕ) (e : Point × Point) (s : Span) → n < length edges
      → IsSpanOf order.0 (slice_index_or edges n e) (slice_index_or order.1 n s)

-- ---- by keys
-- the point as one number: these are in the order of rows, in a row from right to left
abbrev pub end_key : Point → ℕ
end_key p = from_least p.y * 4294967296 + (4294967295 - from_least p.x)

-- the point of this key
abbrev pub keyed_point : ℕ → Point
keyed_point k = record { x = coordinate_from (4294967295 - k % 4294967296); y = coordinate_from (k / 4294967296) }

-- the keys of both ends of the edge are among the keys
abbrev pub HasKeys : List ℕ → Point × Point → Type 0
HasKeys keys e = Contains keys (end_key e.0) × Contains keys (end_key e.1)

-- the ends of each edge are where its span tells among the points
abbrev pub AreSpansOf : List Point → List (Point × Point) → List Span → Type 0
AreSpansOf points edges spans = (n : ℕ) (e : Point × Point) (s : Span) → n < length edges
    → IsSpanOf points (slice_index_or edges n e) (slice_index_or spans n s)

-- ---- by numbers
abbrev pub span_of : List ℕ → NumberedEdge → Span
span_of ranks e = record { low = slice_index_or ranks e.0 0; high = slice_index_or ranks e.1 0 }

-- the span is that of the edge between centres of two numbers, by the ranks of these
pub record IsSpanBy (hot : List Point) (ranks : List ℕ) (e : Point × Point) (s : Span) : Type 0 where
  pub ends : NumberedEdge
  pub first : ends.0 < length hot
  pub second : ends.1 < length hot
  pub edge : e ≡ edge_by_numbers hot ends
  pub span : s ≡ span_of ranks ends

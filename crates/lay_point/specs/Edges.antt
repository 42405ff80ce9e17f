-- Undirected edges: pairs of points, the lesser first.
-- Source: this project's own.
use Rattle.std.specs.Prelude.{◌≡◌, ◌⊎◌, int_lt, Bool, cond, ◌&&◌, ◌||◌}
use Rattle.std.specs.Ordering.{int_eq}
use Rattle.lay_point.specs.declared.point.Point.{Point}
use Rattle.lay_point.specs.Points.{IsBefore, point_eq}

-- p comes before q in the order of points: by x, then by y
abbrev pub is_before : Point → Point → Bool
is_before p q = int_lt p.x q.x || (int_eq p.x q.x && int_lt p.y q.y)

-- the pair, its lesser point first
abbrev pub undirected : Point × Point → Point × Point
undirected e = cond (is_before e.0 e.1) e (e.1, e.0)

-- by lesser end, then by greater
abbrev pub IsEdgeBefore : Point × Point → Point × Point → Type 0
IsEdgeBefore e f = IsBefore e.0 f.0 ⊎ ((e.0 ≡ f.0) × IsBefore e.1 f.1)

abbrev pub same_edge : Point × Point → Point × Point → Bool
same_edge e f = point_eq e.0 f.0 && point_eq e.1 f.1

-- the point is an end of the edge
abbrev pub touches : Point → Point × Point → Bool
touches v e = point_eq e.0 v || point_eq e.1 v

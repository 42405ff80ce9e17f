-- How the edges that are left are found at a point: the ends of all edges in order, and a mark for each edge that is used.
use Rattle.std.specs.Prelude.{◌≡◌, ◌↔◌, ℕ, zero, suc, pos, ◌<◌, ◌≤◌, Bool, true, false, List, [], ◌∷◌, length}
use Rattle.std.specs.Prelude.{Contains, IsTrue, if◌then◌else◌, slice_index, slice_index_or}
use Rattle.std.specs.declared.cmp.Ordering.{Ordering}
use Rattle.std.specs.List.Sorted.{IsSorted}
use Rattle.std.specs.Ordering.{int_cmp, is_lt, nat_cmp, on, then_cmp}
use Rattle.lay_point.specs.declared.point.Point.{Point}
use Rattle.lay_point.specs.Edges.{touches}
use Rattle.lay_point.specs.Points.{point_eq}
use Rattle.face_rings.specs.declared.incidence.End.{End}
use Rattle.face_rings.specs.declared.incidence.Firsts.{Firsts}
use Rattle.face_rings.specs.declared.incidence.Incidence.{Incidence}
use Rattle.face_ring_laws.specs.Linking.{Ends}

-- the edges without a mark
abbrev pub left_of : List Ends → List Bool → List Ends
left_of [] marks = []
left_of (e ∷ es) [] = []
left_of (e ∷ es) (m ∷ marks) = if m then left_of es marks else e ∷ left_of es marks

-- what `cmp` of points and of ends computes: by point, then by number
abbrev pub point_cmp : Point → Point → Ordering
point_cmp = then_cmp (on (λ p. p.x) int_cmp) (on (λ p. p.y) int_cmp)

abbrev pub end_cmp : End → End → Ordering
end_cmp = then_cmp (on (λ e. e.at) point_cmp) (on (λ e. e.edge) nat_cmp)

-- the end stands at an end of the edge of its number
abbrev pub IsAtEdgeEnd : List Ends → End → Type 0
IsAtEdgeEnd edges end = (end.edge < length edges) × ((d : Ends) → IsTrue (touches end.at (slice_index_or edges end.edge d)))

-- the ends of the edges, in order
pub record AreEndsOf (edges : List Ends) (ends : List End) : Type 0 where
  pub sorted : IsSorted end_cmp ends
  pub exact : (end : End) → Contains ends end ↔ IsAtEdgeEnd edges end

abbrev pub no_end : End
no_end = record { at = record { x = pos 0; y = pos 0 }; edge = 0 }

-- the first end at the point has this index: those before it are at lesser points, and the others at no lesser ones
pub record IsFirstAt (ends : List End) (at : Point) (first : ℕ) : Type 0 where
  pub inside : first < length ends
  pub before : (k : ℕ) (d : End) → k < first → is_lt (point_cmp (slice_index_or ends k d).at at) ≡ true
  pub behind : (k : ℕ) (d : End) → first ≤ k → k < length ends → is_lt (point_cmp (slice_index_or ends k d).at at) ≡ false

-- the first end at the point of the end at this index, by that of the end before
abbrev pub next_first : List End → ℕ → ℕ → ℕ
next_first ends first zero = zero
next_first ends first (suc index) =
    if point_eq (slice_index_or ends index no_end).at (slice_index_or ends (suc index) no_end).at then first else suc index

-- for each edge the first ends at its two points
pub record AreFirstsOf (edges : List Ends) (ends : List End) (firsts : List Firsts) : Type 0 where
  pub each : length firsts ≡ length edges
  pub low : (k : ℕ) (d : Ends) (f : Firsts) → k < length edges → IsFirstAt ends (slice_index_or edges k d).0 (slice_index_or firsts k f).low
  pub high : (k : ℕ) (d : Ends) (f : Firsts) → k < length edges
      → IsFirstAt ends (slice_index_or edges k d).1 (slice_index_or firsts k f).high

-- the edge of the end at this index is used
abbrev pub IsUsedAt : List Bool → List End → ℕ → Type 0
IsUsedAt used ends index = (d : End) → IsTrue (slice_index_or used (slice_index_or ends index d).edge true)

-- the edges that are used have marks, and from an index up to its cursor all ends are of such edges
pub record IsIncidence (edges : List Ends) (i : Incidence) : Type 0 where
  pub ends : AreEndsOf edges i.ends.items
  pub firsts : AreFirstsOf edges i.ends.items i.firsts.items
  pub marks : length i.used.items ≡ length edges
  pub cursors : length i.cursors.items ≡ length i.ends.items
  pub passed : (first index : ℕ) → first < length i.cursors.items → first ≤ index → index < slice_index i.cursors.items first
      → IsUsedAt i.used.items i.ends.items index

-- what is marked stays so
abbrev pub KeepsMarks : List Bool → List Bool → Type 0
KeepsMarks old new = (k : ℕ) → IsTrue (slice_index_or old k true) → IsTrue (slice_index_or new k true)

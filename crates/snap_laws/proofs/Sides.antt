-- Segments and their sides: which centres are hot depends on the ends alone.
use Rattle.std.proofs.Common.{◌≡◌, ◌⊎◌, inl, inr, List, map, ◌<ℤ◌, ap, subst, ◌∙◌}
use Rattle.lay_point.specs.declared.point.Point.{Point}
use Rattle.lay_point.specs.Points.{IsBefore}
use Rattle.snap_pixels.specs.declared.segment.Segment.{Segment}
use Rattle.snap_pixels.specs.Hot.{IsHot}
use Rattle.snap_pixels.specs.Segments.{Crosses}
use Rattle.snap_pixels.proofs.MarkLemmas.{HoldsPlace-whole}
use Rattle.lay_point.proofs.Members.{Has, has, contains}
use Rattle.lay_point.proofs.ListLaws.{map-has}
use Rattle.snap_chains.specs.Sides.{segment_ends}
use Rattle.snap_chains.proofs.PathLemmas.{Contains-map}
use Rattle.snap_laws.specs.Rounding.{way_along}

-- the centre is an end of a side, or the pixel of a crossing
abbrev pub IsMarked : List (Point × Point) → Point → Type 0
IsMarked sides c =
    ((e : Point × Point) × Has sides e × ((e.0 ≡ c) ⊎ (e.1 ≡ c)))
    ⊎ ((e : Point × Point) × (f : Point × Point) × Has sides e × Has sides f × Crosses e.0 e.1 f.0 f.1 c)

pub hot_marked : (segments : List Segment) (c : Point) → IsHot segments c → IsMarked (map segment_ends segments) c
hot_marked segments c (inl (s, m, inl h)) =
    inl (
      segment_ends s,
      has (map segment_ends segments) (segment_ends s) (Contains-map segment_ends segments s m),
      inl ((HoldsPlace-whole s.a c).0 h),
    )
hot_marked segments c (inl (s, m, inr h)) =
    inl (
      segment_ends s,
      has (map segment_ends segments) (segment_ends s) (Contains-map segment_ends segments s m),
      inr ((HoldsPlace-whole s.b c).0 h),
    )
hot_marked segments c (inr (s, t, m, n, x)) = inr (
  segment_ends s,
  segment_ends t,
  has (map segment_ends segments) (segment_ends s) (Contains-map segment_ends segments s m),
  has (map segment_ends segments) (segment_ends t) (Contains-map segment_ends segments t n),
  x,
)

pub marked_hot : (segments : List Segment) (c : Point) → IsMarked (map segment_ends segments) c → IsHot segments c
marked_hot segments c (inl (e, m, inl same)) =
    let s = map-has segment_ends segments e m in
    inl (s.0, contains segments s.0 s.1, inl ((HoldsPlace-whole s.0.a c).1 (ap (λ (p : Point × Point). p.0) s.2 ∙ same)))
marked_hot segments c (inl (e, m, inr same)) =
    let s = map-has segment_ends segments e m in
    inl (s.0, contains segments s.0 s.1, inr ((HoldsPlace-whole s.0.b c).1 (ap (λ (p : Point × Point). p.1) s.2 ∙ same)))
marked_hot segments c (inr (e, f, m, n, x)) =
    let s = map-has segment_ends segments e m in
    let t = map-has segment_ends segments f n in
    inr (
      s.0,
      t.0,
      contains segments s.0 s.1,
      contains segments t.0 t.1,
      coe 1 0 (i. Crosses (s.2 i).0 (s.2 i).1 (t.2 i).0 (t.2 i).1 c) x,
    )

pub hot_same : (segments segments' : List Segment) → map segment_ends segments ≡ map segment_ends segments' → (c : Point)
    → IsHot segments c → IsHot segments' c
hot_same segments segments' e c h = marked_hot segments' c (subst (λ sides. IsMarked sides c) e (hot_marked segments c h))

-- the order of a chain, by the ends of its side
abbrev pub IsBelowOn : Point → Point → Point → Point → Type 0
IsBelowOn a b c d = (way_along a b c <ℤ way_along a b d) ⊎ ((way_along a b c ≡ way_along a b d) × IsBefore c d)

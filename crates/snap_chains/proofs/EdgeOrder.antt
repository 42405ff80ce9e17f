-- The order of edges as `Ord` computes it.
use Rattle.std.proofs.Common.{◌≡◌, inl, inr, refl, sym, ap, Decides}
use Rattle.std.specs.declared.cmp.Ordering.{Ordering}
use Rattle.std.specs.declared.cmp.Ordering.TheVariants.{Less, Equal, Greater}
use Rattle.std.specs.Ordering.{on, then_cmp, ordering_then}
use Rattle.std.specs.Cmp.{IsTotalOrder}
use Rattle.std.proofs.lemmas.Bool.Decides.{Decides-and, Decides-like}
use Rattle.std.proofs.lemmas.Cmp.{on_total, then_total}
use Rattle.lay_point.specs.declared.point.Point.{Point}
use Rattle.lay_point.specs.contracts.edge.EdgeOrd.TheImpl.Laws.{matches_eq-law}
use Rattle.lay_point.specs.Same.{point_eq-Decides}
use Rattle.snap_pixels.proofs.OrderLemmas.{point_cmp, point_cmp_total, IsBefore-from_Less, same-from_Equal}
use Rattle.lay_point.specs.Edges.{IsEdgeBefore, same_edge}
use Rattle.snap_slabs.proofs.Sorted.{IsOrder}

-- what `cmp` of edges computes
abbrev pub edge_cmp : Point × Point → Point × Point → Ordering
edge_cmp = then_cmp (on (λ e. e.0) point_cmp) (on (λ e. e.1) point_cmp)

pub edge_cmp_total : IsTotalOrder edge_cmp
edge_cmp_total = then_total (on_total (λ (e : Point × Point). e.0) point_cmp_total) (on_total (λ (e : Point × Point). e.1) point_cmp_total)

pub edges_decide : (e f : Point × Point) → Decides (same_edge e f) (e ≡ f)
edges_decide e f =
    Decides-like (same_edge e f) (λ both. λ i. (both.0 i, both.1 i))
    (λ same. (ap (λ (g : Point × Point). g.0) same, ap (λ (g : Point × Point). g.1) same))
    (Decides-and _ _ (point_eq-Decides e.0 f.0) (point_eq-Decides e.1 f.1))

before_by_low : (e f : Point × Point) (o : Ordering) → o ≡ point_cmp e.0 f.0 → ordering_then o (point_cmp e.1 f.1) ≡ Less → IsEdgeBefore e f
before_by_low e f Less s h = inl (IsBefore-from_Less e.0 f.0 (sym s))
before_by_low e f Equal s h = inr (same-from_Equal e.0 f.0 (sym s), IsBefore-from_Less e.1 f.1 h)
before_by_low e f Greater s h = cc

pub edge_order : IsOrder edge_cmp same_edge IsEdgeBefore
edge_order = record {
  total = edge_cmp_total;
  decides = edges_decide;
  ties = matches_eq-law;
  less = λ e f h. before_by_low e f (point_cmp e.0 f.0) refl h;
}

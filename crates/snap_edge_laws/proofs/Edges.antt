-- The undirected edges of rounded rings are clean, since each is an edge of one of the segments; and those that a shape's rings go an odd
-- number of times are even at every point, since rings are closed.
use Rattle.std.proofs.Common.{◌≡◌, inl, inr, ℤ, ◌&&◌, List, [], ◌∷◌, refl, sym, ap, subst, ◌∙◌, Contains}
use Rattle.lay_point.specs.declared.point.Point.{Point}
use Rattle.lay_point.specs.Points.{point_eq}
use Rattle.snap_pixels.specs.declared.segment.Segment.{Segment}
use Rattle.snap_pixels.specs.Hot.{IsHot}
use Rattle.snap_edge_laws.specs.Edges.{IsOn, IsEndpoint}
use Rattle.snap_edge_laws.proofs.Places.{turned_on}
use Rattle.snap_edge_laws.proofs.SharedEnds.{ends_differ}
use Rattle.lay_point.specs.Rising.{pairs, IsFromTo}
use Rattle.lay_point.specs.Parity.{xor}
use Rattle.snap_edge_laws.specs.Chains.{IsRoundedEdge}
use Rattle.snap_edge_laws.specs.Rounding.{closed_walk}
use Rattle.lay_point.specs.Edges.{IsEdgeBefore, same_edge, touches}
use Rattle.snap_edge_laws.specs.Undirected.{walked_edges, is_owned, AreRoundedRings}
use Rattle.lay_point.specs.Edges.{undirected}
use Rattle.snap_edge_laws.specs.Undirected.{AreEdgesOf, EdgesAreClean, OwnedEdgesAreEven}
use Rattle.lay_point.proofs.Members.{Has, has, contains}
use Rattle.snap_edge_laws.proofs.Chains.{edge_of_neighbours, rounded_edges_are_clean}
use Rattle.lay_point.proofs.Parity.{parity_agree}
use Rattle.snap_edge_laws.proofs.Walks.{AreClosed, even_edges, touches-xor}
use Rattle.snap_edge_laws.proofs.Rounded.{rounded_paths_have_edges, rounded_ring_is_closed}
use Rattle.snap_edge_laws.proofs.Undirected.{HasEndsOf, gone, edges_of_more}
use Rattle.lay_point.proofs.EdgeOrder.{edges_are_strict, edges_decide, points_decide}
use Rattle.lay_point.proofs.RingLemmas.{point_eq-true}
use Rattle.snap_edge_laws.proofs.Undirected.{undirected_ends, undirected_xor, one_undirected}

-- an edge of R, and the neighbours in a segment's chain that it comes from
record ComesFrom (segments : List Segment) (e : Point × Point) : Type 0 where
  pub pair : Point × Point
  pub goes : undirected pair ≡ e
  pub rounded : IsRoundedEdge segments pair.0 pair.1
  pub ends : HasEndsOf e pair
  pub differ : ¬ (pair.0 ≡ pair.1)

comes_from : (segments : List Segment) (walks : List (List Point)) (edges : List (Point × Point)) → AreRoundedRings segments walks
    → AreEdgesOf walks edges → (e : Point × Point) → Contains edges e → ComesFrom segments e
comes_from segments walks edges rings h e m =
    let r = gone undirected walks e (has (walked_edges undirected walks) e ((h.exact e).0 m)) in
    let ring = rings r.walk (contains walks r.walk r.given) in
    let rounded = rounded_paths_have_edges segments (closed_walk ring.0) r.walk ring.1 r.pair.0 r.pair.1
    (contains (pairs r.walk) r.pair r.neighbours) in
    record {
      pair = r.pair;
      goes = r.goes;
      rounded = rounded;
      ends = subst (λ g. HasEndsOf g r.pair) r.goes (undirected_ends r.pair);
      differ = ends_differ rounded.s r.pair.0 r.pair.1
          (edge_of_neighbours (IsHot segments) rounded.s rounded.chain r.pair.0 r.pair.1 rounded.is_chain
          (has (pairs rounded.chain) r.pair rounded.neighbours)).below;
    }

-- ---- clean
on_pair : (e p : Point × Point) (k x y : ℤ) → HasEndsOf e p → IsOn e.0 e.1 k x y → IsOn p.0 p.1 k x y
unfolding HasEndsOf
on_pair e p k x y (inl g) h = subst (λ v. IsOn v p.1 k x y) g.0 (subst (λ v. IsOn e.0 v k x y) g.1 h)
on_pair e p k x y (inr g) h =
    turned_on p.1 p.0 k x y (subst (λ v. IsOn v p.0 k x y) g.0 (subst (λ v. IsOn e.0 v k x y) g.1 h))

end_of_edge : (e p : Point × Point) (v : Point) → HasEndsOf e p → IsEndpoint v p.0 p.1 → IsEndpoint v e.0 e.1
unfolding HasEndsOf
end_of_edge e p v (inl g) (inl h) = inl (h ∙ sym g.0)
end_of_edge e p v (inl g) (inr h) = inr (h ∙ sym g.1)
end_of_edge e p v (inr g) (inl h) = inr (h ∙ sym g.1)
end_of_edge e p v (inr g) (inr h) = inl (h ∙ sym g.0)

pub edges_are_clean : (segments : List Segment) → EdgesAreClean segments
edges_are_clean segments walks edges rings h e f me mf differ k x y scale on_e on_f =
    let p = comes_from segments walks edges rings h e me in
    let q = comes_from segments walks edges rings h f mf in
    let shared = rounded_edges_are_clean segments p.pair.0 p.pair.1 q.pair.0 q.pair.1 p.rounded q.rounded
    (λ one. differ (sym p.goes ∙ one_undirected p.pair q.pair p.differ one ∙ q.goes))
    k x y scale (on_pair e p.pair k x y p.ends on_e) (on_pair f q.pair k x y q.ends on_f) in
    record {
      end = shared.end;
      column = shared.column;
      row = shared.row;
      of_first = end_of_edge e p.pair shared.end p.ends shared.of_first;
      of_second = end_of_edge f q.pair shared.end q.ends shared.of_second;
    }

-- ---- even
different_ends : (e p : Point × Point) → HasEndsOf e p → ¬ (p.0 ≡ p.1) → ¬ (e.0 ≡ e.1)
unfolding HasEndsOf
different_ends e p (inl g) differ same = differ (sym g.0 ∙ same ∙ g.1)
different_ends e p (inr g) differ same = differ (sym g.1 ∙ sym same ∙ g.0)

all_closed : {A : Type 0} (walks : List (List A)) → ((w : List A) → Has walks w → (a : A) × IsFromTo a a w) → AreClosed walks
all_closed [] h = tt
all_closed (w ∷ ws) h = (h w (inl refl), all_closed ws (λ v m. h v (inr m)))

pub owned_edges_are_even : (segments : List Segment) → OwnedEdgesAreEven segments
owned_edges_are_even segments walks some edges rings h inside v =
    parity_agree (λ e. is_owned some e && touches v e) (λ e. is_owned some e && xor (point_eq e.0 v) (point_eq e.1 v)) edges
    (λ e m. let p = comes_from segments walks edges rings h e (contains edges e m) in
    ap (λ b. is_owned some e && b)
    (touches-xor point_eq points_decide e.0 e.1 v (different_ends e p.pair p.ends p.differ) (point_eq-true e.0 v) (point_eq-true e.1 v)))
    ∙ even_edges IsEdgeBefore edges_are_strict same_edge edges_decide undirected (λ e. xor (point_eq e.0 v) (point_eq e.1 v))
    (λ p. point_eq p v) (undirected_xor (λ p. point_eq p v)) some
    (all_closed some (λ w m. let ring = rings w (inside w (contains some w m)) in
    rounded_ring_is_closed segments ring.0 w ring.1))
    edges h.rising
    (λ e m. has edges e ((h.exact e).1 (contains (walked_edges undirected walks) e
    (edges_of_more undirected some walks (λ w n. has walks w (inside w (contains some w n))) e m))))

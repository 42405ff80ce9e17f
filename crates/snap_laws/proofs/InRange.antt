-- What rounding makes is in order, clean and in range. A place between two coordinates is rounded to one between them, so a hot centre
-- is no further out than the ends of the sides.
use Rattle.std.proofs.Common.{◌≡◌, inl, inr, Bool, true, false, cond, List, [], ◌∷◌, ℤ, neg_ℤ, ◌-ℤ◌, ◌*ℤ◌}
use Rattle.std.proofs.Common.{◌≤ℤ◌, refl, subst, arith, ⊎_elim, Contains}
use Rattle.std.specs.Prelude.{int_le}
use Rattle.std.specs.List.{AllByRecursion, list_all}
use Rattle.std.proofs.lemmas.List.Elements.{recursion_from_All}
use Rattle.std.proofs.lemmas.Bool.{and_from, and_parts, both_ways}
use Rattle.lay_point.proofs.Polynomials.{#, ◌⊕◌, ◌⊖◌, ◌⊗◌, identity}
use Rattle.lay_point.proofs.Signs.{linear, times_le}
use Rattle.lay_point.proofs.Tests.{le_true, true_le}
use Rattle.lay_point.specs.declared.point.Point.{Point}
use Rattle.lay_point.specs.declared.point.TheConstants.{LIMIT}
use Rattle.lay_point.specs.Edges.{is_before, undirected}
use Rattle.lay_point.specs.Points.{is_coordinate, is_in_range}
use Rattle.lay_point.specs.Rings.{IsRing}
use Rattle.lay_point.proofs.EdgeOrder.{before_total, test_by_before}
use Rattle.snap_pixels.specs.declared.segment.Segment.{Segment}
use Rattle.snap_pixels.specs.Hot.{IsHot}
use Rattle.snap_pixels.specs.Pixels.{HoldsPlace}
use Rattle.snap_pixels.specs.Segments.{IsFraction, along}
use Rattle.snap_pixels.proofs.RoundLemmas.{IsRoundedTo-low, IsRoundedTo-high}
use Rattle.snap_edge_laws.proofs.SharedEnds.{ends_differ}
use Rattle.snap_edge_laws.specs.Chains.{IsRoundedEdge}
use Rattle.lay_point.specs.Rising.{pairs}
use Rattle.snap_edge_laws.specs.Rounding.{closed_walk}
use Rattle.snap_edge_laws.specs.Undirected.{walked_edges}
use Rattle.snap_edge_laws.proofs.Chains.{edge_of_neighbours}
use Rattle.lay_point.proofs.Members.{Has, has, contains, has-append}
use Rattle.lay_point.proofs.Rising.{pair_first, pair_second}
use Rattle.snap_edge_laws.proofs.Rounded.{rounded_paths_have_edges}
use Rattle.snap_edge_laws.proofs.Undirected.{gone}
use Rattle.snap_edge_laws.proofs.Motion.{mixture_high}
use Rattle.snap_chains.specs.declared.owner.Owner.{Owner}
use Rattle.snap_chains.specs.OwnedRings.{AreRounded}
use Rattle.snap_chains.specs.Round.{IsRoundOf}
use Rattle.snap_chains.specs.Rounded.{Owned}
use Rattle.snap_chains.proofs.RoundLemmas.{round_is_clean, round_is_rounded, rounded_ring}
use Rattle.snap_laws.specs.RoundLaws.{AreOwnedRings, IsEdgeInRange, RoundedIsInRange, RoundedIsRounded}
use Rattle.snap_laws.specs.Rounding.{sides_of}
use Rattle.snap_laws.proofs.Sides.{IsMarked, hot_marked}

-- ---- where an edge comes from
record ComesFrom (segments : List Segment) (e : Point × Point) : Type 0 where
  pub pair : Point × Point
  pub goes : undirected pair ≡ e
  pub rounded : IsRoundedEdge segments pair.0 pair.1

comes_from : (rings : List (Owner × List Point)) (r : Owned) (h : IsRoundOf rings r) (e : Point × Point) → Contains r.0 e
    → ComesFrom h.rounded.segments e
comes_from rings r h e m =
    let g = gone undirected h.walks e (has (walked_edges undirected h.walks) e ((h.edges.exact e).0 m)) in
    let ring = rounded_ring h.rounded.segments rings h.walks h.rounded.rounded g.walk g.given in
    record {
      pair = g.pair;
      goes = g.goes;
      rounded = rounded_paths_have_edges h.rounded.segments (closed_walk ring.0) g.walk ring.1 g.pair.0 g.pair.1
          (contains (pairs g.walk) g.pair g.neighbours);
    }

-- ---- in order
lesser_first : (p : Point × Point) → ¬ (p.0 ≡ p.1) → is_before (undirected p).0 (undirected p).1 ≡ true
lesser_first p differ = by_test (is_before p.0 p.1) refl
  where
    by_test : (b : Bool) → is_before p.0 p.1 ≡ b → is_before (cond b p (p.1, p.0)).0 (cond b p (p.1, p.0)).1 ≡ true
    by_test true e = e
    by_test false e = ⊎_elim (λ same. absurd (differ same))
        (⊎_elim (λ less. absurd (both_ways (is_before p.0 p.1) e (test_by_before p.0 p.1 less))) (λ more. test_by_before p.1 p.0 more))
        (before_total p.0 p.1)

pub rounded_is_rounded : RoundedIsRounded
rounded_is_rounded rings are r h = record {
  rounded = round_is_rounded rings r.0 r.1 h;
  clean = round_is_clean rings r.0 r.1 h;
  lesser_first = λ e m.
      let p = comes_from rings r h e m in
      let g = p.rounded in
      let edge = edge_of_neighbours (IsHot h.rounded.segments) g.s g.chain p.pair.0 p.pair.1 g.is_chain
      (has (pairs g.chain) p.pair g.neighbours) in
      let differ = ends_differ g.s p.pair.0 p.pair.1 edge.below in
      subst (λ f. is_before f.0 f.1 ≡ true) p.goes (lesser_first p.pair differ);
}

-- ---- in range
-- neither coordinate is beyond the limit
pub record IsInside (p : Point) : Type 0 where
  pub left : neg_ℤ LIMIT ≤ℤ p.x
  pub right : p.x ≤ℤ LIMIT
  pub low : neg_ℤ LIMIT ≤ℤ p.y
  pub high : p.y ≤ℤ LIMIT

inside_by_test : (p : Point) → is_in_range p ≡ true → IsInside p
inside_by_test p e =
    let both = and_parts (is_coordinate p.x) (is_coordinate p.y) e in
    let x = and_parts (int_le (neg_ℤ LIMIT) p.x) (int_le p.x LIMIT) both.0 in
    let y = and_parts (int_le (neg_ℤ LIMIT) p.y) (int_le p.y LIMIT) both.1 in
    record {
      left = le_true (neg_ℤ LIMIT) p.x x.0;
      right = le_true p.x LIMIT x.1;
      low = le_true (neg_ℤ LIMIT) p.y y.0;
      high = le_true p.y LIMIT y.1;
    }

test_by_inside : (p : Point) → IsInside p → is_in_range p ≡ true
test_by_inside p h =
    and_from (is_coordinate p.x) (is_coordinate p.y)
    (and_from (int_le (neg_ℤ LIMIT) p.x) (int_le p.x LIMIT) (true_le (neg_ℤ LIMIT) p.x h.left) (true_le p.x LIMIT h.right))
    (and_from (int_le (neg_ℤ LIMIT) p.y) (int_le p.y LIMIT) (true_le (neg_ℤ LIMIT) p.y h.low) (true_le p.y LIMIT h.high))

-- a mixture of two numbers isn't beyond what neither is beyond
along_low : (m k t a b : ℤ) → IsFraction t k → m ≤ℤ a → m ≤ℤ b → (m *ℤ k) ≤ℤ along k t a b
along_low m k t a b f ha hb =
    let p = times_le (k -ℤ t) m a (omega (arith, linear, f.high)) ha in
    let q = times_le t m b f.low hb in
    let e = identity (m ∷ k ∷ t ∷ []) ((# 1 ⊖ # 2) ⊗ # 0 ⊕ # 2 ⊗ # 0) (# 0 ⊗ # 1) refl in
    let g = identity (k ∷ t ∷ a ∷ b ∷ []) ((# 0 ⊖ # 1) ⊗ # 2 ⊕ # 1 ⊗ # 3) (# 2 ⊗ (# 0 ⊖ # 1) ⊕ # 3 ⊗ # 1) refl in
    omega (arith, linear)

pub inside_along : (a b c : Point) (k t : ℤ) → IsInside a → IsInside b → IsFraction t k
    → HoldsPlace c k (along k t a.x b.x) (along k t a.y b.y) → IsInside c
inside_along a b c k t ha hb f place = record {
  left = IsRoundedTo-low (neg_ℤ LIMIT) c.x k _ f.scale (along_low (neg_ℤ LIMIT) k t a.x b.x f ha.left hb.left) place.column;
  right = IsRoundedTo-high LIMIT c.x k _ f.scale (mixture_high LIMIT k t a.x b.x f ha.right hb.right) place.column;
  low = IsRoundedTo-low (neg_ℤ LIMIT) c.y k _ f.scale (along_low (neg_ℤ LIMIT) k t a.y b.y f ha.low hb.low) place.row;
  high = IsRoundedTo-high LIMIT c.y k _ f.scale (mixture_high LIMIT k t a.y b.y f ha.high hb.high) place.row;
}

-- ---- the ends of sides
point_inside : (ps : List Point) → list_all is_in_range ps ≡ true → (p : Point) → Has ps p → IsInside p
point_inside [] h p m = absurd m
point_inside (q ∷ ps) h p (inl e) =
    subst IsInside e (inside_by_test q (and_parts (is_in_range q) (list_all is_in_range ps) h).0)
point_inside (q ∷ ps) h p (inr m) = point_inside ps (and_parts (is_in_range q) (list_all is_in_range ps) h).1 p m

on_ring : (ring : List Point) (p : Point) → Has (closed_walk ring) p → Has ring p
on_ring [] p m = absurd m
on_ring (q ∷ qs) p (inl e) = inl e
on_ring (q ∷ qs) p (inr m) = ⊎_elim (λ here. inr here) (⊎_elim (λ (e : q ≡ p). inl e) (λ none. absurd none)) (has-append qs (q ∷ []) p m)

side_inside : (rings : List (Owner × List Point)) → AllByRecursion (λ r. IsRing r.1) rings → (e : Point × Point) → Has (sides_of rings) e
    → IsInside e.0 × IsInside e.1
side_inside [] h e m = absurd m
side_inside (r ∷ rings) h e m = ⊎_elim
    (λ (here : Has (pairs (closed_walk r.1)) e). (
      point_inside r.1 h.0.in_range e.0 (on_ring r.1 e.0 (pair_first (closed_walk r.1) e.0 e.1 here)),
      point_inside r.1 h.0.in_range e.1 (on_ring r.1 e.1 (pair_second (closed_walk r.1) e.0 e.1 here)),
    ))
    (λ (there : Has (sides_of rings) e). side_inside rings h.1 e there)
    (has-append (pairs (closed_walk r.1)) (sides_of rings) e m)

-- ---- hot centres, and the ends of edges
hot_inside : (rings : List (Owner × List Point)) → AreOwnedRings rings
    → (walks : List (List Point)) (h : AreRounded rings walks) (c : Point)
    → IsHot h.segments c → IsInside c
hot_inside rings are walks h c hot = by_mark (subst (λ sides. IsMarked sides c) h.sides (hot_marked h.segments c hot))
  where
    inside : (e : Point × Point) → Has (sides_of rings) e → IsInside e.0 × IsInside e.1
    inside = side_inside rings (recursion_from_All (λ (r : Owner × List Point). IsRing r.1) rings are)

    by_mark : IsMarked (sides_of rings) c → IsInside c
    by_mark (inl (e, m, inl same)) = subst IsInside same (inside e m).0
    by_mark (inl (e, m, inr same)) = subst IsInside same (inside e m).1
    by_mark (inr (e, f, m, n, (apart, k, t, u, common, place))) =
        inside_along e.0 e.1 c k t (inside e m).0 (inside e m).1 common.first place

undirected_inside : (p e : Point × Point) → undirected p ≡ e → IsInside p.0 → IsInside p.1 → IsEdgeInRange e
undirected_inside p e goes first second = subst IsEdgeInRange goes (by_test (is_before p.0 p.1))
  where
    by_test : (b : Bool) → IsEdgeInRange (cond b p (p.1, p.0))
    by_test true = (test_by_inside p.0 first, test_by_inside p.1 second)
    by_test false = (test_by_inside p.1 second, test_by_inside p.0 first)

pub rounded_is_in_range : RoundedIsInRange
rounded_is_in_range rings are r h e m =
    let p = comes_from rings r h e m in
    let g = p.rounded in
    let pair = has (pairs g.chain) p.pair g.neighbours in
    undirected_inside p.pair e p.goes
    (hot_inside rings are h.walks h.rounded p.pair.0
    ((g.is_chain.exact p.pair.0).0 (contains g.chain p.pair.0 (pair_first g.chain p.pair.0 p.pair.1 pair))).0)
    (hot_inside rings are h.walks h.rounded p.pair.1
    ((g.is_chain.exact p.pair.1).0 (contains g.chain p.pair.1 (pair_second g.chain p.pair.0 p.pair.1 pair))).0)

-- No end comes to lie on the other piece. The ends of two pieces of segments move from points in their pixels to the centres, first
-- along x and then along y. Were an end to come to the other piece, then the same mixture of that piece's first ends would lie in
-- its pixel, so its centre would be an end of the other edge. So pieces that cross properly at last crossed properly at first.
use Rattle.std.proofs.Common.{◌≡◌, inl, inr, [], ◌∷◌, ℤ, pos, ◌-ℤ◌, ◌*ℤ◌, ◌≤ℤ◌, ◌<ℤ◌, refl, subst, arith, ⊎_elim}
use Rattle.lay_point.specs.declared.point.Point.{Point}
use Rattle.snap_pixels.specs.declared.segment.Segment.{Segment}
use Rattle.snap_pixels.specs.Pixels.{IsRoundedTo, HoldsPlace}
use Rattle.snap_pixels.specs.Segments.{along, IsFraction}
use Rattle.snap_edge_laws.specs.Areas.{IsConvex}
use Rattle.snap_edge_laws.specs.Pieces.{sideways, IsOnPiece, HasEnd, first, second, third, fourth, EndCrossesDiagonal}
use Rattle.snap_edge_laws.specs.Edges.{IsBetween, IsEndpoint}
use Rattle.lay_point.proofs.Polynomials.{#, ◌⊕◌, ◌⊖◌, ◌⊗◌, identity}
use Rattle.lay_point.proofs.Signs.{linear, nonnegative_product, positive_product, below_or_not}
use Rattle.snap_edge_laws.proofs.Rounding.{mixed, mixed_before, mixed_after}
use Rattle.snap_edge_laws.proofs.Order.{IsSpot}
use Rattle.snap_edge_laws.proofs.Spans.{IsSpan, turned_span}
use Rattle.snap_edge_laws.proofs.Areas.{area-flipped, flipped, scaled}
use Rattle.snap_edge_laws.proofs.Ends.{flipped_end}
use Rattle.snap_edge_laws.proofs.Sideways.{convex_before}

-- the point of the segment at the fraction u / k, at scale k
abbrev pub place : Segment → ℤ → ℤ → Point
place s k u = record { x = along k u s.a.x s.b.x; y = along k u s.a.y s.b.y }

pub along_mixture : (k m l u w a b : ℤ) → along m l (along k u a b) (along k w a b) ≡ along (k *ℤ m) (along m l u w) a b
along_mixture k m l u w a b = identity (k ∷ m ∷ l ∷ u ∷ w ∷ a ∷ b ∷ [])
    ((# 5 ⊗ (# 0 ⊖ # 3) ⊕ # 6 ⊗ # 3) ⊗ (# 1 ⊖ # 2) ⊕ (# 5 ⊗ (# 0 ⊖ # 4) ⊕ # 6 ⊗ # 4) ⊗ # 2)
    (# 5 ⊗ (# 0 ⊗ # 1 ⊖ (# 3 ⊗ (# 1 ⊖ # 2) ⊕ # 4 ⊗ # 2)) ⊕ # 6 ⊗ (# 3 ⊗ (# 1 ⊖ # 2) ⊕ # 4 ⊗ # 2)) refl

pub mixture_low : (m l u w : ℤ) → IsFraction l m → pos 0 ≤ℤ u → pos 0 ≤ℤ w → pos 0 ≤ℤ along m l u w
mixture_low m l u w part hu hw =
    let first = nonnegative_product u (m -ℤ l) hu (omega (arith, linear, part.high)) in
    let second = nonnegative_product w l hw part.low in omega (arith, linear)

pub mixture_high : (k m l u w : ℤ) → IsFraction l m → u ≤ℤ k → w ≤ℤ k → along m l u w ≤ℤ (k *ℤ m)
mixture_high k m l u w part hu hw =
    let low = mixture_low m l (k -ℤ u) (k -ℤ w) part (omega (arith, linear)) (omega (arith, linear)) in
    let e = identity (k ∷ m ∷ l ∷ u ∷ w ∷ [])
    ((# 0 ⊖ # 3) ⊗ (# 1 ⊖ # 2) ⊕ (# 0 ⊖ # 4) ⊗ # 2) (# 0 ⊗ # 1 ⊖ (# 3 ⊗ (# 1 ⊖ # 2) ⊕ # 4 ⊗ # 2)) refl in
    omega (arith, linear)

-- a mixture lies between what is mixed
mixture_between : (m l u w : ℤ) → IsFraction l m → IsBetween (u *ℤ m) (along m l u w) (w *ℤ m)
mixture_between m l u w part =
    let vs = m ∷ l ∷ u ∷ w ∷ [] in
    let up_first = identity vs ((# 3 ⊖ # 2) ⊗ # 1) ((# 2 ⊗ (# 0 ⊖ # 1) ⊕ # 3 ⊗ # 1) ⊖ # 2 ⊗ # 0) refl in
    let up_last = identity vs ((# 3 ⊖ # 2) ⊗ (# 0 ⊖ # 1)) (# 3 ⊗ # 0 ⊖ (# 2 ⊗ (# 0 ⊖ # 1) ⊕ # 3 ⊗ # 1)) refl in
    let down_first = identity vs ((# 2 ⊖ # 3) ⊗ # 1) (# 2 ⊗ # 0 ⊖ (# 2 ⊗ (# 0 ⊖ # 1) ⊕ # 3 ⊗ # 1)) refl in
    let down_last = identity vs ((# 2 ⊖ # 3) ⊗ (# 0 ⊖ # 1)) ((# 2 ⊗ (# 0 ⊖ # 1) ⊕ # 3 ⊗ # 1) ⊖ # 3 ⊗ # 0) refl in
    ⊎_elim
    (λ (up : u <ℤ w).
    let after = nonnegative_product (w -ℤ u) l (omega (arith, linear)) part.low in
    let before = nonnegative_product (w -ℤ u) (m -ℤ l) (omega (arith, linear)) (omega (arith, linear, part.high)) in
    inl (omega (arith, linear), omega (arith, linear)))
    (λ (down : w ≤ℤ u).
    let after = nonnegative_product (u -ℤ w) l (omega (arith, linear)) part.low in
    let before = nonnegative_product (u -ℤ w) (m -ℤ l) (omega (arith, linear)) (omega (arith, linear, part.high)) in
    inr (omega (arith, linear), omega (arith, linear)))
    (below_or_not u w)

-- a mixture of the two points of an edge's segment is in the pixel of a hot centre: so this is an end of the edge
pub end_by_mixture : (Hot : Point → Type 0) (s : Segment) (p q r : Point) (k u w m l : ℤ) → IsSpan Hot s q r k u w → Hot p
    → IsFraction l m → HoldsPlace p (k *ℤ m) (along m l (place s k u).x (place s k w).x) (along m l (place s k u).y (place s k w).y)
    → IsEndpoint p q r
end_by_mixture Hot s p q r k u w m l span hot part h =
    span.between p m (along m l u w) part.scale hot
    (record {
      scale = omega (arith, linear, positive_product k m (omega (arith, linear, span.first.scale)) (omega (arith, linear, part.scale)));
      low = mixture_low m l u w part span.first.low span.last.low;
      high = mixture_high k m l u w part span.first.high span.last.high;
      holds = record {
        column = subst (IsRoundedTo p.x (k *ℤ m)) (along_mixture k m l u w s.a.x s.b.x) h.column;
        row = subst (IsRoundedTo p.y (k *ℤ m)) (along_mixture k m l u w s.a.y s.b.y) h.row;
      };
    })
    (mixture_between m l u w part)

-- a point of a segment in the pixel of p isn't on the piece from q's to r's, while all move along x; nor later along y
never_sideways : (Hot : Point → Type 0) (s s' : Segment) (p q r : Point) (k v u w n i : ℤ) → IsSpan Hot s q r k u w → Hot p
    → ¬ (IsEndpoint p q r) → IsSpot s' p k v → IsFraction i n
    → IsOnPiece (sideways n i (place s' k v) (p.x *ℤ k)) (sideways n i (place s k u) (q.x *ℤ k)) (sideways n i (place s k w) (r.x *ℤ k))
    → ⊥
never_sideways Hot s s' p q r k v u w n i span hot other spot time h =
    other (end_by_mixture Hot s p q r k u w h.m h.l span hot h.is_part.part (record {
      column = mixed k n i h.m h.l _ _ _ p.x q.x r.x time h.is_part.part
          spot.holds.column span.first.holds.column span.last.holds.column h.is_part.column;
      row = mixed_before k h.m h.l (place s' k v).y (place s k u).y (place s k w).y p.y q.y r.y h.is_part.part
          spot.holds.row span.first.holds.row span.last.holds.row h.is_part.row;
    }))

-- the centre's column at scale k, and the row of a point on its way to the centre
abbrev pub upwards : ℤ → ℤ → ℤ → Point → Point → Point
upwards k n i p c = record { x = c.x *ℤ k; y = along n i p.y (c.y *ℤ k) }

never_upwards : (Hot : Point → Type 0) (s s' : Segment) (p q r : Point) (k v u w n i : ℤ) → IsSpan Hot s q r k u w → Hot p
    → ¬ (IsEndpoint p q r) → IsSpot s' p k v → IsFraction i n
    → IsOnPiece (upwards k n i (place s' k v) p) (upwards k n i (place s k u) q) (upwards k n i (place s k w) r)
    → ⊥
never_upwards Hot s s' p q r k v u w n i span hot other spot time h =
    other (end_by_mixture Hot s p q r k u w h.m h.l span hot h.is_part.part (record {
      column = mixed_after k h.m h.l (place s' k v).x (place s k u).x (place s k w).x p.x q.x r.x h.is_part.part
          spot.holds.column span.first.holds.column span.last.holds.column h.is_part.column;
      row = mixed k n i h.m h.l _ _ _ p.y q.y r.y time h.is_part.part
          spot.holds.row span.first.holds.row span.last.holds.row h.is_part.row;
    }))

-- two edges of segments with no end in common, and points of the segments in their ends' pixels, at scale k
pub record AreApart (Hot : Point → Type 0) (s s' : Segment) (p q r t : Point) (k u v w z : ℤ) : Type 0 where
  pub first_span : IsSpan Hot s p r k u w
  pub second_span : IsSpan Hot s' q t k v z
  pub p_off : ¬ (IsEndpoint p q t)
  pub r_off : ¬ (IsEndpoint r q t)
  pub q_off : ¬ (IsEndpoint q p r)
  pub t_off : ¬ (IsEndpoint t p r)

-- the ends in the other order
pub swap_ends : (p q r : Point) → ¬ (IsEndpoint p q r) → ¬ (IsEndpoint p r q)
swap_ends p q r h e = h (⊎_elim inr inl e)

no_end_sideways : (Hot : Point → Type 0) (s s' : Segment) (p q r t : Point) (k u v w z : ℤ) → AreApart Hot s s' p q r t k u v w z
    → EndCrossesDiagonal (place s k u) (place s' k v) (place s k w) (place s' k z) (p.x *ℤ k) (q.x *ℤ k) (r.x *ℤ k) (t.x *ℤ k) → ⊥
no_end_sideways Hot s s' p q r t k u v w z h e = by_end e.end
  where
    by_end : HasEnd (sideways e.n e.i (place s k u) (p.x *ℤ k)) (sideways e.n e.i (place s' k v) (q.x *ℤ k))
        (sideways e.n e.i (place s k w) (r.x *ℤ k)) (sideways e.n e.i (place s' k z) (t.x *ℤ k)) → ⊥
    by_end (first g) = never_sideways Hot s' s p t q k u z v e.n e.i (turned_span Hot s' q t k v z h.second_span)
        h.first_span.first_hot (swap_ends p q t h.p_off) h.first_span.first e.time g
    by_end (second g) = never_sideways Hot s s' q p r k v u w e.n e.i h.first_span
        h.second_span.first_hot h.q_off h.second_span.first e.time g
    by_end (third g) = never_sideways Hot s' s r q t k w v z e.n e.i h.second_span
        h.first_span.last_hot h.r_off h.first_span.last e.time g
    by_end (fourth g) = never_sideways Hot s s' t r p k z w u e.n e.i (turned_span Hot s p r k u w h.first_span)
        h.second_span.last_hot (swap_ends t p r h.t_off) h.second_span.last e.time g

no_end_upwards : (Hot : Point → Type 0) (s s' : Segment) (p q r t : Point) (k u v w z n i : ℤ) → AreApart Hot s s' p q r t k u v w z
    → IsFraction i n → HasEnd (upwards k n i (place s k u) p) (upwards k n i (place s' k v) q)
    (upwards k n i (place s k w) r) (upwards k n i (place s' k z) t) → ⊥
no_end_upwards Hot s s' p q r t k u v w z n i h time (first g) =
    never_upwards Hot s' s p t q k u z v n i (turned_span Hot s' q t k v z h.second_span)
    h.first_span.first_hot (swap_ends p q t h.p_off) h.first_span.first time g
no_end_upwards Hot s s' p q r t k u v w z n i h time (second g) =
    never_upwards Hot s s' q p r k v u w n i h.first_span h.second_span.first_hot h.q_off h.second_span.first time g
no_end_upwards Hot s s' p q r t k u v w z n i h time (third g) =
    never_upwards Hot s' s r q t k w v z n i h.second_span h.first_span.last_hot h.r_off h.first_span.last time g
no_end_upwards Hot s s' p q r t k u v w z n i h time (fourth g) =
    never_upwards Hot s s' t r p k z w u n i (turned_span Hot s p r k u w h.first_span)
    h.second_span.last_hot (swap_ends t p r h.t_off) h.second_span.last time g

flipped_convex : (p q r t : Point) → IsConvex p q r t → IsConvex (flipped p) (flipped t) (flipped r) (flipped q)
flipped_convex p q r t h = record {
  at_p = omega (arith, linear, h.at_p, area-flipped t p q);
  at_q = omega (arith, linear, h.at_t, area-flipped r t p);
  at_r = omega (arith, linear, h.at_r, area-flipped q r t);
  at_t = omega (arith, linear, h.at_q, area-flipped p q r);
}

-- the centre's column at scale k, and a point's row
abbrev raised : ℤ → Point → Point → Point
raised k p c = record { x = c.x *ℤ k; y = p.y }

convex_below : (Hot : Point → Type 0) (s s' : Segment) (p q r t : Point) (k u v w z : ℤ) → AreApart Hot s s' p q r t k u v w z
    → IsConvex (scaled k p) (scaled k q) (scaled k r) (scaled k t)
    → IsConvex (raised k (place s k u) p) (raised k (place s' k v) q) (raised k (place s k w) r) (raised k (place s' k z) t)
convex_below Hot s s' p q r t k u v w z h convex = ⊎_elim
    (λ (back : IsConvex P T R Q). flipped_convex P T R Q back)
    (λ (e : EndCrossesDiagonal P T R Q (p.y *ℤ k) (t.y *ℤ k) (r.y *ℤ k) (q.y *ℤ k)).
    absurd (no_end_upwards Hot s s' p q r t k u v w z e.n e.i h e.time
    (flipped_end (upwards k e.n e.i (place s k u) p) (upwards k e.n e.i (place s' k v) q)
    (upwards k e.n e.i (place s k w) r) (upwards k e.n e.i (place s' k z) t) e.end)))
    (convex_before P T R Q (p.y *ℤ k) (t.y *ℤ k) (r.y *ℤ k) (q.y *ℤ k)
    (flipped_convex (scaled k p) (scaled k q) (scaled k r) (scaled k t) convex))
  where
    P : Point
    P = flipped (raised k (place s k u) p)

    Q : Point
    Q = flipped (raised k (place s' k v) q)

    R : Point
    R = flipped (raised k (place s k w) r)

    T : Point
    T = flipped (raised k (place s' k z) t)

-- edges that cross properly come from pieces of segments that did
pub convex_at_rest : (Hot : Point → Type 0) (s s' : Segment) (p q r t : Point) (k u v w z : ℤ) → AreApart Hot s s' p q r t k u v w z
    → IsConvex (scaled k p) (scaled k q) (scaled k r) (scaled k t)
    → IsConvex (place s k u) (place s' k v) (place s k w) (place s' k z)
convex_at_rest Hot s s' p q r t k u v w z h convex = ⊎_elim
    (λ back. back)
    (λ e. absurd (no_end_sideways Hot s s' p q r t k u v w z h e))
    (convex_before (place s k u) (place s' k v) (place s k w) (place s' k z) (p.x *ℤ k) (q.x *ℤ k) (r.x *ℤ k) (t.x *ℤ k)
    (convex_below Hot s s' p q r t k u v w z h convex))

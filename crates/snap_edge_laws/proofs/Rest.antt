-- At rest the pieces don't cross. The pixel of a point that is common to two segments which aren't parallel is hot, and both segments
-- meet it. Between their ends' pixels, its centre is an end of both edges; so edges without a common end have no such point.
use Rattle.std.proofs.Common.{◌≡◌, inl, inr, [], ◌∷◌, ℤ, pos, ◌+ℤ◌, ◌-ℤ◌, ◌*ℤ◌, ◌≤ℤ◌, refl, sym, ap, subst, ◌∙◌, arith}
use Rattle.lay_point.specs.declared.point.Point.{Point}
use Rattle.snap_pixels.specs.declared.segment.Segment.{Segment}
use Rattle.snap_pixels.specs.Pixels.{IsRoundedTo, HoldsPlace}
use Rattle.snap_pixels.specs.Segments.{along, AreParallel, IsCommon, IsFraction, Crosses}
use Rattle.snap_edge_laws.specs.Areas.{area, IsConvex}
use Rattle.snap_edge_laws.specs.Edges.{IsEndpoint}
use Rattle.lay_point.proofs.Polynomials.{#, lit, ◌⊕◌, ◌⊖◌, ◌⊗◌, identity}
use Rattle.lay_point.proofs.Signs.{linear, positive_product}
use Rattle.lay_point.proofs.Division.{rounded}
use Rattle.snap_edge_laws.proofs.Areas.{areas_balance, areas_weigh_x, areas_weigh_y, area-of_cross}
use Rattle.snap_edge_laws.proofs.Motion.{place, along_mixture, mixture_low, mixture_high, end_by_mixture, AreApart}

-- the place in common, by the weights of the four ends
common_by_weights : (wp wq wr wt p q r t : ℤ) → wp +ℤ wr ≡ wq +ℤ wt → wp *ℤ r +ℤ wr *ℤ p ≡ wq *ℤ t +ℤ wt *ℤ q
    → along (wp +ℤ wr) wp p r ≡ along (wp +ℤ wr) wq q t
common_by_weights wp wq wr wt p q r t sum mixture =
    let first = identity (wp ∷ wr ∷ p ∷ r ∷ []) (# 2 ⊗ (# 0 ⊕ # 1 ⊖ # 0) ⊕ # 3 ⊗ # 0) (# 0 ⊗ # 3 ⊕ # 1 ⊗ # 2) refl in
    let second = identity (wq ∷ wt ∷ q ∷ t ∷ []) (# 2 ⊗ (# 0 ⊕ # 1 ⊖ # 0) ⊕ # 3 ⊗ # 0) (# 0 ⊗ # 3 ⊕ # 1 ⊗ # 2) refl in
    first ∙ mixture ∙ sym second ∙ ap (λ (m : ℤ). along m wq q t) (sym sum)

-- the diagonals of a convex quadrilateral of two segments' points aren't parallel, so nor are the segments
not_parallel : (s s' : Segment) (k u v w z : ℤ) → IsConvex (place s k u) (place s' k v) (place s k w) (place s' k z)
    → ¬ AreParallel s.a s.b s'.a s'.b
not_parallel s s' k u v w z convex e =
    let whole = area-of_cross k u w v z s.a s.b s'.a s'.b in
    let gone = ap (λ (y : ℤ). y *ℤ ((w -ℤ u) *ℤ (z -ℤ v))) e in
    let none = identity (((w -ℤ u) *ℤ (z -ℤ v)) ∷ []) (lit (pos 0) ⊗ # 0) (lit (pos 0)) refl in
    omega (arith, linear, convex.at_p, convex.at_r)

-- a centre whose pixel holds the place
centre_of : (k x y : ℤ) → pos 1 ≤ℤ k → (c : Point) × HoldsPlace c k x y
centre_of k x y scale =
    let column = rounded x k scale in
    let row = rounded y k scale in
    (record { x = column.0; y = row.0 }, record { column = (column.1, column.2); row = (row.1, row.2) })

-- an end of both edges is an end in common
no_common_end : (h p q r t : Point) → ¬ (IsEndpoint p q t) → ¬ (IsEndpoint r q t) → IsEndpoint h p r → IsEndpoint h q t → ⊥
no_common_end h p q r t p_off r_off (inl e) g = p_off (subst (λ (c : Point). IsEndpoint c q t) e g)
no_common_end h p q r t p_off r_off (inr e) g = r_off (subst (λ (c : Point). IsEndpoint c q t) e g)

pub no_crossing_at_rest : (Hot : Point → Type 0) (s s' : Segment) (p q r t : Point) (k u v w z : ℤ)
    → AreApart Hot s s' p q r t k u v w z → ((c : Point) → Crosses s.a s.b s'.a s'.b c → Hot c)
    → IsConvex (place s k u) (place s' k v) (place s k w) (place s' k z) → ⊥
no_crossing_at_rest Hot s s' p q r t k u v w z h crossing_is_hot convex =
    let P = place s k u in
    let Q = place s' k v in
    let R = place s k w in
    let T = place s' k z in
    let wp = area T P Q in
    let wq = area P Q R in
    let wr = area Q R T in
    let wt = area R T P in
    let m = wp +ℤ wr in
    let sum = areas_balance P Q R T in
    let part : IsFraction wp m = record {
      scale = omega (arith, linear, convex.at_p, convex.at_r);
      low = omega (arith, linear, convex.at_p);
      high = omega (arith, linear, convex.at_r);
    } in
    let part' : IsFraction wq m = record {
      scale = omega (arith, linear, convex.at_p, convex.at_r);
      low = omega (arith, linear, convex.at_q);
      high = omega (arith, linear, convex.at_t);
    } in
    let columns = common_by_weights wp wq wr wt P.x Q.x R.x T.x sum (areas_weigh_x P Q R T) in
    let rows = common_by_weights wp wq wr wt P.y Q.y R.y T.y sum (areas_weigh_y P Q R T) in
    let scale = positive_product k m (omega (arith, linear, h.first_span.first.scale)) (omega (arith, linear, part.scale)) in
    let at_least : pos 1 ≤ℤ (k *ℤ m) = omega (arith, linear, scale) in
    let centre = centre_of (k *ℤ m) (along m wp P.x R.x) (along m wp P.y R.y) at_least in
    let c = centre.0 in
    let on_second : HoldsPlace c (k *ℤ m) (along m wq Q.x T.x) (along m wq Q.y T.y) = record {
      column = subst (IsRoundedTo c.x (k *ℤ m)) columns centre.1.column;
      row = subst (IsRoundedTo c.y (k *ℤ m)) rows centre.1.row;
    } in
    let spread_x = along_mixture k m wp u w s.a.x s.b.x in
    let spread_y = along_mixture k m wp u w s.a.y s.b.y in
    let common : IsCommon s.a s.b s'.a s'.b (k *ℤ m) (along m wp u w) (along m wq v z) = record {
      first = record {
        scale = at_least;
        low = mixture_low m wp u w part h.first_span.first.low h.first_span.last.low;
        high = mixture_high k m wp u w part h.first_span.first.high h.first_span.last.high;
      };
      second = record {
        scale = at_least;
        low = mixture_low m wq v z part' h.second_span.first.low h.second_span.last.low;
        high = mixture_high k m wq v z part' h.second_span.first.high h.second_span.last.high;
      };
      column = sym spread_x ∙ columns ∙ along_mixture k m wq v z s'.a.x s'.b.x;
      row = sym spread_y ∙ rows ∙ along_mixture k m wq v z s'.a.y s'.b.y;
    } in
    let held : HoldsPlace c (k *ℤ m) (along (k *ℤ m) (along m wp u w) s.a.x s.b.x) (along (k *ℤ m) (along m wp u w) s.a.y s.b.y) =
    record {
      column = subst (IsRoundedTo c.x (k *ℤ m)) spread_x centre.1.column;
      row = subst (IsRoundedTo c.y (k *ℤ m)) spread_y centre.1.row;
    } in
    let hot = crossing_is_hot c
    (not_parallel s s' k u v w z convex, k *ℤ m, along m wp u w, along m wq v z, common, held) in
    no_common_end c p q r t h.p_off h.r_off
    (end_by_mixture Hot s c p r k u w m wp h.first_span hot part centre.1)
    (end_by_mixture Hot s' c q t k v z m wq h.second_span hot part' on_second)

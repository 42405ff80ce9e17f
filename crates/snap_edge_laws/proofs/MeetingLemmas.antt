-- All cases. Two edges with a place in common share an end, and meet there or are one; or an end of one is on the other, and so an end
-- of it; or they cross properly, and then the segments' pieces crossed properly at rest, which they don't.
use Rattle.std.proofs.Common.{◌≡◌, ◌⊎◌, [], ◌∷◌, ℤ, pos, ◌+ℤ◌, ◌-ℤ◌, ◌*ℤ◌, ◌<ℤ◌, refl, sym, ap, ◌∙◌, arith, ⊎_elim}
use Rattle.lay_point.specs.declared.point.Point.{Point}
use Rattle.snap_pixels.specs.declared.segment.Segment.{Segment}
use Rattle.snap_pixels.specs.Segments.{along, IsFraction, Crosses}
use Rattle.snap_pixels.proofs.CrossingLemmas.{along_back}
use Rattle.snap_edge_laws.specs.Areas.{area, IsConvex}
use Rattle.snap_edge_laws.specs.Pieces.{IsOnPiece, HasEnd, first, second, third, fourth}
use Rattle.lay_point.proofs.Polynomials.{#, lit, ◌⊕◌, ◌⊖◌, ◌⊗◌, identity}
use Rattle.lay_point.proofs.Signs.{linear, positive_product, cancel_zero, cancel_positive, below_or_same}
use Rattle.lay_point.proofs.EdgeOrder.{apart_or_same, same_point}
use Rattle.snap_edge_laws.proofs.Spans.{turned_span}
use Rattle.snap_edge_laws.proofs.Areas.{areas_balance, area-turned, area-flipped, area-scaled, area_in_part, scaled, flipped}
use Rattle.snap_edge_laws.proofs.Ends.{turned_piece, AreWeights, flat_end, flipped_end}
use Rattle.snap_edge_laws.proofs.Motion.{AreApart, swap_ends, convex_at_rest}
use Rattle.snap_edge_laws.proofs.Rest.{no_crossing_at_rest}
use Rattle.snap_edge_laws.proofs.Places.{not_same}
use Rattle.snap_edge_laws.proofs.SharedEnds.{IsClear}

-- ---- what the point in common says
-- the diagonals from p to r and from q to t have a point in common, l / m of the way on the first and l' / m on the second
pub record AreMeeting (p q r t : Point) (m l l' : ℤ) : Type 0 where
  pub part : IsFraction l m
  pub part' : IsFraction l' m
  pub column : along m l p.x r.x ≡ along m l' q.x t.x
  pub row : along m l p.y r.y ≡ along m l' q.y t.y

turned_meeting : (p q r t : Point) (m l l' : ℤ) → AreMeeting p q r t m l l' → AreMeeting q r t p m l' (m -ℤ l)
turned_meeting p q r t m l l' h = record {
  part = h.part';
  part' = record { scale = h.part.scale; low = omega (arith, linear, h.part.high); high = omega (arith, linear, h.part.low) };
  column = sym h.column ∙ along_back m l p.x r.x;
  row = sym h.row ∙ along_back m l p.y r.y;
}

-- the point in common is p, so p is on the other diagonal
end_at_start : (p q r t : Point) (m l l' : ℤ) → AreMeeting p q r t m l l' → l ≡ pos 0 → IsOnPiece p q t
end_at_start p q r t m l l' h none = record {
  m = m;
  l = l';
  is_part = record {
    part = h.part';
    column = start p.x r.x ∙ h.column;
    row = start p.y r.y ∙ h.row;
  };
}
  where
    start : (a b : ℤ) → m *ℤ a ≡ along m l a b
    start a b = identity (m ∷ a ∷ b ∷ []) (# 0 ⊗ # 1) (# 1 ⊗ (# 0 ⊖ lit (pos 0)) ⊕ # 2 ⊗ lit (pos 0)) refl
        ∙ ap (λ (z : ℤ). along m z a b) (sym none)

-- strictly inside both, and not all on one line: the area at p has the sign of the whole
positive_area : (p q r t : Point) (m l l' : ℤ) → AreMeeting p q r t m l l' → pos 0 <ℤ l → pos 0 <ℤ (area t p q +ℤ area q r t)
    → pos 0 <ℤ area t p q
positive_area p q r t m l l' h inside whole =
    let e = area_in_part p q r t m l l' h.column h.row in
    let part = positive_product l (area t p q +ℤ area q r t) inside whole in
    cancel_positive m (area t p q) (omega (arith, linear, h.part.scale)) (omega (arith, linear))

zero_area : (p q r t : Point) (m l l' : ℤ) → AreMeeting p q r t m l l' → pos 0 ≡ area t p q +ℤ area q r t → area t p q ≡ pos 0
zero_area p q r t m l l' h none =
    let e = area_in_part p q r t m l l' h.column h.row in
    let gone = ap (λ (z : ℤ). l *ℤ z) none in
    let zero = identity (l ∷ []) (# 0 ⊗ lit (pos 0)) (lit (pos 0)) refl in
    cancel_zero m (area t p q) (omega (arith, linear, h.part.scale)) (omega (arith, linear))

-- ---- edges without a common end
record IsInside (m l : ℤ) : Type 0 where
  pub after : pos 0 <ℤ l
  pub before : l <ℤ m

inside_turned : (m l : ℤ) → IsInside m l → IsInside m (m -ℤ l)
inside_turned m l h = record { after = omega (arith, linear, h.before); before = omega (arith, linear, h.after) }

convex_meeting : (p q r t : Point) (m l l' : ℤ) → AreMeeting p q r t m l l' → IsInside m l → IsInside m l'
    → pos 0 <ℤ (area t p q +ℤ area q r t) → IsConvex p q r t
convex_meeting p q r t m l l' h inside inside' whole =
    let h' = turned_meeting p q r t m l l' h in
    let h'' = turned_meeting q r t p m l' (m -ℤ l) h' in
    let h''' = turned_meeting r t p q m (m -ℤ l) (m -ℤ l') h'' in
    let balance = areas_balance p q r t in
    record {
      at_p = positive_area p q r t m l l' h inside.after whole;
      at_q = positive_area q r t p m l' (m -ℤ l) h' inside'.after (omega (arith, linear));
      at_r = positive_area r t p q m (m -ℤ l) (m -ℤ l') h'' (inside_turned m l inside).after (omega (arith, linear));
      at_t = positive_area t p q r m (m -ℤ l') (m -ℤ (m -ℤ l)) h''' (inside_turned m l' inside').after (omega (arith, linear));
    }

weights_of_mixture : (m l l' p q r t : ℤ) → IsInside m l → IsInside m l' → along m l p r ≡ along m l' q t
    → AreWeights l l' (m -ℤ l) (m -ℤ l') p q r t
weights_of_mixture m l l' p q r t inside inside' e =
    let first_is = identity (m ∷ l ∷ p ∷ r ∷ []) (# 1 ⊗ # 3 ⊕ (# 0 ⊖ # 1) ⊗ # 2) (# 2 ⊗ (# 0 ⊖ # 1) ⊕ # 3 ⊗ # 1) refl in
    let second_is = identity (m ∷ l' ∷ q ∷ t ∷ []) (# 1 ⊗ # 3 ⊕ (# 0 ⊖ # 1) ⊗ # 2) (# 2 ⊗ (# 0 ⊖ # 1) ⊕ # 3 ⊗ # 1) refl in
    record {
      positive_p = inside.after;
      positive_q = inside'.after;
      positive_r = omega (arith, linear, inside.before);
      positive_t = omega (arith, linear, inside'.before);
      sum = omega (arith, linear);
      mixture = first_is ∙ e ∙ sym second_is;
    }

-- all on one line: an end of one is on the other
end_on_line : (p q r t : Point) (m l l' : ℤ) → ¬ (p ≡ r) → AreMeeting p q r t m l l' → IsInside m l → IsInside m l'
    → pos 0 ≡ area t p q +ℤ area q r t → HasEnd p q r t
end_on_line p q r t m l l' differ h inside inside' none =
    let h' = turned_meeting p q r t m l l' h in
    let h'' = turned_meeting q r t p m l' (m -ℤ l) h' in
    let h''' = turned_meeting r t p q m (m -ℤ l) (m -ℤ l') h'' in
    let balance = areas_balance p q r t in
    let flat_p = zero_area p q r t m l l' h none in
    let flat_q = zero_area q r t p m l' (m -ℤ l) h' (omega (arith, linear)) in
    let flat_r = zero_area r t p q m (m -ℤ l) (m -ℤ l') h'' (omega (arith, linear)) in
    let flat_t = zero_area t p q r m (m -ℤ l') (m -ℤ (m -ℤ l)) h''' (omega (arith, linear)) in
    let back = λ (a b : ℤ). along_back m l' a b in
    ⊎_elim
    (λ (apart : (p.y <ℤ r.y) ⊎ (r.y <ℤ p.y)).
    flat_end p q r t l l' (m -ℤ l) (m -ℤ l') (weights_of_mixture m l l' p.y q.y r.y t.y inside inside' h.row)
    (λ eq er et. not_same p.y r.y apart (sym er)) flat_p flat_q flat_r flat_t)
    (λ (ey : p.y ≡ r.y). ⊎_elim
    (λ (apart : (p.x <ℤ r.x) ⊎ (r.x <ℤ p.x)).
    flipped_end p q r t (flat_end (flipped p) (flipped t) (flipped r) (flipped q) l (m -ℤ l') (m -ℤ l) (m -ℤ (m -ℤ l'))
    (weights_of_mixture m l (m -ℤ l') p.x t.x r.x q.x inside (inside_turned m l' inside') (h.column ∙ back q.x t.x))
    (λ et er eq. not_same p.x r.x apart (sym er))
    (area-flipped t p q ∙ flat_p) (area-flipped r t p ∙ flat_t) (area-flipped q r t ∙ flat_r) (area-flipped p q r ∙ flat_q)))
    (λ (ex : p.x ≡ r.x). absurd (differ (same_point p r ex ey)))
    (apart_or_same p.x r.x))
    (apart_or_same p.y r.y)

turned_apart : (Hot : Point → Type 0) (s s' : Segment) (p q r t : Point) (k u v w z : ℤ) → AreApart Hot s s' p q r t k u v w z
    → AreApart Hot s s' p t r q k u z w v
turned_apart Hot s s' p q r t k u v w z h = record {
  first_span = h.first_span;
  second_span = turned_span Hot s' q t k v z h.second_span;
  p_off = swap_ends p q t h.p_off;
  r_off = swap_ends r q t h.r_off;
  q_off = h.t_off;
  t_off = h.q_off;
}

-- edges that cross properly, which their segments don't let them
no_proper_crossing : (Hot : Point → Type 0) (s s' : Segment) (p q r t : Point) (k u v w z : ℤ) → AreApart Hot s s' p q r t k u v w z
    → ((c : Point) → Crosses s.a s.b s'.a s'.b c → Hot c) → IsConvex p q r t → ⊥
no_proper_crossing Hot s s' p q r t k u v w z h crossing_is_hot convex =
    no_crossing_at_rest Hot s s' p q r t k u v w z h crossing_is_hot
    (convex_at_rest Hot s s' p q r t k u v w z h (record {
      at_p = larger t p q convex.at_p;
      at_q = larger p q r convex.at_q;
      at_r = larger q r t convex.at_r;
      at_t = larger r t p convex.at_t;
    }))
  where
    larger : (a b c : Point) → pos 0 <ℤ area a b c → pos 0 <ℤ area (scaled k a) (scaled k b) (scaled k c)
    larger a b c up =
        let scale : pos 0 <ℤ k = omega (arith, linear, h.first_span.first.scale) in
        let once = positive_product k (area a b c) scale up in
        let twice = positive_product k (k *ℤ area a b c) scale once in
        omega (arith, linear, area-scaled k a b c)

no_end_on : (Hot : Point → Type 0) (s s' : Segment) (p q r t : Point) (k u v w z : ℤ) → AreApart Hot s s' p q r t k u v w z
    → IsClear Hot p r → IsClear Hot q t → HasEnd p q r t → ⊥
no_end_on Hot s s' p q r t k u v w z h clear clear' (first g) =
    h.p_off (clear'.only_ends p clear.first_hot (turned_piece p t q g))
no_end_on Hot s s' p q r t k u v w z h clear clear' (second g) = h.q_off (clear.only_ends q clear'.first_hot g)
no_end_on Hot s s' p q r t k u v w z h clear clear' (third g) = h.r_off (clear'.only_ends r clear.last_hot g)
no_end_on Hot s s' p q r t k u v w z h clear clear' (fourth g) =
    h.t_off (clear.only_ends t clear'.last_hot (turned_piece t r p g))

no_meeting_inside : (Hot : Point → Type 0) (s s' : Segment) (p q r t : Point) (k u v w z m l l' : ℤ)
    → AreApart Hot s s' p q r t k u v w z → ((c : Point) → Crosses s.a s.b s'.a s'.b c → Hot c) → IsClear Hot p r → IsClear Hot q t
    → AreMeeting p q r t m l l' → IsInside m l → IsInside m l' → ⊥
no_meeting_inside Hot s s' p q r t k u v w z m l l' h crossing_is_hot clear clear' g inside inside' = ⊎_elim
    (λ (apart : (pos 0 <ℤ (area t p q +ℤ area q r t)) ⊎ ((area t p q +ℤ area q r t) <ℤ pos 0)). ⊎_elim
    (λ (left : pos 0 <ℤ (area t p q +ℤ area q r t)).
    no_proper_crossing Hot s s' p q r t k u v w z h crossing_is_hot (convex_meeting p q r t m l l' g inside inside' left))
    (λ (right : (area t p q +ℤ area q r t) <ℤ pos 0).
    no_proper_crossing Hot s s' p t r q k u z w v (turned_apart Hot s s' p q r t k u v w z h) crossing_is_hot
    (convex_meeting p t r q m l (m -ℤ l') turned inside (inside_turned m l' inside')
    (omega (arith, linear, area-turned t p q, area-turned q r t))))
    apart)
    (λ (none : pos 0 ≡ area t p q +ℤ area q r t).
    no_end_on Hot s s' p q r t k u v w z h clear clear' (end_on_line p q r t m l l' clear.differ g inside inside' none))
    (apart_or_same (pos 0) (area t p q +ℤ area q r t))
  where
    turned : AreMeeting p t r q m l (m -ℤ l')
    turned = record {
      part = g.part;
      part' = record { scale = g.part.scale; low = omega (arith, linear, g.part'.high); high = omega (arith, linear, g.part'.low) };
      column = g.column ∙ along_back m l' q.x t.x;
      row = g.row ∙ along_back m l' q.y t.y;
    }

-- where the point in common is an end of one of the two, that end is on the other
pub no_meeting_apart : (Hot : Point → Type 0) (s s' : Segment) (p q r t : Point) (k u v w z m l l' : ℤ)
    → AreApart Hot s s' p q r t k u v w z → ((c : Point) → Crosses s.a s.b s'.a s'.b c → Hot c) → IsClear Hot p r → IsClear Hot q t
    → AreMeeting p q r t m l l' → ⊥
no_meeting_apart Hot s s' p q r t k u v w z m l l' h crossing_is_hot clear clear' g =
    ⊎_elim
    (λ (after : pos 0 <ℤ l). ⊎_elim
    (λ (before : l <ℤ m). ⊎_elim
    (λ (after' : pos 0 <ℤ l'). ⊎_elim
    (λ (before' : l' <ℤ m). no_meeting_inside Hot s s' p q r t k u v w z m l l' h crossing_is_hot clear clear' g
    (record { after = after; before = before }) (record { after = after'; before = before' }))
    (λ (e : l' ≡ m). h.t_off (clear.only_ends t clear'.last_hot
    (end_at_start t p q r m (m -ℤ l') (m -ℤ (m -ℤ l)) g''' (omega (arith, linear)))))
    (below_or_same l' m g.part'.high))
    (λ (e : pos 0 ≡ l'). h.q_off (clear.only_ends q clear'.first_hot
    (turned_piece q r p (end_at_start q r t p m l' (m -ℤ l) g' (sym e)))))
    (below_or_same (pos 0) l' g.part'.low))
    (λ (e : l ≡ m). h.r_off (clear'.only_ends r clear.last_hot
    (turned_piece r t q (end_at_start r t p q m (m -ℤ l) (m -ℤ l') g'' (omega (arith, linear))))))
    (below_or_same l m g.part.high))
    (λ (e : pos 0 ≡ l). h.p_off (clear'.only_ends p clear.first_hot (end_at_start p q r t m l l' g (sym e))))
    (below_or_same (pos 0) l g.part.low)
  where
    g' : AreMeeting q r t p m l' (m -ℤ l)
    g' = turned_meeting p q r t m l l' g

    g'' : AreMeeting r t p q m (m -ℤ l) (m -ℤ l')
    g'' = turned_meeting q r t p m l' (m -ℤ l) g'

    g''' : AreMeeting t p q r m (m -ℤ l') (m -ℤ (m -ℤ l))
    g''' = turned_meeting r t p q m (m -ℤ l) (m -ℤ l') g''

-- Sideways motion. The ends of two pieces move, each at its own even pace along x alone. Where the pieces cross properly at the end of
-- the motion, they did so at the start, or at some time an end of one is on the other.
use Rattle.std.proofs.Common.{◌≡◌, ◌⊎◌, inl, inr, List, [], ◌∷◌, ℤ, pos, ◌+ℤ◌, ◌-ℤ◌, ◌*ℤ◌, ◌≤ℤ◌, ◌<ℤ◌, refl, ap, ◌∙◌, arith, ⊎_elim}
use Rattle.lay_point.specs.declared.point.Point.{Point}
use Rattle.snap_edge_laws.specs.Areas.{area, IsConvex}
use Rattle.snap_edge_laws.specs.Pieces.{HasEnd, first, second, third, fourth, with_x, sideways, EndCrossesDiagonal}
use Rattle.lay_point.proofs.Polynomials.{#, lit, ◌⊗◌, identity}
use Rattle.lay_point.proofs.Signs.{linear, below_or_same}
use Rattle.snap_edge_laws.proofs.Areas.{areas_balance, areas_weigh_y, area-sideways}
use Rattle.snap_edge_laws.proofs.Ends.{end_at_zero, AreWeights, AreUneven, flat_end}
use Rattle.snap_edge_laws.proofs.Stops.{Change, AllStartPositive, IsStop, stop}

record NoAreaNegative (p q r t : Point) : Type 0 where
  pub at_p : pos 0 ≤ℤ area t p q
  pub at_q : pos 0 ≤ℤ area p q r
  pub at_r : pos 0 ≤ℤ area q r t
  pub at_t : pos 0 ≤ℤ area r t p

SomeAreaZero : Point → Point → Point → Point → Type 0
SomeAreaZero p q r t =
    (area t p q ≡ pos 0) ⊎ ((area p q r ≡ pos 0) ⊎ ((area q r t ≡ pos 0) ⊎ ((area r t p ≡ pos 0) ⊎ ⊥)))

-- no area is negative, one is 0, and not all are 0
end_of_some : (p q r t : Point) → NoAreaNegative p q r t → SomeAreaZero p q r t → pos 0 <ℤ (area t p q +ℤ area q r t) → HasEnd p q r t
unfolding SomeAreaZero
end_of_some p q r t h (inl e) some = first (end_at_zero p q r t e h.at_q h.at_t some)
end_of_some p q r t h (inr (inl e)) some =
    second (end_at_zero q r t p e h.at_r h.at_p (omega (arith, linear, areas_balance p q r t)))
end_of_some p q r t h (inr (inr (inl e))) some =
    third (end_at_zero r t p q e h.at_t h.at_q (omega (arith, linear)))
end_of_some p q r t h (inr (inr (inr (inl e)))) some =
    fourth (end_at_zero t p q r e h.at_p h.at_r (omega (arith, linear, areas_balance p q r t)))
end_of_some p q r t h (inr (inr (inr (inr e)))) some = absurd e

-- three points at one height have no area
level_area : (p q r : Point) → q.y ≡ p.y → r.y ≡ p.y → area p q r ≡ pos 0
unfolding area
level_area p q r eq er =
    let rise_r : r.y -ℤ q.y ≡ pos 0 = omega (arith, linear) in
    let rise_q : q.y -ℤ p.y ≡ pos 0 = omega (arith, linear) in
    let gone_r = ap (λ (z : ℤ). (q.x -ℤ p.x) *ℤ z) rise_r in
    let gone_q = ap (λ (z : ℤ). z *ℤ (r.x -ℤ q.x)) rise_q in
    let none_r = identity ((q.x -ℤ p.x) ∷ []) (# 0 ⊗ lit (pos 0)) (lit (pos 0)) refl in
    let none_q = identity ((r.x -ℤ q.x) ∷ []) (lit (pos 0) ⊗ # 0) (lit (pos 0)) refl in
    omega (arith, linear)

-- a convex quadrilateral isn't all at one height
uneven : (p q r t : Point) → IsConvex p q r t → AreUneven p.y q.y r.y t.y
uneven p q r t h eq er et = let e = level_area p q r eq er in omega (arith, linear, h.at_q)

-- the areas of a convex quadrilateral weigh the heights of its ends
weights_of : (p q r t : Point) → IsConvex p q r t
    → AreWeights (area t p q) (area p q r) (area q r t) (area r t p) p.y q.y r.y t.y
weights_of p q r t h = record {
  positive_p = h.at_p;
  positive_q = h.at_q;
  positive_r = h.at_r;
  positive_t = h.at_t;
  sum = areas_balance p q r t;
  mixture = areas_weigh_y p q r t;
}

-- at a stop: the moved points are p, q, r and t, the last ones p', q', r' and t', at the same heights
end_at_stop : (p q r t : Point) (px qx rx tx : ℤ) → NoAreaNegative p q r t → SomeAreaZero p q r t
    → IsConvex (with_x p px) (with_x q qx) (with_x r rx) (with_x t tx) → HasEnd p q r t
end_at_stop p q r t px qx rx tx none some h =
    ⊎_elim (λ (up : pos 0 <ℤ (area t p q +ℤ area q r t)). end_of_some p q r t none some up)
    (λ (e : pos 0 ≡ area t p q +ℤ area q r t).
    flat_end p q r t
    (area (with_x t tx) (with_x p px) (with_x q qx)) (area (with_x p px) (with_x q qx) (with_x r rx))
    (area (with_x q qx) (with_x r rx) (with_x t tx)) (area (with_x r rx) (with_x t tx) (with_x p px))
    (weights_of (with_x p px) (with_x q qx) (with_x r rx) (with_x t tx) h)
    (uneven (with_x p px) (with_x q qx) (with_x r rx) (with_x t tx) h)
    (omega (arith, linear, none.at_p, none.at_r))
    (omega (arith, linear, none.at_q, none.at_t, areas_balance p q r t))
    (omega (arith, linear, none.at_p, none.at_r))
    (omega (arith, linear, none.at_q, none.at_t, areas_balance p q r t)))
    (below_or_same (pos 0) (area t p q +ℤ area q r t) (omega (arith, linear, none.at_p, none.at_r)))

-- the four areas, from the first points to the last
changes : Point → Point → Point → Point → ℤ → ℤ → ℤ → ℤ → List Change
changes p q r t px qx rx tx =
    record { from = area t p q; to = area (with_x t tx) (with_x p px) (with_x q qx) }
    ∷ record { from = area p q r; to = area (with_x p px) (with_x q qx) (with_x r rx) }
    ∷ record { from = area q r t; to = area (with_x q qx) (with_x r rx) (with_x t tx) }
    ∷ record { from = area r t p; to = area (with_x r rx) (with_x t tx) (with_x p px) } ∷ []

at_stop : (p q r t : Point) (px qx rx tx : ℤ) → IsConvex (with_x p px) (with_x q qx) (with_x r rx) (with_x t tx)
    → IsStop (changes p q r t px qx rx tx) → EndCrossesDiagonal p q r t px qx rx tx
unfolding changes SomeAreaZero
at_stop p q r t px qx rx tx h s =
    let ep = area-sideways s.n s.t t p q tx px qx in
    let eq = area-sideways s.n s.t p q r px qx rx in
    let er = area-sideways s.n s.t q r t qx rx tx in
    let et = area-sideways s.n s.t r t p rx tx px in
    record {
      n = s.n;
      i = s.t;
      time = s.time;
      end = end_at_stop (sideways s.n s.t p px) (sideways s.n s.t q qx) (sideways s.n s.t r rx) (sideways s.n s.t t tx) px qx rx tx
          (record {
            at_p = omega (arith, linear, s.none_negative.0, ep);
            at_q = omega (arith, linear, s.none_negative.1.0, eq);
            at_r = omega (arith, linear, s.none_negative.1.1.0, er);
            at_t = omega (arith, linear, s.none_negative.1.1.1.0, et);
          })
          (⊎_elim (λ z. inl (ep ∙ z)) (λ z. inr (⊎_elim (λ z. inl (eq ∙ z)) (λ z. inr (⊎_elim (λ z. inl (er ∙ z))
          (λ z. inr (⊎_elim (λ z. inl (et ∙ z)) inr z)) z)) z)) s.some_zero)
          h;
    }

pub convex_before : (p q r t : Point) (px qx rx tx : ℤ) → IsConvex (with_x p px) (with_x q qx) (with_x r rx) (with_x t tx)
    → IsConvex p q r t ⊎ EndCrossesDiagonal p q r t px qx rx tx
unfolding changes
convex_before p q r t px qx rx tx h = ⊎_elim
    (λ (s : AllStartPositive (changes p q r t px qx rx tx)).
    inl (record { at_p = s.0; at_q = s.1.0; at_r = s.1.1.0; at_t = s.1.1.1.0 }))
    (λ (s : IsStop (changes p q r t px qx rx tx)). inr (at_stop p q r t px qx rx tx h s))
    (stop (changes p q r t px qx rx tx) (h.at_p, (h.at_q, (h.at_r, (h.at_t, tt)))))

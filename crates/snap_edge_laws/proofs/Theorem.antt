-- Edges of snap-rounded segments have no place in common but a shared end.
use Rattle.std.proofs.Common.{◌≡◌, ◌⊎◌, inl, inr, List, ℤ, pos, ◌-ℤ◌, ◌*ℤ◌, ◌≤ℤ◌, ◌<ℤ◌, refl, sym, ap, subst, ◌∙◌, arith, ⊎_elim}
use Rattle.lay_point.specs.declared.point.Point.{Point}
use Rattle.snap_pixels.specs.declared.segment.Segment.{Segment}
use Rattle.snap_pixels.specs.Segments.{along, Crosses}
use Rattle.snap_pixels.specs.Hot.{IsHot}
use Rattle.snap_edge_laws.specs.Edges.{IsEndpoint, IsEdgeOf, IsOn, AreOneEdge, IsSharedEnd, MeetOnlyAtEnds}
use Rattle.lay_point.proofs.Signs.{linear, cancel_same}
use Rattle.lay_point.proofs.Products.{*ℤ_comm}
use Rattle.lay_point.proofs.EdgeOrder.{apart_or_same, same_point}
use Rattle.snap_edge_laws.proofs.Spans.{spans_of}
use Rattle.snap_edge_laws.proofs.Places.{IsAlong, turned_along, somewhere, along_at_multiple, not_same}
use Rattle.snap_edge_laws.proofs.SharedEnds.{IsClear, IsPlaceOf, clear_edge, turned_clear, ends_differ, meet_at_shared_end}
use Rattle.snap_edge_laws.proofs.MeetingLemmas.{AreMeeting, no_meeting_apart}

-- a point is another one, or it isn't
same_or_not : (p q : Point) → (p ≡ q) ⊎ ¬ (p ≡ q)
same_or_not p q = ⊎_elim
    (λ apart. inr (λ e. not_same p.x q.x apart (ap (λ (c : Point). c.x) e)))
    (λ (ex : p.x ≡ q.x). ⊎_elim (λ apart. inr (λ e. not_same p.y q.y apart (ap (λ (c : Point). c.y) e)))
    (λ (ey : p.y ≡ q.y). inl (same_point p q ex ey)) (apart_or_same p.y q.y))
    (apart_or_same p.x q.x)

-- two edges' hot ends, with a place that is on both
record AreMet (Hot : Point → Type 0) (c d c' d' : Point) (k x y m l l' : ℤ) : Type 0 where
  pub clear : IsClear Hot c d
  pub clear' : IsClear Hot c' d'
  pub on : IsAlong c d k x y m l
  pub on' : IsAlong c' d' k x y m l'

-- where the first ends are one point, the place is there or the last ends are one point too
by_first_ends : (Hot : Point → Type 0) (c d c' d' : Point) (k x y m l l' : ℤ) → pos 1 ≤ℤ k → AreMet Hot c d c' d' k x y m l l'
    → c ≡ c' → (d ≡ d') ⊎ IsPlaceOf c k x y
by_first_ends Hot c d c' d' k x y m l l' scale h e =
    meet_at_shared_end Hot c d d' k x y m l l' scale h.clear (subst (λ (v : Point). IsClear Hot v d') (sym e) h.clear') h.on
    (subst (λ (v : Point). IsAlong v d' k x y m l') (sym e) h.on')

turned_second : (Hot : Point → Type 0) (c d c' d' : Point) (k x y m l l' : ℤ) → AreMet Hot c d c' d' k x y m l l'
    → AreMet Hot c d d' c' k x y m l (m -ℤ l')
turned_second Hot c d c' d' k x y m l l' h = record {
  clear = h.clear;
  clear' = turned_clear Hot c' d' h.clear';
  on = h.on;
  on' = turned_along c' d' k x y m l' h.on';
}

turned_first : (Hot : Point → Type 0) (c d c' d' : Point) (k x y m l l' : ℤ) → AreMet Hot c d c' d' k x y m l l'
    → AreMet Hot d c c' d' k x y m (m -ℤ l) l'
turned_first Hot c d c' d' k x y m l l' h = record {
  clear = turned_clear Hot c d h.clear;
  clear' = h.clear';
  on = turned_along c d k x y m l h.on;
  on' = h.on';
}

-- some end is shared
shared : (Hot : Point → Type 0) (c d c' d' : Point) (k x y m l l' : ℤ) → pos 1 ≤ℤ k → AreMet Hot c d c' d' k x y m l l'
    → ¬ (AreOneEdge c d c' d') → IsEndpoint c c' d' ⊎ IsEndpoint d c' d' → IsSharedEnd c d c' d' k x y
shared Hot c d c' d' k x y m l l' scale h other (inl (inl e)) = ⊎_elim
    (λ (both : d ≡ d'). absurd (other (inl (e, both))))
    (λ (at : IsPlaceOf c k x y).
    record { end = c; column = at.column; row = at.row; of_first = inl refl; of_second = inl e })
    (by_first_ends Hot c d c' d' k x y m l l' scale h e)
shared Hot c d c' d' k x y m l l' scale h other (inl (inr e)) = ⊎_elim
    (λ (both : d ≡ c'). absurd (other (inr (e, both))))
    (λ (at : IsPlaceOf c k x y).
    record { end = c; column = at.column; row = at.row; of_first = inl refl; of_second = inr e })
    (by_first_ends Hot c d d' c' k x y m l (m -ℤ l') scale (turned_second Hot c d c' d' k x y m l l' h) e)
shared Hot c d c' d' k x y m l l' scale h other (inr (inl e)) = ⊎_elim
    (λ (both : c ≡ d'). absurd (other (inr (both, e))))
    (λ (at : IsPlaceOf d k x y).
    record { end = d; column = at.column; row = at.row; of_first = inr refl; of_second = inl e })
    (by_first_ends Hot d c c' d' k x y m (m -ℤ l) l' scale (turned_first Hot c d c' d' k x y m l l' h) e)
shared Hot c d c' d' k x y m l l' scale h other (inr (inr e)) = ⊎_elim
    (λ (both : c ≡ c'). absurd (other (inl (both, e))))
    (λ (at : IsPlaceOf d k x y).
    record { end = d; column = at.column; row = at.row; of_first = inr refl; of_second = inr e })
    (by_first_ends Hot d c d' c' k x y m (m -ℤ l) (m -ℤ l') scale
    (turned_second Hot d c c' d' k x y m (m -ℤ l) l' (turned_first Hot c d c' d' k x y m l l' h)) e)

-- the place as a fraction of both edges, at one scale of the fractions
record AreMetSomewhere (Hot : Point → Type 0) (c d c' d' : Point) (k x y : ℤ) : Type 0 where
  pub m : ℤ
  pub l : ℤ
  pub l' : ℤ
  pub are_met : AreMet Hot c d c' d' k x y m l l'

met_somewhere : (Hot : Point → Type 0) (c d c' d' : Point) (k x y : ℤ) → pos 1 ≤ℤ k → IsClear Hot c d → IsClear Hot c' d'
    → IsOn c d k x y → IsOn c' d' k x y → AreMetSomewhere Hot c d c' d' k x y
met_somewhere Hot c d c' d' k x y scale clear clear' on on' =
    let f = somewhere c d k x y scale clear.differ on in
    let g = somewhere c' d' k x y scale clear'.differ on' in
    record {
      m = f.m *ℤ g.m;
      l = f.l *ℤ g.m;
      l' = g.l *ℤ f.m;
      are_met = record {
        clear = clear;
        clear' = clear';
        on = along_at_multiple c d k x y f.m f.l g.m g.is_along.part.scale f.is_along;
        on' = subst (λ (n : ℤ). IsAlong c' d' k x y n (g.l *ℤ f.m)) (*ℤ_comm g.m f.m)
            (along_at_multiple c' d' k x y g.m g.l f.m f.is_along.part.scale g.is_along);
      };
    }

meeting_of : (Hot : Point → Type 0) (c d c' d' : Point) (k x y m l l' : ℤ) → pos 1 ≤ℤ k → AreMet Hot c d c' d' k x y m l l'
    → AreMeeting c c' d d' m l l'
meeting_of Hot c d c' d' k x y m l l' scale h =
    let positive : pos 0 <ℤ k = omega (arith, linear) in
    record {
      part = h.on.part;
      part' = h.on'.part;
      column = cancel_same k (along m l c.x d.x) (along m l' c'.x d'.x) positive (sym h.on.column ∙ h.on'.column);
      row = cancel_same k (along m l c.y d.y) (along m l' c'.y d'.y) positive (sym h.on.row ∙ h.on'.row);
    }

-- an end of the one edge is an end of the other, or none is
some_shared_or_none : (c d c' d' : Point)
    → (IsEndpoint c c' d' ⊎ IsEndpoint d c' d') ⊎ ((¬ (IsEndpoint c c' d')) × (¬ (IsEndpoint d c' d')))
some_shared_or_none c d c' d' = ⊎_elim (λ e. inl (inl e))
    (λ none. ⊎_elim (λ e. inl (inr e)) (λ none'. inr (none, none')) (end_or_not d c' d')) (end_or_not c c' d')
  where
    end_or_not : (v p q : Point) → IsEndpoint v p q ⊎ ¬ (IsEndpoint v p q)
    end_or_not v p q = ⊎_elim (λ e. inl (inl e))
        (λ n. ⊎_elim (λ e. inl (inr e)) (λ n'. inr (λ e. ⊎_elim n n' e)) (same_or_not v q)) (same_or_not v p)

-- hot centres may be any that have each crossing's pixel among them
pub edges_meet_at_ends : (Hot : Point → Type 0) (s s' : Segment) (c d c' d' : Point) (k x y : ℤ)
    → ((v : Point) → Crosses s.a s.b s'.a s'.b v → Hot v) → IsEdgeOf Hot s c d → IsEdgeOf Hot s' c' d'
    → ¬ (AreOneEdge c d c' d') → pos 1 ≤ℤ k → IsOn c d k x y → IsOn c' d' k x y → IsSharedEnd c d c' d' k x y
edges_meet_at_ends Hot s s' c d c' d' k x y crossing_is_hot e e' other scale on on' =
    let spans = spans_of Hot s s' c d c' d' e e' in
    let clear = clear_edge Hot s c d spans.k spans.u spans.w (ends_differ s c d e.below) spans.first in
    let clear' = clear_edge Hot s' c' d' spans.k spans.u' spans.w' (ends_differ s' c' d' e'.below) spans.second in
    let met = met_somewhere Hot c d c' d' k x y scale clear clear' on on' in
    ⊎_elim
    (λ (some : IsEndpoint c c' d' ⊎ IsEndpoint d c' d').
    shared Hot c d c' d' k x y met.m met.l met.l' scale met.are_met other some)
    (λ (none : (¬ (IsEndpoint c c' d')) × (¬ (IsEndpoint d c' d'))).
    absurd (no_meeting_apart Hot s s' c c' d d' spans.k spans.u spans.u' spans.w spans.w' met.m met.l met.l'
    (record {
      first_span = spans.first;
      second_span = spans.second;
      p_off = none.0;
      r_off = none.1;
      q_off = λ g. ⊎_elim (λ (z : c' ≡ c). none.0 (inl (sym z))) (λ (z : c' ≡ d). none.1 (inl (sym z))) g;
      t_off = λ g. ⊎_elim (λ (z : d' ≡ c). none.0 (inr (sym z))) (λ (z : d' ≡ d). none.1 (inr (sym z))) g;
    })
    crossing_is_hot clear clear' (meeting_of Hot c d c' d' k x y met.m met.l met.l' scale met.are_met)))
    (some_shared_or_none c d c' d')

pub meet_only_at_ends : (segments : List Segment) → MeetOnlyAtEnds segments
meet_only_at_ends segments s s' has has' c d c' d' e e' other k x y scale on on' =
    edges_meet_at_ends (IsHot segments) s s' c d c' d' k x y (λ v crossing. inr (s, s', has, has', crossing))
    e e' other scale on on'

-- The rings of rising edges with points in range have three points and more, in range, and no equal neighbours.
use Rattle.std.proofs.Common.{◌≡◌, ◌≢◌, ◌≤◌, Bool, true, false, cond, ◌||◌, List, []}
use Rattle.std.proofs.Common.{◌∷◌, ◌++◌, length, inl, inr, refl, sym, subst, ◌∙◌, arith}
use Rattle.std.specs.List.{list_all}
use Rattle.lay_point.specs.declared.point.Point.{Point}
use Rattle.lay_point.specs.declared.ring.TheConstants.{MAX_RING_POINTS}
use Rattle.lay_point.specs.Edges.{IsEdgeBefore, touches, undirected}
use Rattle.lay_point.specs.Points.{is_in_range, point_eq}
use Rattle.lay_point.specs.Rings.{IsRing, NeighboursDiffer, closed}
use Rattle.lay_point.specs.Rising.{IsRising}
use Rattle.lay_point.proofs.EdgeOrder.{edges_are_strict, undirected_back}
use Rattle.lay_point.proofs.Members.{Has}
use Rattle.lay_point.proofs.Rising.{before_rest, rising_rest}
use Rattle.lay_point.proofs.RingLemmas.{point_eq-true}
use Rattle.face_ring_laws.specs.Linking.{Ends, other_end}
use Rattle.face_ring_laws.proofs.CountLemmas.{AreUndirected, proper_from_undirected, walked, way_front}
use Rattle.face_ring_laws.proofs.TakenLemmas.{other_has, taken_has, taken_rising, taken_touches}
use Rattle.face_ring_laws.proofs.WayLemmas.{AreProper, AreRings, IsWay, at_start, no_ring, onward, one_more, way_keeps}

abbrev pub AreInRange : List Ends → Type 0
AreInRange es = (e : Ends) → Has es e → (is_in_range e.0 ≡ true) × (is_in_range e.1 ≡ true)

other_in_range : (at : Point) (e : Ends) → (is_in_range e.0 ≡ true) × (is_in_range e.1 ≡ true) → is_in_range (other_end at e) ≡ true
other_in_range at e h = elim (point_eq e.0 at) as (λ b. is_in_range (cond b e.1 e.0) ≡ true) [ true ↦ h.1 | false ↦ h.0 ]

other_differs : (at : Point) (e : Ends) → ¬ (e.0 ≡ e.1) → touches at e ≡ true → at ≢ other_end at e
other_differs at e differ h = by_end (point_eq e.0 at) refl h
  where
    by_end : (p : Bool) → point_eq e.0 at ≡ p → (p || point_eq e.1 at) ≡ true → at ≢ cond p e.1 e.0
    by_end true f t same = differ (point_eq-true e.0 at f ∙ same)
    by_end false f t same = differ (sym (point_eq-true e.1 at t ∙ same))

-- ---- a way
way_in_range : (start at : Point) (es : List Ends) (points : List Point) (rest : List Ends) → IsWay start at es points rest
    → AreInRange es → is_in_range at ≡ true → list_all is_in_range points ≡ true
way_in_range start at es points rest (at_start es₁) fits here = refl
way_in_range start at es points rest (onward at₁ e es₁ es₂ rest₁ points₁ apart h w) fits here =
    let e_fits = fits e (taken_has at₁ es₁ e es₂ h) in
    rw here (way_in_range start (other_end at₁ e) es₂ points₁ rest₁ w (λ f m. fits f (other_has at₁ es₁ e es₂ h f m))
    (other_in_range at₁ e e_fits))

-- a point that differs from the way's first
differ_cons : (p q : Point) (qs ps : List Point) → ps ≡ q ∷ qs → p ≢ q → NeighboursDiffer ps → NeighboursDiffer (p ∷ ps)
differ_cons p q qs ps e apart h =
    subst (λ zs. NeighboursDiffer (p ∷ zs)) (sym e) (apart, subst NeighboursDiffer e h)

way_differs : (start at : Point) (es : List Ends) (points : List Point) (rest : List Ends) → IsWay start at es points rest
    → AreProper es → NeighboursDiffer (points ++ start ∷ [])
way_differs start at es points rest (at_start es₁) proper = tt
way_differs start at es points rest (onward at₁ e es₁ es₂ rest₁ points₁ apart h w) proper =
    let front = way_front start (other_end at₁ e) es₂ points₁ rest₁ w in
    differ_cons at₁ (other_end at₁ e) front.0 (points₁ ++ start ∷ []) front.1
    (other_differs at₁ e (proper e (taken_has at₁ es₁ e es₂ h)) (taken_touches at₁ es₁ e es₂ h))
    (way_differs start (other_end at₁ e) es₂ points₁ rest₁ w (λ f m. proper f (other_has at₁ es₁ e es₂ h f m)))

way_some : (start at : Point) (es : List Ends) (points : List Point) (rest : List Ends) → IsWay start at es points rest
    → at ≢ start → 1 ≤ length points
way_some start at es points rest (at_start es₁) differ = absurd (differ refl)
way_some start at es points rest (onward at₁ e es₁ es₂ rest₁ points₁ apart h w) differ = omega arith

-- back from the greater end of an edge that is walked no more, a way passes two points and more
way_two : (e : Ends) (at : Point) (es : List Ends) (points : List Point) (rest : List Ends) → IsWay e.0 at es points rest → at ≡ e.1
    → ¬ (e.0 ≡ e.1) → (¬ (Has es e)) → undirected (e.1, e.0) ≡ e
    → ((f : Ends) → Has es f → touches at f ≡ true → undirected (at, other_end at f) ≡ f)
    → 2 ≤ length points
way_two e at es points rest (at_start es₁) end differ absent itself each = absurd (differ end)
way_two e at es points rest (onward at₁ f es₁ es₂ rest₁ points₁ apart h w) end differ absent itself each =
    let m = taken_has at₁ es₁ f es₂ h in
    let same = each f m (taken_touches at₁ es₁ f es₂ h) in
    let onward_differs : other_end at₁ f ≢ e.0 =
    λ back. absent (subst (Has es₁) (sym same ∙ (λ k. undirected (end k, back k)) ∙ itself) m) in
    let some = way_some e.0 (other_end at₁ f) es₂ points₁ rest₁ w onward_differs in
    omega arith

-- ---- the rings
pub record IsSound (ring : List Point) : Type 0 where
  pub enough : 3 ≤ length ring
  pub in_range : list_all is_in_range ring ≡ true
  pub apart : NeighboursDiffer (closed ring)

abbrev pub AreSound : List (List Point) → Type 0
AreSound [] = Unit {0}
AreSound (r ∷ rs) = IsSound r × AreSound rs

way_rises : (start at : Point) (es : List Ends) (points : List Point) (rest : List Ends) → IsWay start at es points rest
    → IsRising IsEdgeBefore es → IsRising IsEdgeBefore rest
way_rises start at es points rest (at_start es₁) up = up
way_rises start at es points rest (onward at₁ e es₁ es₂ rest₁ points₁ apart h w) up =
    way_rises start (other_end at₁ e) es₂ points₁ rest₁ w (taken_rising at₁ es₁ e es₂ h up)

first_sound : (e : Ends) (es : List Ends) (points : List Point) (rest : List Ends) → IsWay e.0 e.1 es points rest
    → IsRising IsEdgeBefore (e ∷ es) → AreUndirected (e ∷ es) → AreInRange (e ∷ es) → IsSound (e.0 ∷ points)
first_sound e es points rest w up lesser fits =
    let proper = proper_from_undirected (e ∷ es) lesser in
    let absent : ¬ (Has es e) =
    λ m. edges_are_strict.irreflexive e (before_rest IsEdgeBefore edges_are_strict e es e up m) in
    let two = way_two e e.1 es points rest w refl (proper e (inl refl)) absent (undirected_back e (lesser e (inl refl)))
    (λ f m at. walked e.1 f (lesser f (inr m)) at) in
    let front = way_front e.0 e.1 es points rest w in
    let e_fits = fits e (inl refl) in
    let others = way_in_range e.0 e.1 es points rest w (λ f m. fits f (inr m)) e_fits.1 in
    record {
      enough = omega arith;
      in_range = rw (e_fits.0) others;
      apart = differ_cons e.0 e.1 front.0 (points ++ e.0 ∷ []) front.1 (proper e (inl refl))
          (way_differs e.0 e.1 es points rest w (λ f m. proper f (inr m)));
    }

pub rings_sound : (es : List Ends) (rings : List (List Point)) → AreRings es rings
    → IsRising IsEdgeBefore es → AreUndirected es → AreInRange es → AreSound rings
rings_sound es rings no_ring up lesser fits = tt
rings_sound es rings (one_more e es₁ rest points rings₁ w h) up lesser fits = (
  first_sound e es₁ points rest w up lesser fits,
  rings_sound rest rings₁ h (way_rises e.0 e.1 es₁ points rest w (rising_rest IsEdgeBefore e es₁ up))
      (λ f m. lesser f (inr (way_keeps e.0 e.1 es₁ points rest w f m)))
      (λ f m. fits f (inr (way_keeps e.0 e.1 es₁ points rest w f m))),
)

pub ring_from_sound : (ring : List Point) → IsSound ring → length ring ≤ MAX_RING_POINTS → IsRing ring
ring_from_sound ring h few = record { enough = h.enough; few = few; in_range = h.in_range; apart = h.apart }

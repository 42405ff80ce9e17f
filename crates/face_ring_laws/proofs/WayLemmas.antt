-- Ways of edges at whose points an even number stands: each comes back to its start.
use Rattle.std.proofs.Common.{◌≡◌, ◌≢◌, inl, inr, ℕ, zero, suc, ◌<◌, ◌≤◌, Bool, true, false, cond, ◌||◌, List, [], ◌∷◌, length}
use Rattle.std.proofs.Common.{Option, None, Some, refl, sym, ap, ap₂, subst, ◌∙◌, arith}
use Rattle.lay_point.specs.declared.point.Point.{Point}
use Rattle.lay_point.specs.Edges.{touches}
use Rattle.lay_point.specs.Parity.{xor, parity}
use Rattle.lay_point.specs.Points.{point_eq}
use Rattle.lay_point.proofs.EdgeOrder.{points_decide}
use Rattle.lay_point.proofs.Members.{Has}
use Rattle.lay_point.proofs.Parity.{xor-false, xor_comm, xor_self, xor_cancel}
use Rattle.lay_point.proofs.RingLemmas.{point_eq-false, point_eq-true}
use Rattle.face_ring_laws.specs.Linking.{Ends, other_end, ring_along, rings_up_to, take_at, way}
use Rattle.face_ring_laws.proofs.TakenLemmas.{
  IsTaken,
  is_taken,
  none_taken,
  other_has,
  taken_has,
  taken_length,
  taken_parity,
  taken_touches,
}

-- the ends differ
abbrev pub AreProper : List Ends → Type 0
AreProper es = (e : Ends) → Has es e → ¬ (e.0 ≡ e.1)

-- an even number stands at each point
abbrev pub AreEven : List Ends → Type 0
AreEven es = (v : Point) → parity (touches v) es ≡ false

-- from a point back to the start, along the first edge at each point; behind it these are left
pub data IsWay (start : Point) : Point → List Ends → List Point → List Ends → Type 0 where
  at_start : (es : List Ends) → IsWay start start es [] es
  onward : (at : Point) (e : Ends) (es es' rest : List Ends) (points : List Point) → at ≢ start → IsTaken at es e es'
      → IsWay start (other_end at e) es' points rest → IsWay start at es (at ∷ points) rest

-- ---- the two ends of an edge
-- at one of its ends, an edge with different ends has a point for an end where the one or the other end is that point
other_touches : (at x : Point) (e : Ends) → ¬ (e.0 ≡ e.1) → touches at e ≡ true
    → touches x e ≡ xor (point_eq at x) (point_eq (other_end at e) x)
other_touches at x e differ h = by_end (point_eq e.0 at) (point_eq e.1 at) refl refl h
  where
    ends_at : (a b : Point) → ¬ (a ≡ b) → (p q : Bool) → point_eq a x ≡ p → point_eq b x ≡ q → (p || q) ≡ xor p q
    ends_at a b apart false q f g = refl
    ends_at a b apart true false f g = refl
    ends_at a b apart true true f g = absurd (apart (point_eq-true a x f ∙ sym (point_eq-true b x g)))

    by_end : (p q : Bool) → point_eq e.0 at ≡ p → point_eq e.1 at ≡ q → (p || q) ≡ true
        → touches x e ≡ xor (point_eq at x) (point_eq (cond p e.1 e.0) x)
    by_end true q f g t =
        ends_at e.0 e.1 differ (point_eq e.0 x) (point_eq e.1 x) refl refl
        ∙ ap (λ v. xor (point_eq v x) (point_eq e.1 x)) (point_eq-true e.0 at f)
    by_end false true f g t =
        ends_at e.0 e.1 differ (point_eq e.0 x) (point_eq e.1 x) refl refl
        ∙ xor_comm (point_eq e.0 x) (point_eq e.1 x)
        ∙ ap (λ v. xor (point_eq v x) (point_eq e.0 x)) (point_eq-true e.1 at g)
    by_end false false f g t = absurd cc

xor_twice_front : (a b c : Bool) → a ≡ xor b c → c ≡ xor b a
xor_twice_front a false c e = sym e
xor_twice_front a true false e = rw e refl
xor_twice_front a true true e = rw e refl

-- how the edges left stand at the points while a way from the start is at a point
abbrev pub StandAt : Point → Point → List Ends → Type 0
StandAt start at es = (x : Point) → parity (touches x) es ≡ xor (point_eq start x) (point_eq at x)

further_stands : (start at : Point) (es : List Ends) (e : Ends) (es' : List Ends) → IsTaken at es e es' → ¬ (e.0 ≡ e.1)
    → StandAt start at es → StandAt start (other_end at e) es'
further_stands start at es e es' h differ stands x =
    let was : xor (point_eq start x) (point_eq at x) ≡ xor (touches x e) (parity (touches x) es') =
    sym (stands x) ∙ taken_parity at es e es' h (touches x) in
    let ends = other_touches at x e differ (taken_touches at es e es' h) in
    xor_twice_front (xor (point_eq start x) (point_eq at x)) (touches x e) (parity (touches x) es') was
    ∙ ap (λ b. xor b (xor (point_eq start x) (point_eq at x))) ends
    ∙ ap (xor (xor (point_eq at x) (point_eq (other_end at e) x))) (xor_comm (point_eq start x) (point_eq at x))
    ∙ ap (λ b. xor b (xor (point_eq at x) (point_eq start x))) (xor_comm (point_eq at x) (point_eq (other_end at e) x))
    ∙ xor_cancel (point_eq (other_end at e) x) (point_eq at x) (point_eq start x)
    ∙ xor_comm (point_eq (other_end at e) x) (point_eq start x)

-- ---- a way comes back
-- what is so of ways of fewer edges, from whichever point
abbrev pub ComesBack : ℕ → Point → Type 0
ComesBack n start = (at : Point) (es : List Ends) → length es < n → AreProper es → StandAt start at es
    → IsWay start at es (way n start at es).0 (way n start at es).1

way_further : (n : ℕ) (start at : Point) (es : List Ends) → ComesBack n start → length es < suc n → AreProper es → StandAt start at es
    → point_eq at start ≡ false → (o : Option (Ends × List Ends)) → take_at at es ≡ o
    → IsWay start at es (ring_along (way n start) at es o).0 (ring_along (way n start) at es o).1
way_further n start at es further less proper stands e None h =
    let even : parity (touches at) es ≡ false = none_taken at es h in
    let not_start : point_eq start at ≡ false = points_decide.apart start at (λ same. point_eq-false at start e (sym same)) in
    let odd : parity (touches at) es ≡ true = stands at ∙ ap₂ xor not_start (points_decide.itself at) in
    absurd cc
way_further n start at es further less proper stands e (Some t) h =
    let taken = is_taken at es t h in
    let count = taken_length at es t.0 t.1 taken in
    onward at t.0 es t.1 (way n start (other_end at t.0) t.1).1 (way n start (other_end at t.0) t.1).0 (point_eq-false at start e) taken
    (further (other_end at t.0) t.1 (omega arith) (λ f m. proper f (other_has at es t.0 t.1 taken f m))
    (further_stands start at es t.0 t.1 taken (proper t.0 (taken_has at es t.0 t.1 taken)) stands))

pub is_way : (n : ℕ) (start : Point) → ComesBack n start
is_way zero start at es less proper stands = absurd (omega arith)
is_way (suc n) start at es less proper stands =
    elim (point_eq at start) as (λ b. point_eq at start ≡ b
    → IsWay start at es (cond b ([], es) (ring_along (way n start) at es (take_at at es))).0
    (cond b ([], es) (ring_along (way n start) at es (take_at at es))).1) [
      | true ↦ λ e. subst (λ v. IsWay start v es [] es) (sym (point_eq-true at start e)) (at_start es)
      | false ↦ λ e. way_further n start at es (is_way n start) less proper stands e (take_at at es) refl
    ] refl

-- ---- what is left behind a way
pub way_keeps : (start at : Point) (es : List Ends) (points : List Point) (rest : List Ends) → IsWay start at es points rest
    → (f : Ends) → Has rest f → Has es f
way_keeps start at es points rest (at_start es₁) f m = m
way_keeps start at es points rest (onward at₁ e es₁ es₂ rest₁ points₁ apart h w) f m =
    other_has at₁ es₁ e es₂ h f (way_keeps start (other_end at₁ e) es₂ points₁ rest₁ w f m)

pub way_shorter : (start at : Point) (es : List Ends) (points : List Point) (rest : List Ends) → IsWay start at es points rest
    → length rest ≤ length es
way_shorter start at es points rest (at_start es₁) = omega arith
way_shorter start at es points rest (onward at₁ e es₁ es₂ rest₁ points₁ apart h w) =
    let shorter = way_shorter start (other_end at₁ e) es₂ points₁ rest₁ w in
    let count = taken_length at₁ es₁ e es₂ h in
    omega arith

pub way_stands : (start at : Point) (es : List Ends) (points : List Point) (rest : List Ends) → IsWay start at es points rest
    → AreProper es → StandAt start at es → AreEven rest
way_stands start at es points rest (at_start es₁) proper stands = λ v. stands v ∙ xor_self (point_eq start v)
way_stands start at es points rest (onward at₁ e es₁ es₂ rest₁ points₁ apart h w) proper stands =
    way_stands start (other_end at₁ e) es₂ points₁ rest₁ w (λ f m. proper f (other_has at₁ es₁ e es₂ h f m))
    (further_stands start at₁ es₁ e es₂ h (proper e (taken_has at₁ es₁ e es₂ h)) stands)

-- ---- all rings
pub data AreRings : List Ends → List (List Point) → Type 0 where
  no_ring : AreRings [] []
  one_more : (e : Ends) (es rest : List Ends) (points : List Point) (rings : List (List Point)) → IsWay e.0 e.1 es points rest
      → AreRings rest rings → AreRings (e ∷ es) ((e.0 ∷ points) ∷ rings)

-- behind the first edge, walked from its lesser end
first_stands : (e : Ends) (es : List Ends) → AreProper (e ∷ es) → AreEven (e ∷ es) → StandAt e.0 e.1 es
first_stands e es proper even x =
    xor_twice_front false (touches x e) (parity (touches x) es) (sym (even x))
    ∙ xor-false (touches x e)
    ∙ other_touches e.0 x e (proper e (inl refl)) (ap (λ b. b || point_eq e.1 e.0) (points_decide.itself e.0))
    ∙ ap (λ b. xor (point_eq e.0 x) (point_eq (cond b e.1 e.0) x)) (points_decide.itself e.0)

pub are_rings : (n : ℕ) (es : List Ends) → length es ≤ n → AreProper es → AreEven es → AreRings es (rings_up_to n es)
are_rings zero [] less proper even = no_ring
are_rings zero (e ∷ es) less proper even = absurd (omega arith)
are_rings (suc n) [] less proper even = no_ring
are_rings (suc n) (e ∷ es) less proper even =
    let stands = first_stands e es proper even in
    let rest = (way (suc (length es)) e.0 e.1 es).1 in
    let points = (way (suc (length es)) e.0 e.1 es).0 in
    let behind_first : AreProper es = λ f m. proper f (inr m) in
    let w : IsWay e.0 e.1 es points rest = is_way (suc (length es)) e.0 e.1 es (omega arith) behind_first stands in
    let shorter = way_shorter e.0 e.1 es points rest w in
    one_more e es rest points (rings_up_to n rest) w
    (are_rings n rest (omega arith) (λ f m. proper f (inr (way_keeps e.0 e.1 es points rest w f m)))
    (way_stands e.0 e.1 es points rest w behind_first stands))

-- The rings of rising edges are those that the subject names: at each step along the least edge that is left. And it names one list.
use Rattle.std.proofs.Common.{◌≡◌, ◌⊎◌, inl, inr, Bool, true, false, ◌||◌, List, [], ◌∷◌, Contains, refl, sym, ap, subst, ⊎_elim}
use Rattle.std.proofs.lemmas.Bool.{and_parts}
use Rattle.lay_point.specs.declared.point.Point.{Point}
use Rattle.lay_point.specs.Edges.{IsEdgeBefore, same_edge, touches}
use Rattle.lay_point.specs.Points.{point_eq}
use Rattle.lay_point.specs.Rising.{IsRising}
use Rattle.lay_point.proofs.EdgeOrder.{edges_are_strict, edges_decide, points_decide}
use Rattle.lay_point.proofs.Members.{Has, has, contains}
use Rattle.lay_point.proofs.Rising.{before_rest}
use Rattle.lay_point.proofs.RingLemmas.{point_eq-true}
use Rattle.face_ring_laws.specs.Linked.{AreLinked, IsLeastLeft, IsWayBack, back, done, on, ring}
use Rattle.face_ring_laws.specs.Linking.{Ends, other_end}
use Rattle.face_ring_laws.proofs.TakenLemmas.{IsTaken, here, has_other, other_has, taken_apart}
use Rattle.face_ring_laws.proofs.TakenLemmas.{taken_has, taken_least, taken_rising, taken_touches}
use Rattle.face_ring_laws.proofs.WayLemmas.{AreRings, IsWay, at_start, no_ring, onward, one_more}

-- of the edges those that aren't gone, in order
pub record AreLeft (edges gone es : List Ends) : Type 0 where
  pub given : (f : Ends) → Has es f → Has edges f
  pub left : (f : Ends) → Has es f → ¬ (Has gone f)
  pub all : (f : Ends) → Has edges f → ¬ (Has gone f) → Has es f
  pub rising : IsRising IsEdgeBefore es

at_end : (e : Ends) → touches e.0 e ≡ true
at_end e = ap (λ b. b || point_eq e.1 e.0) (points_decide.itself e.0)

less_left : (edges gone es es' : List Ends) (at : Point) (e : Ends) → AreLeft edges gone es → IsTaken at es e es'
    → AreLeft edges (e ∷ gone) es'
less_left edges gone es es' at e h taken = record {
  given = λ f m. h.given f (other_has at es e es' taken f m);
  left = λ f m g. ⊎_elim (λ (same : e ≡ f). taken_apart at es e es' taken h.rising f m same)
      (λ (before : Has gone f). h.left f (other_has at es e es' taken f m) before) g;
  all = λ f m not_gone. ⊎_elim (λ (same : e ≡ f). absurd (not_gone (inl same))) (λ (other : Has es' f). other)
      (has_other at es e es' taken f (h.all f m (λ before. not_gone (inr before))));
  rising = taken_rising at es e es' taken h.rising;
}

least_left : (edges gone es es' : List Ends) (at : Point) (e : Ends) → AreLeft edges gone es → IsTaken at es e es'
    → IsLeastLeft edges gone (touches at) e
least_left edges gone es es' at e h taken = record {
  given = contains edges e (h.given e (taken_has at es e es' taken));
  left = λ c. h.left e (taken_has at es e es' taken) (has gone e c);
  passes = taken_touches at es e es' taken;
  least = λ f c not_gone passes. taken_least at es e es' taken h.rising f
      (h.all f (has edges f c) (λ m. not_gone (contains gone f m))) passes;
}

first_left : (edges gone es : List Ends) (e : Ends) → AreLeft edges gone (e ∷ es) → IsLeastLeft edges gone (λ f. true) e
first_left edges gone es e h = record {
  given = contains edges e (h.given e (inl refl));
  left = λ c. h.left e (inl refl) (has gone e c);
  passes = refl;
  least = λ f c not_gone passes. ⊎_elim (λ (same : e ≡ f). inl same)
      (λ (m : Has es f). inr (before_rest IsEdgeBefore edges_are_strict e es f h.rising m))
      (h.all f (has edges f c) (λ m. not_gone (contains gone f m)));
}

way_back : (edges : List Ends) (start : Point) (gone : List Ends) (at : Point) (es : List Ends) (points : List Point) (rest : List Ends)
    → IsWay start at es points rest → AreLeft edges gone es
    → (gone' : List Ends) × IsWayBack edges start gone at points gone' × AreLeft edges gone' rest
way_back edges start gone at es points rest (at_start es₁) h = (gone, back gone, h)
way_back edges start gone at es points rest (onward at₁ e es₁ es₂ rest₁ points₁ apart taken w) h =
    let further = way_back edges start (e ∷ gone) (other_end at₁ e) es₂ points₁ rest₁ w (less_left edges gone es₁ es₂ at₁ e h taken) in
    (further.0, on gone further.0 at₁ e points₁ apart (least_left edges gone es₁ es₂ at₁ e h taken) further.1, further.2)

-- ---- all rings
has_or_not : (xs : List Ends) (e : Ends) → Has xs e ⊎ (¬ (Has xs e))
has_or_not [] e = inr (λ m. m)
has_or_not (x ∷ xs) e = by_test (same_edge x e) refl (has_or_not xs e)
  where
    by_test : (b : Bool) → same_edge x e ≡ b → Has xs e ⊎ (¬ (Has xs e)) → Has (x ∷ xs) e ⊎ (¬ (Has (x ∷ xs) e))
    by_test true h further =
        let both = and_parts (point_eq x.0 e.0) (point_eq x.1 e.1) h in
        inl (inl (λ i. (point_eq-true x.0 e.0 both.0 i, point_eq-true x.1 e.1 both.1 i)))
    by_test false h (inl m) = inl (inr m)
    by_test false h (inr n) = inr (λ m. ⊎_elim (λ (same : x ≡ e).
        let t : same_edge x e ≡ true = subst (λ z. same_edge x z ≡ true) same (edges_decide.itself x) in absurd cc) n m)

pub rings_linked : (edges gone es : List Ends) (rings : List (List Point)) → AreRings es rings → AreLeft edges gone es
    → AreLinked edges gone rings
rings_linked edges gone es rings no_ring left = done gone (λ e c. ⊎_elim (λ m. contains gone e m)
    (λ not_gone. absurd (left.all e (has edges e c) not_gone)) (has_or_not gone e))
rings_linked edges gone es rings (one_more e es₁ rest points rings₁ w h) left =
    let after_first = less_left edges gone (e ∷ es₁) es₁ e.0 e left (here e es₁ (at_end e)) in
    let behind = way_back edges e.0 (e ∷ gone) e.1 es₁ points rest w after_first in
    ring gone behind.0 e points rings₁ (first_left edges gone es₁ e left) behind.1 (rings_linked edges behind.0 rest rings₁ h behind.2)

-- ---- one list
one_least : (edges gone : List Ends) (test : Ends → Bool) (e f : Ends) → IsLeastLeft edges gone test e
    → IsLeastLeft edges gone test f → e ≡ f
one_least edges gone test e f h g =
    ⊎_elim (λ (same : e ≡ f). same) (λ (less : IsEdgeBefore e f).
    ⊎_elim (λ (same : f ≡ e). sym same)
    (λ (more : IsEdgeBefore f e). absurd (edges_are_strict.irreflexive e (edges_are_strict.transitive e f e less more)))
    (g.least e h.given h.left h.passes)) (h.least f g.given g.left g.passes)

one_way : (edges : List Ends) (start : Point) (gone : List Ends) (at : Point) (points : List Point) (g : List Ends)
    → IsWayBack edges start gone at points g → (gone' : List Ends) (at' : Point) (points' : List Point) (g' : List Ends)
    → IsWayBack edges start gone' at' points' g' → gone ≡ gone' → at ≡ at' → (points ≡ points') × (g ≡ g')
one_way edges start gone at points g (back gone₁) gone' at' points' g' (back gone₂) ge ae = (refl, ge)
one_way edges start gone at points g (back gone₁) gone' at' points' g' (on gone₂ g₂ at₂ e₂ points₂ apart h w) ge ae =
    absurd (apart (sym ae))
one_way edges start gone at points g (on gone₁ g₁ at₁ e₁ points₁ apart h w) gone' at' points' g' (back gone₂) ge ae = absurd (apart ae)
one_way edges start gone at points g (on gone₁ g₁ at₁ e₁ points₁ apart h w) gone' at' points' g'
    (on gone₂ g₂ at₂ e₂ points₂ apart₂ h₂ w₂) ge ae =
    let least : IsLeastLeft edges gone₁ (touches at₁) e₂ = coe 1 0 (k. IsLeastLeft edges (ge k) (touches (ae k)) e₂) h₂ in
    let same = one_least edges gone₁ (touches at₁) e₁ e₂ h least in
    let rest = one_way edges start (e₁ ∷ gone₁) (other_end at₁ e₁) points₁ g₁ w (e₂ ∷ gone₂) (other_end at₂ e₂) points₂ g₂ w₂
    (λ k. same k ∷ ge k) (λ k. other_end (ae k) (same k)) in
    ((λ k. ae k ∷ rest.0 k), rest.1)

one_list : (edges gone : List Ends) (rings : List (List Point)) → AreLinked edges gone rings
    → (gone' : List Ends) (rings' : List (List Point)) → AreLinked edges gone' rings' → gone ≡ gone' → rings ≡ rings'
one_list edges gone rings (done gone₁ all) gone' rings' (done gone₂ all₂) ge = refl
one_list edges gone rings (done gone₁ all) gone' rings' (ring gone₂ g₂ e₂ points₂ rings₂ least₂ w₂ h₂) ge =
    absurd (least₂.left (subst (λ z. Contains z e₂) ge (all e₂ least₂.given)))
one_list edges gone rings (ring gone₁ g₁ e₁ points₁ rings₁ least₁ w₁ h₁) gone' rings' (done gone₂ all₂) ge =
    absurd (least₁.left (subst (λ z. Contains z e₁) (sym ge) (all₂ e₁ least₁.given)))
one_list edges gone rings (ring gone₁ g₁ e₁ points₁ rings₁ least₁ w₁ h₁) gone' rings' (ring gone₂ g₂ e₂ points₂ rings₂ least₂ w₂ h₂) ge =
    let same = one_least edges gone₁ (λ f. true) e₁ e₂ least₁ (subst (λ z. IsLeastLeft edges z (λ f. true) e₂) (sym ge) least₂) in
    let way₂ : IsWayBack edges e₁.0 (e₁ ∷ gone₁) e₁.1 points₂ g₂ =
    coe 1 0 (k. IsWayBack edges (same k).0 (same k ∷ ge k) (same k).1 points₂ g₂) w₂ in
    let walked = one_way edges e₁.0 (e₁ ∷ gone₁) e₁.1 points₁ g₁ w₁ (e₁ ∷ gone₁) e₁.1 points₂ g₂ way₂ refl refl in
    let others = one_list edges g₁ rings₁ h₁ g₂ rings₂ h₂ walked.1 in
    (λ k. ((same k).0 ∷ walked.0 k) ∷ others k)

pub linked_once : (edges : List Ends) (rings rings' : List (List Point)) → AreLinked edges [] rings → AreLinked edges [] rings'
    → rings ≡ rings'
linked_once edges rings rings' h h' = one_list edges [] rings h [] rings' h' refl

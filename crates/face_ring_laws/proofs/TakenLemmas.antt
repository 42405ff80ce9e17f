-- The first edge at a point, taken out of rising edges: it is the least there, the others keep their order, and every
-- count of the edges is that of the edge and the others.
use Rattle.std.proofs.Common.{◌≡◌, ◌⊎◌, inl, inr, suc, ◌+◌, Bool, true, false, cond, List, [], ◌∷◌, length, Option, None, Some}
use Rattle.std.proofs.Common.{refl, sym, ap, subst, ◌∙◌, arith}
use Rattle.std.specs.List.{count_by}
use Rattle.std.proofs.lemmas.List.Sums.{sum_by-cons}
use Rattle.lay_point.specs.declared.point.Point.{Point}
use Rattle.lay_point.specs.Edges.{IsEdgeBefore, touches}
use Rattle.lay_point.specs.Parity.{xor, parity}
use Rattle.lay_point.specs.Rising.{IsRising}
use Rattle.lay_point.proofs.EdgeOrder.{edges_are_strict}
use Rattle.lay_point.proofs.Members.{Has}
use Rattle.lay_point.proofs.Parity.{xor_assoc, xor_comm}
use Rattle.lay_point.proofs.Rising.{before_rest, rising_rest}
use Rattle.face_ring_laws.specs.Linking.{Ends, keeping_first, take_at}

-- the edge is the first at the point, with the others
pub data IsTaken (v : Point) : List Ends → Ends → List Ends → Type 0 where
  here : (e : Ends) (es : List Ends) → touches v e ≡ true → IsTaken v (e ∷ es) e es
  later : (f e : Ends) (es es' : List Ends) → touches v f ≡ false → IsTaken v es e es' → IsTaken v (f ∷ es) e (f ∷ es')

-- ---- from the definition
taken_behind : (v : Point) (f : Ends) (es : List Ends) (o : Option (Ends × List Ends)) (t : Ends × List Ends) → touches v f ≡ false
    → ((u : Ends × List Ends) → o ≡ Some u → IsTaken v es u.0 u.1) → keeping_first f o ≡ Some t → IsTaken v (f ∷ es) t.0 t.1
taken_behind v f es None t off further h = absurd cc
taken_behind v f es (Some u) t off further h =
    let same : (u.0, f ∷ u.1) ≡ t = cc in
    subst (λ (z : Ends × List Ends). IsTaken v (f ∷ es) z.0 z.1) same (later f u.0 es u.1 off (further u refl))

pub is_taken : (v : Point) (es : List Ends) (t : Ends × List Ends) → take_at v es ≡ Some t → IsTaken v es t.0 t.1
is_taken v [] t h = absurd cc
is_taken v (e ∷ es) t h =
    elim (touches v e) as (λ b. touches v e ≡ b → cond b (Some (e, es)) (keeping_first e (take_at v es)) ≡ Some t
    → IsTaken v (e ∷ es) t.0 t.1) [
      | true ↦ λ at g. let same : (e, es) ≡ t = cc in subst (λ (z : Ends × List Ends). IsTaken v (e ∷ es) z.0 z.1) same (here e es at)
      | false ↦ λ off g. taken_behind v e es (take_at v es) t off (λ u k. is_taken v es u k) g
    ] refl h

none_behind : (f : Ends) (o : Option (Ends × List Ends)) → keeping_first f o ≡ None → o ≡ None
none_behind f None h = refl
none_behind f (Some u) h = absurd cc

-- where none is taken, none has the point for an end
pub none_taken : (v : Point) (es : List Ends) → take_at v es ≡ None → parity (touches v) es ≡ false
none_taken v [] h = refl
none_taken v (e ∷ es) h =
    elim (touches v e) as (λ b. cond b (Some (e, es)) (keeping_first e (take_at v es)) ≡ None → xor b (parity (touches v) es) ≡ false) [
      | true ↦ λ g. absurd cc
      | false ↦ λ g. none_taken v es (none_behind e (take_at v es) g)
    ] h

-- ---- the edge, and the others
pub taken_touches : (v : Point) (es : List Ends) (e : Ends) (es' : List Ends) → IsTaken v es e es' → touches v e ≡ true
taken_touches v es e es' (here e₁ es₁ at) = at
taken_touches v es e es' (later f e₁ es₁ es₂ off h) = taken_touches v es₁ e₁ es₂ h

pub taken_length : (v : Point) (es : List Ends) (e : Ends) (es' : List Ends) → IsTaken v es e es' → length es ≡ suc (length es')
taken_length v es e es' (here e₁ es₁ at) = refl
taken_length v es e es' (later f e₁ es₁ es₂ off h) = ap suc (taken_length v es₁ e₁ es₂ h)

xor_front : (a b c : Bool) → xor a (xor b c) ≡ xor b (xor a c)
xor_front a b c = sym (xor_assoc a b c) ∙ ap (λ z. xor z c) (xor_comm a b) ∙ xor_assoc b a c

pub taken_parity : (v : Point) (es : List Ends) (e : Ends) (es' : List Ends) → IsTaken v es e es'
    → (test : Ends → Bool) → parity test es ≡ xor (test e) (parity test es')
taken_parity v es e es' (here e₁ es₁ at) test = refl
taken_parity v es e es' (later f e₁ es₁ es₂ off h) test =
    ap (xor (test f)) (taken_parity v es₁ e₁ es₂ h test) ∙ xor_front (test f) (test e₁) (parity test es₂)

pub taken_count : (v : Point) (es : List Ends) (e : Ends) (es' : List Ends) → IsTaken v es e es'
    → (test : Ends → Bool) → count_by test es ≡ cond (test e) 1 0 + count_by test es'
taken_count v es e es' (here e₁ es₁ at) test = sum_by-cons (λ x. cond (test x) 1 0) e₁ es₁
taken_count v es e es' (later f e₁ es₁ es₂ off h) test =
    let whole = sum_by-cons (λ x. cond (test x) 1 0) f es₁ in
    let others = sum_by-cons (λ x. cond (test x) 1 0) f es₂ in
    let further = taken_count v es₁ e₁ es₂ h test in
    omega arith

-- ---- members
pub taken_has : (v : Point) (es : List Ends) (e : Ends) (es' : List Ends) → IsTaken v es e es' → Has es e
taken_has v es e es' (here e₁ es₁ at) = inl refl
taken_has v es e es' (later f e₁ es₁ es₂ off h) = inr (taken_has v es₁ e₁ es₂ h)

pub other_has : (v : Point) (es : List Ends) (e : Ends) (es' : List Ends) → IsTaken v es e es' → (g : Ends) → Has es' g → Has es g
other_has v es e es' (here e₁ es₁ at) g m = inr m
other_has v es e es' (later f e₁ es₁ es₂ off h) g (inl same) = inl same
other_has v es e es' (later f e₁ es₁ es₂ off h) g (inr m) = inr (other_has v es₁ e₁ es₂ h g m)

pub has_other : (v : Point) (es : List Ends) (e : Ends) (es' : List Ends) → IsTaken v es e es' → (g : Ends) → Has es g → (e ≡ g) ⊎ Has es' g
has_other v es e es' (here e₁ es₁ at) g m = m
has_other v es e es' (later f e₁ es₁ es₂ off h) g (inl same) = inr (inl same)
has_other v es e es' (later f e₁ es₁ es₂ off h) g (inr m) =
    elim (has_other v es₁ e₁ es₂ h g m) [ inl same ↦ inl same | inr n ↦ inr (inr n) ]

-- ---- in order
-- an edge before all of rising ones rises with them
pub rising_cons : (e : Ends) (es : List Ends) → ((g : Ends) → Has es g → IsEdgeBefore e g) → IsRising IsEdgeBefore es
    → IsRising IsEdgeBefore (e ∷ es)
rising_cons e [] first h = tt
rising_cons e (f ∷ es) first h = (first f (inl refl), h)

pub taken_rising : (v : Point) (es : List Ends) (e : Ends) (es' : List Ends) → IsTaken v es e es'
    → IsRising IsEdgeBefore es → IsRising IsEdgeBefore es'
taken_rising v es e es' (here e₁ es₁ at) up = rising_rest IsEdgeBefore e₁ es₁ up
taken_rising v es e es' (later f e₁ es₁ es₂ off h) up =
    rising_cons f es₂ (λ g m. before_rest IsEdgeBefore edges_are_strict f es₁ g up (other_has v es₁ e₁ es₂ h g m))
    (taken_rising v es₁ e₁ es₂ h (rising_rest IsEdgeBefore f es₁ up))

-- the edge isn't among the others
pub taken_apart : (v : Point) (es : List Ends) (e : Ends) (es' : List Ends) → IsTaken v es e es'
    → IsRising IsEdgeBefore es → (g : Ends) → Has es' g → ¬ (e ≡ g)
taken_apart v es e es' (here e₁ es₁ at) up g m same =
    edges_are_strict.irreflexive e₁ (subst (IsEdgeBefore e₁) (sym same) (before_rest IsEdgeBefore edges_are_strict e₁ es₁ g up m))
taken_apart v es e es' (later f e₁ es₁ es₂ off h) up g (inl first) same =
    edges_are_strict.irreflexive f (subst (IsEdgeBefore f) (same ∙ sym first)
    (before_rest IsEdgeBefore edges_are_strict f es₁ e₁ up (taken_has v es₁ e₁ es₂ h)))
taken_apart v es e es' (later f e₁ es₁ es₂ off h) up g (inr m) same =
    taken_apart v es₁ e₁ es₂ h (rising_rest IsEdgeBefore f es₁ up) g m same

-- and is the least at the point
pub taken_least : (v : Point) (es : List Ends) (e : Ends) (es' : List Ends) → IsTaken v es e es'
    → IsRising IsEdgeBefore es → (g : Ends) → Has es g → touches v g ≡ true → (e ≡ g) ⊎ IsEdgeBefore e g
taken_least v es e es' (here e₁ es₁ at) up g (inl same) on = inl same
taken_least v es e es' (here e₁ es₁ at) up g (inr m) on = inr (before_rest IsEdgeBefore edges_are_strict e₁ es₁ g up m)
taken_least v es e es' (later f e₁ es₁ es₂ off h) up g (inl same) on =
    let at = subst (λ z. touches v z ≡ true) (sym same) on in absurd cc
taken_least v es e es' (later f e₁ es₁ es₂ off h) up g (inr m) on =
    taken_least v es₁ e₁ es₂ h (rising_rest IsEdgeBefore f es₁ up) g m on

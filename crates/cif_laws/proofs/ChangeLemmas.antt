-- A change as a turn takes a point where the change takes it, and changes in a row where they take it in turn.
use Rattle.std.proofs.Common.{◌≡◌, inl, inr, ℕ, zero, suc, Bool, true, false, cond, List, [], ◌∷◌, ◌++◌, Option, Some, None, Ok}
use Rattle.std.proofs.Common.{ℤ, pos, neg_ℤ, ◌+ℤ◌, ◌-ℤ◌, ◌*ℤ◌, ◌<ℤ◌, refl, sym, ap, ap₂, subst, ◌∙◌, arith}
use Rattle.std.specs.Prelude.{◌↔◌, not}
use Rattle.std.specs.List.{list_all, list_any}
use Rattle.std.proofs.lemmas.Bool.{and_parts, false≢true, not-false, or_parts}
use Rattle.std.proofs.lemmas.Option.{cond_some}
use Rattle.lay_point.proofs.Polynomials.{#, lit, ◌⊕◌, ◌⊖◌, ◌⊗◌, ⊝, identity}
use Rattle.lay_point.proofs.Products.{*ℤ_comm}
use Rattle.lay_point.proofs.Signs.{cancel_same, linear, zero_product}
use Rattle.lay_point.specs.declared.point.Point.{Point}
use Rattle.lay_point.specs.declared.turn.Quarter.TheVariants.{R0, R180, R270, R90}
use Rattle.lay_point.specs.declared.turn.Turn.{Turn}
use Rattle.lay_point.specs.Points.{is_in_range}
use Rattle.lay_point.specs.Turns.{composed, turned, unturned}
use Rattle.lay_point.proofs.TurnLemmas.{turned-composed, turned-unturned}
use Rattle.lay_point.proofs.EdgeOrder.{point_x, same_point}
use Rattle.lay_point.proofs.NumberLaws.{suc_zero}
use Rattle.byte_io.proofs.Steps.{after_some}
use Rattle.cif_grammar.specs.declared.number.Number.{Number}
use Rattle.cif_grammar.specs.declared.calls.Change.{Change}
use Rattle.cif_grammar.specs.declared.calls.Change.TheVariants.{Direction, MirrorX, MirrorY, Shift}
use Rattle.cif_grammar.specs.declared.definitions.Scale.{Scale}
use Rattle.cif_grammar.specs.declared.paths.Vertex.{Vertex}
use Rattle.cif_read.specs.declared.content.Content.{Content}
use Rattle.cif_read.specs.declared.fault.FaultKind.TheVariants.{OffAxis, OffGrid}
use Rattle.cif_read.specs.Boxes.{is_on_axis}
use Rattle.cif_read.specs.Calls.{call_turn, origin, is_askew_change, is_whole_change, turn_in_range, turn_of, turn_or_fault}
use Rattle.cif_read.specs.Calls.{turn_changed_by}
use Rattle.cif_read.specs.Content.{after_call, current_scale}
use Rattle.cif_read.specs.Scales.{IsRatio, doubled, is_whole, scaled, value_of}
use Rattle.cif_read.proofs.RingFacts.{taken}
use Rattle.cif_read.proofs.ScaleLemmas.{scaled_exact}
use Rattle.cif_laws.specs.Changes.{CallsMovePoints, IsCallBy, IsRotated, MapsPoint, TakeInTurn}
use Rattle.cif_laws.specs.Directions.{IsLength, x_of, y_of}
use Rattle.cif_laws.specs.Distances.{IsDistance}
use Rattle.cif_laws.proofs.DistanceLemmas.{call_called, only_units}

point_y : (p q : Point) → p ≡ q → p.y ≡ q.y
point_y p q e = ap (λ (r : Point). r.y) e

plus_zero : (a : ℤ) → a +ℤ pos 0 ≡ a
plus_zero a = omega (arith, linear)

-- ---- lengths

-- a positive number follows from its square
one_root : (a b : ℤ) → pos 0 <ℤ a → pos 0 <ℤ b → a *ℤ a ≡ b *ℤ b → a ≡ b
one_root a b some_a some_b e =
    let parts : (a -ℤ b) *ℤ (a +ℤ b) ≡ a *ℤ a -ℤ b *ℤ b =
    identity (a ∷ b ∷ []) ((# 0 ⊖ # 1) ⊗ (# 0 ⊕ # 1)) (# 0 ⊗ # 0 ⊖ # 1 ⊗ # 1) refl in
    let none : (a -ℤ b) *ℤ (a +ℤ b) ≡ pos 0 = omega (arith, linear) in
    elim (zero_product (a -ℤ b) (a +ℤ b) none) [
      | inl z ↦ omega (arith, linear)
      | inr z ↦ absurd (omega (arith, linear))
    ]

pub one_length : (v : Vertex) (a b : ℤ) → IsLength v a → IsLength v b → a ≡ b
one_length v a b f g = one_root a b f.some g.some (f.square ∙ sym g.square)

-- ---- directions along an axis

-- a vertex by its numbers
abbrev pub vertex : Bool → ℕ → Bool → ℕ → Vertex
vertex x_negative x y_negative y =
    record { x = record { negative = x_negative; magnitude = x }; y = record { negative = y_negative; magnitude = y } }

pub no_value : (b : Bool) → value_of (record { negative = b; magnitude = 0 }) ≡ pos 0
no_value true = refl
no_value false = refl

-- where a turn by a direction takes a point follows from the direction's numbers and its length
turned_one : (v : Vertex) (k u w : ℤ) → x_of v ≡ u → y_of v ≡ w → pos 0 <ℤ k → k *ℤ k ≡ u *ℤ u +ℤ w *ℤ w → (p t q : Point)
    → t.x *ℤ k ≡ p.x *ℤ u -ℤ p.y *ℤ w → t.y *ℤ k ≡ p.x *ℤ w +ℤ p.y *ℤ u → IsRotated v p q ↔ (t ≡ q)
turned_one v k u w is_u is_w some square p t q is_x is_y = (forth, back)
  where
    length : IsLength v k
    length = record { some = some; square = square ∙ ap₂ (λ a b. a *ℤ a +ℤ b *ℤ b) (sym is_u) (sym is_w) }

    at_x : t.x *ℤ k ≡ p.x *ℤ x_of v -ℤ p.y *ℤ y_of v
    at_x = is_x ∙ ap₂ (λ a b. p.x *ℤ a -ℤ p.y *ℤ b) (sym is_u) (sym is_w)

    at_y : t.y *ℤ k ≡ p.x *ℤ y_of v +ℤ p.y *ℤ x_of v
    at_y = is_y ∙ ap₂ (λ a b. p.x *ℤ b +ℤ p.y *ℤ a) (sym is_u) (sym is_w)

    forth : IsRotated v p q → t ≡ q
    forth h =
        let same = one_length v h.length k h.is_length length in
        same_point t q
        (cancel_same k t.x q.x some (*ℤ_comm k t.x ∙ at_x ∙ sym h.x ∙ ap (λ l. q.x *ℤ l) same ∙ *ℤ_comm q.x k))
        (cancel_same k t.y q.y some (*ℤ_comm k t.y ∙ at_y ∙ sym h.y ∙ ap (λ l. q.y *ℤ l) same ∙ *ℤ_comm q.y k))

    back : t ≡ q → IsRotated v p q
    back e = subst (IsRotated v p) e (record { length = k; is_length = length; x = at_x; y = at_y })

some_of : (m : ℕ) → pos 0 <ℤ pos (suc m)
some_of m = omega (arith, linear)

-- squares of a number and of 0
square_x : (k : ℤ) → k *ℤ k ≡ k *ℤ k +ℤ pos 0 *ℤ pos 0
square_x k = identity (k ∷ []) (# 0 ⊗ # 0) (# 0 ⊗ # 0 ⊕ lit (pos 0) ⊗ lit (pos 0)) refl

square_y : (k : ℤ) → k *ℤ k ≡ pos 0 *ℤ pos 0 +ℤ k *ℤ k
square_y k = identity (k ∷ []) (# 0 ⊗ # 0) (lit (pos 0) ⊗ lit (pos 0) ⊕ # 0 ⊗ # 0) refl

square_minus_x : (k : ℤ) → k *ℤ k ≡ neg_ℤ k *ℤ neg_ℤ k +ℤ pos 0 *ℤ pos 0
square_minus_x k = identity (k ∷ []) (# 0 ⊗ # 0) ((⊝ (# 0)) ⊗ (⊝ (# 0)) ⊕ lit (pos 0) ⊗ lit (pos 0)) refl

square_minus_y : (k : ℤ) → k *ℤ k ≡ pos 0 *ℤ pos 0 +ℤ neg_ℤ k *ℤ neg_ℤ k
square_minus_y k = identity (k ∷ []) (# 0 ⊗ # 0) (lit (pos 0) ⊗ lit (pos 0) ⊕ (⊝ (# 0)) ⊗ (⊝ (# 0))) refl

-- the four turns of a point a b by the length k: to the x axis, against it, to the y axis, against it
east_x : (a b k : ℤ) → (a +ℤ pos 0) *ℤ k ≡ a *ℤ k -ℤ b *ℤ pos 0
east_x a b k = identity (a ∷ b ∷ k ∷ []) ((# 0 ⊕ lit (pos 0)) ⊗ # 2) (# 0 ⊗ # 2 ⊖ # 1 ⊗ lit (pos 0)) refl

east_y : (a b k : ℤ) → (b +ℤ pos 0) *ℤ k ≡ a *ℤ pos 0 +ℤ b *ℤ k
east_y a b k = identity (a ∷ b ∷ k ∷ []) ((# 1 ⊕ lit (pos 0)) ⊗ # 2) (# 0 ⊗ lit (pos 0) ⊕ # 1 ⊗ # 2) refl

west_x : (a b k : ℤ) → (neg_ℤ a +ℤ pos 0) *ℤ k ≡ a *ℤ neg_ℤ k -ℤ b *ℤ pos 0
west_x a b k = identity (a ∷ b ∷ k ∷ []) (((⊝ (# 0)) ⊕ lit (pos 0)) ⊗ # 2) (# 0 ⊗ (⊝ (# 2)) ⊖ # 1 ⊗ lit (pos 0)) refl

west_y : (a b k : ℤ) → (neg_ℤ b +ℤ pos 0) *ℤ k ≡ a *ℤ pos 0 +ℤ b *ℤ neg_ℤ k
west_y a b k = identity (a ∷ b ∷ k ∷ []) (((⊝ (# 1)) ⊕ lit (pos 0)) ⊗ # 2) (# 0 ⊗ lit (pos 0) ⊕ # 1 ⊗ (⊝ (# 2))) refl

north_x : (a b k : ℤ) → (neg_ℤ b +ℤ pos 0) *ℤ k ≡ a *ℤ pos 0 -ℤ b *ℤ k
north_x a b k = identity (a ∷ b ∷ k ∷ []) (((⊝ (# 1)) ⊕ lit (pos 0)) ⊗ # 2) (# 0 ⊗ lit (pos 0) ⊖ # 1 ⊗ # 2) refl

north_y : (a b k : ℤ) → (a +ℤ pos 0) *ℤ k ≡ a *ℤ k +ℤ b *ℤ pos 0
north_y a b k = identity (a ∷ b ∷ k ∷ []) ((# 0 ⊕ lit (pos 0)) ⊗ # 2) (# 0 ⊗ # 2 ⊕ # 1 ⊗ lit (pos 0)) refl

south_x : (a b k : ℤ) → (b +ℤ pos 0) *ℤ k ≡ a *ℤ pos 0 -ℤ b *ℤ neg_ℤ k
south_x a b k = identity (a ∷ b ∷ k ∷ []) ((# 1 ⊕ lit (pos 0)) ⊗ # 2) (# 0 ⊗ lit (pos 0) ⊖ # 1 ⊗ (⊝ (# 2))) refl

south_y : (a b k : ℤ) → (neg_ℤ a +ℤ pos 0) *ℤ k ≡ a *ℤ neg_ℤ k +ℤ b *ℤ pos 0
south_y a b k = identity (a ∷ b ∷ k ∷ []) (((⊝ (# 0)) ⊕ lit (pos 0)) ⊗ # 2) (# 0 ⊗ (⊝ (# 2)) ⊕ # 1 ⊗ lit (pos 0)) refl

pub askew : (a : Bool) (m : ℕ) (b : Bool) (n : ℕ) → is_on_axis (vertex a (suc m) b (suc n)) ≡ false
askew a m b n = rw (suc_zero m, suc_zero n) refl

-- the turns to the y axis and against it
north_is : (scale : Scale) (a : Bool) (n : ℕ) (p : Point)
    → turned (turn_of scale (Direction (vertex a 0 false (suc n)))) p ≡ record { x = neg_ℤ p.y +ℤ pos 0; y = p.x +ℤ pos 0 }
unfolding turned
north_is scale a n p =
    ap (λ b. turned (record { mirror = false; quarter = cond b (cond a R180 R0) R90; shift = origin }) p) (suc_zero n)

south_is : (scale : Scale) (a : Bool) (n : ℕ) (p : Point)
    → turned (turn_of scale (Direction (vertex a 0 true (suc n)))) p ≡ record { x = p.y +ℤ pos 0; y = neg_ℤ p.x +ℤ pos 0 }
unfolding turned
south_is scale a n p =
    ap (λ b. turned (record { mirror = false; quarter = cond b (cond a R180 R0) R270; shift = origin }) p) (suc_zero n)

direction : (scale : Scale) (x_negative : Bool) (x : ℕ) (y_negative : Bool) (y : ℕ) → is_on_axis (vertex x_negative x y_negative y) ≡ true
    → (p q : Point)
    → IsRotated (vertex x_negative x y_negative y) p q ↔ (turned (turn_of scale (Direction (vertex x_negative x y_negative y))) p ≡ q)
unfolding turned
direction scale a zero b zero h p q = absurd cc
direction scale a (suc m) b (suc n) h p q = absurd (false≢true (sym (askew a m b n) ∙ h))
direction scale false (suc m) b zero h p q =
    turned_one (vertex false (suc m) b 0) (pos (suc m)) (pos (suc m)) (pos 0) refl (no_value b) (some_of m) (square_x (pos (suc m))) p _ q
    (east_x p.x p.y (pos (suc m))) (east_y p.x p.y (pos (suc m)))
direction scale true (suc m) b zero h p q =
    turned_one (vertex true (suc m) b 0) (pos (suc m)) (neg_ℤ (pos (suc m))) (pos 0) refl (no_value b) (some_of m)
    (square_minus_x (pos (suc m))) p _ q (west_x p.x p.y (pos (suc m))) (west_y p.x p.y (pos (suc m)))
direction scale a zero false (suc n) h p q =
    subst (λ (t : Point). IsRotated (vertex a 0 false (suc n)) p q ↔ (t ≡ q)) (sym (north_is scale a n p))
    (turned_one (vertex a 0 false (suc n)) (pos (suc n)) (pos 0) (pos (suc n)) (no_value a) refl (some_of n) (square_y (pos (suc n))) p
    (record { x = neg_ℤ p.y +ℤ pos 0; y = p.x +ℤ pos 0 }) q (north_x p.x p.y (pos (suc n))) (north_y p.x p.y (pos (suc n))))
direction scale a zero true (suc n) h p q =
    subst (λ (t : Point). IsRotated (vertex a 0 true (suc n)) p q ↔ (t ≡ q)) (sym (south_is scale a n p))
    (turned_one (vertex a 0 true (suc n)) (pos (suc n)) (pos 0) (neg_ℤ (pos (suc n))) (no_value a) refl (some_of n)
    (square_minus_y (pos (suc n))) p (record { x = p.y +ℤ pos 0; y = neg_ℤ p.x +ℤ pos 0 }) q
    (south_x p.x p.y (pos (suc n))) (south_y p.x p.y (pos (suc n))))

-- ---- one change

moved_by : (scale : Scale) (n : Number) (a b : ℤ) → IsRatio scale → is_whole scale (doubled n) ≡ true
    → IsDistance scale n (b -ℤ a) → a +ℤ scaled scale (doubled n) ≡ b
moved_by scale n a b ratio whole h =
    let same = (only_units scale (doubled n) (b -ℤ a) ratio h).1 in
    ap (λ z. a +ℤ z) same ∙ omega (arith, linear)

moved_back : (scale : Scale) (n : Number) (a b : ℤ) → is_whole scale (doubled n) ≡ true → a +ℤ scaled scale (doubled n) ≡ b
    → IsDistance scale n (b -ℤ a)
moved_back scale n a b whole e =
    let same : scaled scale (doubled n) ≡ b -ℤ a = omega (arith, linear) in
    subst (IsDistance scale n) same (scaled_exact scale (doubled n) whole)

one_change : (scale : Scale) (c : Change) → IsRatio scale → is_askew_change c ≡ false → is_whole_change scale c ≡ true → (p q : Point)
    → MapsPoint scale c p q ↔ (turned (turn_of scale c) p ≡ q)
unfolding turned
one_change scale (Shift v) ratio straight whole p q =
    let both = and_parts (is_whole scale (doubled v.x)) (is_whole scale (doubled v.y)) whole in (
      (λ h. same_point _ q (moved_by scale v.x p.x q.x ratio both.0 h.x) (moved_by scale v.y p.y q.y ratio both.1 h.y)),
      (λ e. record {
        x = moved_back scale v.x p.x q.x both.0 (point_x _ q e);
        y = moved_back scale v.y p.y q.y both.1 (point_y _ q e);
      }),
    )
one_change scale MirrorX ratio straight whole p q = (
  (λ h. same_point _ q (plus_zero (neg_ℤ p.x) ∙ sym h.0) (plus_zero p.y ∙ sym h.1)),
  (λ e. (sym (point_x _ q e) ∙ plus_zero (neg_ℤ p.x), sym (point_y _ q e) ∙ plus_zero p.y)),
)
one_change scale MirrorY ratio straight whole p q = (
  (λ h. same_point _ q (plus_zero (neg_ℤ (neg_ℤ p.x)) ∙ twice p.x ∙ sym h.0) (plus_zero (neg_ℤ p.y) ∙ sym h.1)),
  (λ e. (sym (point_x _ q e) ∙ plus_zero (neg_ℤ (neg_ℤ p.x)) ∙ twice p.x, sym (point_y _ q e) ∙ plus_zero (neg_ℤ p.y))),
)
  where
    twice : (a : ℤ) → neg_ℤ (neg_ℤ a) ≡ a
    twice a = omega (arith, linear)
one_change scale (Direction v) ratio straight whole p q =
    direction scale v.x.negative v.x.magnitude v.y.negative v.y.magnitude (not-false (is_on_axis v) straight) p q

-- ---- changes in turn

in_turn : (scale : Scale) (from : Turn) (cs : List Change) (turn : Turn) → IsRatio scale → list_any is_askew_change cs ≡ false
    → list_all (is_whole_change scale) cs ≡ true → turn_changed_by scale from cs ≡ Some turn → (p q : Point)
    → TakeInTurn scale cs (turned from p) q ↔ (turned turn p ≡ q)
unfolding turn_changed_by
in_turn scale from [] turn ratio straight whole e p q =
    let same : from ≡ turn = cc in
    ((λ h. ap (λ t. turned t p) (sym same) ∙ h), (λ h. ap (λ t. turned t p) same ∙ h))
in_turn scale from (c ∷ cs) turn ratio straight whole e p q =
    let bent = or_parts (is_askew_change c) (list_any is_askew_change cs) straight in
    let both = and_parts (is_whole_change scale c) (list_all (is_whole_change scale) cs) whole in
    after_some (turn_in_range (composed from (turn_of scale c))) (λ next. turn_changed_by scale next cs) turn e (λ next is rest.
    let same : composed from (turn_of scale c) ≡ next =
    (cond_some (is_in_range (composed from (turn_of scale c)).shift) (composed from (turn_of scale c)) next is).1 in
    let led : turned (turn_of scale c) (turned from p) ≡ turned next p =
    sym (turned-composed from (turn_of scale c) p) ∙ ap (λ t. turned t p) same in
    let more = in_turn scale next cs turn ratio bent.1 both.1 rest p q in
    let one = one_change scale c ratio bent.0 both.0 (turned from p) in (
      (λ h. more.0 (subst (λ m. TakeInTurn scale cs m q) (sym ((one h.0).0 h.1) ∙ led) h.2)),
      (λ h. (turned next p, (one (turned next p)).1 led, more.1 h)),
    ))

in_turn_from : (scale : Scale) (cs : List Change) (found : Option Turn) (turn : Turn) → IsRatio scale → list_any is_askew_change cs ≡ false
    → list_all (is_whole_change scale) cs ≡ true → turn_changed_by scale unturned cs ≡ found → turn_or_fault found ≡ Ok turn → (p q : Point)
    → TakeInTurn scale cs p q ↔ (turned turn p ≡ q)
in_turn_from scale cs None turn ratio straight whole is e p q = absurd cc
in_turn_from scale cs (Some found) turn ratio straight whole is e p q =
    let same : found ≡ turn = cc in
    let law = in_turn scale unturned cs turn ratio straight whole (is ∙ ap Some same) p q in
    subst (λ r. TakeInTurn scale cs r q ↔ (turned turn p ≡ q)) (turned-unturned p) law

call_points : (scale : Scale) (cs : List Change) (turn : Turn) → IsRatio scale → call_turn scale cs ≡ Ok turn → (p q : Point)
    → TakeInTurn scale cs p q ↔ (turned turn p ≡ q)
unfolding call_turn
call_points scale cs turn ratio e p q =
    taken (list_any is_askew_change cs) OffAxis _ turn e (λ straight e.
    taken (not (list_all (is_whole_change scale) cs)) OffGrid _ turn e (λ whole e.
    in_turn_from scale cs (turn_changed_by scale unturned cs) turn ratio straight
    (not-false (list_all (is_whole_change scale) cs) whole) refl e
    p q))

call_by : (content next : Content) (offset symbol : ℕ) (cs : List Change) → IsRatio (current_scale content.definition)
    → after_call content offset symbol cs ≡ Ok next → IsCallBy content next offset symbol cs
call_by content next offset symbol cs ratio e =
    let c = call_called content next offset symbol cs e in
    record { turn = c.turn; next_is = c.next_is; points = λ p q. call_points (current_scale content.definition) cs c.turn ratio c.is p q }

more_changes : (scale : Scale) (first more : List Change) (p q : Point)
    → TakeInTurn scale (first ++ more) p q ↔ ((m : Point) × TakeInTurn scale first p m × TakeInTurn scale more m q)
more_changes scale [] more p q =
    ((λ h. (p, refl, h)), (λ h. subst (λ m. TakeInTurn scale more m q) (sym h.1) h.2))
more_changes scale (c ∷ cs) more p q = (
  (λ h. let r = (more_changes scale cs more h.0 q).0 h.2 in (r.0, (h.0, h.1, r.1), r.2)),
  (λ h. (h.1.0, h.1.1, (more_changes scale cs more h.1.0 q).1 (h.0, h.1.2, h.2))),
)

pub calls_law : CallsMovePoints
calls_law = record {
  calls = λ content next offset symbol changes ratio e. call_by content next offset symbol changes ratio e;
  more = more_changes;
}

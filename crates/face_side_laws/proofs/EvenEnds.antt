-- Of edges of which an even number stands at each point, an even number have ends that differ in a test of points.
use Rattle.std.proofs.Common.{◌≡◌, inl, inr, Bool, true, false, not, ◌&&◌, ◌||◌, List, [], ◌∷◌, refl, sym, ap, ap₂, subst, ◌∙◌}
use Rattle.lay_point.specs.declared.point.Point.{Point}
use Rattle.lay_point.specs.Edges.{touches}
use Rattle.lay_point.specs.Parity.{xor, parity}
use Rattle.lay_point.specs.Points.{point_eq}
use Rattle.lay_point.proofs.EdgeOrder.{one_end, points_decide}
use Rattle.lay_point.proofs.Members.{Has}
use Rattle.lay_point.proofs.Parity.{parity_agree, parity_none, parity-xor}
use Rattle.lay_point.proofs.RingLemmas.{point_eq-true}

-- the test, but not at the point
abbrev without : Point → (Point → Bool) → Point → Bool
without v test u = not (point_eq u v) && test u

split : (v : Point) (test : Point → Bool) (u : Point) → test u ≡ xor (without v test u) (test v && point_eq u v)
split v test u = by_same (point_eq u v) refl
  where
    here : (b : Bool) → b ≡ (b && true)
    here true = refl
    here false = refl

    elsewhere : (b c : Bool) → c ≡ xor c (b && false)
    elsewhere true true = refl
    elsewhere true false = refl
    elsewhere false true = refl
    elsewhere false false = refl

    by_same : (s : Bool) → point_eq u v ≡ s → test u ≡ xor (not s && test u) (test v && s)
    by_same true e = ap test (point_eq-true u v e) ∙ here (test v)
    by_same false e = elsewhere (test v) (test u)

module _ {W : Type 0} (counts : (Point × Point) × W → Bool) (items : List ((Point × Point) × W))
    (even : (v : Point) → parity (λ p. counts p && touches v p.0) items ≡ false)
    (proper : (p : (Point × Point) × W) → Has items p → ¬ (p.0.0 ≡ p.0.1)) where
  abbrev differ : (Point → Bool) → (Point × Point) × W → Bool
  differ test p = counts p && xor (test p.0.0) (test p.0.1)

  four_ways : (c ta tb tv ea eb : Bool) → (c && xor (xor ta (tv && ea)) (xor tb (tv && eb))) ≡ xor (c && xor ta tb) (tv && (c && xor ea eb))
  four_ways false ta tb false ea eb = refl
  four_ways false ta tb true ea eb = refl
  four_ways true false false false ea eb = refl
  four_ways true false true false ea eb = refl
  four_ways true true false false ea eb = refl
  four_ways true true true false ea eb = refl
  four_ways true false false true false false = refl
  four_ways true false false true false true = refl
  four_ways true false false true true false = refl
  four_ways true false false true true true = refl
  four_ways true false true true false false = refl
  four_ways true false true true false true = refl
  four_ways true false true true true false = refl
  four_ways true false true true true true = refl
  four_ways true true false true false false = refl
  four_ways true true false true false true = refl
  four_ways true true false true true false = refl
  four_ways true true false true true true = refl
  four_ways true true true true false false = refl
  four_ways true true true true false true = refl
  four_ways true true true true true false = refl
  four_ways true true true true true true = refl

  at_point : (v : Point) (b : Bool) → parity (λ p. b && (counts p && touches v p.0)) items ≡ false
  at_point v true = even v
  at_point v false = parity_none (λ p. false && (counts p && touches v p.0)) items (λ p m. refl)

  none_passes : (test : Point → Bool) → ((u : Point) → test u ≡ false) → parity (differ test) items ≡ false
  none_passes test none = parity_none (differ test) items (λ p m. each (counts p) (none p.0.0) (none p.0.1))
    where
      each : (c : Bool) → {a b : Bool} → a ≡ false → b ≡ false → (c && xor a b) ≡ false
      each true f g = ap₂ xor f g
      each false f g = refl

  not_true : (b : Bool) → (b ≡ true → ⊥) → b ≡ false
  not_true true h = absurd (h refl)
  not_true false h = refl

  both_parts : (a b : Bool) → (not a && b) ≡ true → (a ≡ false) × (b ≡ true)
  both_parts true b e = absurd cc
  both_parts false b e = (refl, e)

  -- a test that passes some of these points only
  by_support : (vs : List Point) (test : Point → Bool) → ((u : Point) → test u ≡ true → Has vs u) → parity (differ test) items ≡ false
  by_support [] test inside = none_passes test (λ u. not_true (test u) (inside u))
  by_support (v ∷ vs) test inside =
      parity_agree (differ test) (λ p. xor (differ (without v test) p) (test v && (counts p && touches v p.0))) items (λ p m.
      ap₂ (λ a b. counts p && xor a b) (split v test p.0.0) (split v test p.0.1)
      ∙ four_ways (counts p) (without v test p.0.0) (without v test p.0.1) (test v) (point_eq p.0.0 v) (point_eq p.0.1 v)
      ∙ ap (λ b. xor (differ (without v test) p) (test v && (counts p && b))) (one_end v p.0 (proper p m)))
      ∙ parity-xor (differ (without v test)) (λ p. test v && (counts p && touches v p.0)) items
      ∙ ap₂ xor (by_support vs (without v test) (λ u h.
      let parts = both_parts (point_eq u v) (test u) h in
      rest u parts.0 (inside u parts.1)))
      (at_point v (test v))
    where
      rest : (u : Point) → point_eq u v ≡ false → Has (v ∷ vs) u → Has vs u
      rest u e (inl same) =
          let t : point_eq u v ≡ true = subst (λ w. point_eq u w ≡ true) (sym same) (points_decide.itself u) in absurd cc
      rest u e (inr m) = m

  abbrev ends : List ((Point × Point) × W) → List Point
  ends [] = []
  ends (p ∷ ps) = p.0.0 ∷ p.0.1 ∷ ends ps

  abbrev is_end : List Point → Point → Bool
  is_end [] u = false
  is_end (v ∷ vs) u = point_eq v u || is_end vs u

  end_has : (vs : List Point) (u : Point) → is_end vs u ≡ true → Has vs u
  end_has [] u h = absurd cc
  end_has (v ∷ vs) u h = by_test (point_eq v u) refl h (λ g. end_has vs u g)
    where
      by_test : (b : Bool) → point_eq v u ≡ b → (b || is_end vs u) ≡ true → (is_end vs u ≡ true → Has vs u) → Has (v ∷ vs) u
      by_test true e g further = inl (point_eq-true v u e)
      by_test false e g further = inr (further g)

  has_end : (vs : List Point) (u : Point) → Has vs u → is_end vs u ≡ true
  has_end [] u m = absurd m
  has_end (v ∷ vs) u (inl same) = ap (λ b. b || is_end vs u) (subst (λ w. point_eq v w ≡ true) same (points_decide.itself v))
  has_end (v ∷ vs) u (inr m) = later (point_eq v u) (has_end vs u m)
    where
      later : (a : Bool) {b : Bool} → b ≡ true → (a || b) ≡ true
      later true h = refl
      later false h = h

  ends_of : (ps : List ((Point × Point) × W)) (p : (Point × Point) × W) → Has ps p → Has (ends ps) p.0.0 × Has (ends ps) p.0.1
  ends_of [] p m = absurd m
  ends_of (q ∷ ps) p (inl same) =
      (inl (ap (λ (r : (Point × Point) × W). r.0.0) same), inr (inl (ap (λ (r : (Point × Point) × W). r.0.1) same)))
  ends_of (q ∷ ps) p (inr m) = let further = ends_of ps p m in (inr (inr further.0), inr (inr further.1))

  and_true : (a b : Bool) → a ≡ true → (a && b) ≡ b
  and_true a b h = rw h refl

  first_true : (a b : Bool) → (a && b) ≡ true → a ≡ true
  first_true true b e = refl
  first_true false b e = absurd cc

  -- of the edges that count, an even number have ends that differ
  pub even_ends : (test : Point → Bool) → parity (λ p. counts p && xor (test p.0.0) (test p.0.1)) items ≡ false
  even_ends test =
      parity_agree (differ test) (differ (λ u. is_end (ends items) u && test u)) items (λ p m.
      let both = ends_of items p m in
      ap₂ (λ a b. counts p && xor a b)
      (sym (and_true (is_end (ends items) p.0.0) (test p.0.0) (has_end (ends items) p.0.0 both.0)))
      (sym (and_true (is_end (ends items) p.0.1) (test p.0.1) (has_end (ends items) p.0.1 both.1))))
      ∙ by_support (ends items) (λ u. is_end (ends items) u && test u)
      (λ u h. end_has (ends items) u (first_true (is_end (ends items) u) (test u) h))

-- Sides of a pixel against the points of a segment.
use Rattle.std.proofs.Common.{◌≡◌, ◌⊎◌, inl, inr, Bool, true, false, ◌↔◌, [], ◌∷◌, ℤ, pos, neg_ℤ, ◌+ℤ◌, ◌-ℤ◌, ◌*ℤ◌, ◌≤ℤ◌}
use Rattle.std.proofs.Common.{◌<ℤ◌, refl, sym, ◌∙◌, arith}
use Rattle.std.specs.Prelude.{IsTrue, MatchBool}
use Rattle.lay_point.proofs.Polynomials.{#, lit, ◌⊕◌, ◌⊖◌, ◌⊗◌, ⊝, identity}
use Rattle.lay_point.proofs.Signs.{linear, nonnegative_product, positive_product, cancel_nonnegative, cancel_positive}
use Rattle.lay_point.specs.declared.point.Point.{Point}
use Rattle.snap_pixels.specs.declared.side.Side.{Side}
use Rattle.snap_pixels.specs.declared.span.Span.{Span}
use Rattle.snap_pixels.specs.Pixels.{IsRoundedTo}
use Rattle.snap_pixels.specs.Segments.{Meets, along}
use Rattle.snap_pixels.specs.Sides.{IsWithin, Passes, depth}

-- ---- the two sides of an interval
pub lower_is : (a b c slope offset k t : ℤ) → slope ≡ pos 2 *ℤ (b -ℤ a) → offset ≡ pos 2 *ℤ (a -ℤ c) +ℤ pos 1
    → (pos 0 ≤ℤ (slope *ℤ t +ℤ offset *ℤ k)) ↔ ((pos 2 *ℤ c *ℤ k) ≤ℤ (pos 2 *ℤ along k t a b +ℤ k))
lower_is a b c slope offset k t s o =
    let e = identity (a ∷ b ∷ c ∷ k ∷ t ∷ [])
    (lit (pos 2) ⊗ (# 1 ⊖ # 0) ⊗ # 4 ⊕ (lit (pos 2) ⊗ (# 0 ⊖ # 2) ⊕ lit (pos 1)) ⊗ # 3)
    (lit (pos 2) ⊗ (# 0 ⊗ (# 3 ⊖ # 4) ⊕ # 1 ⊗ # 4) ⊕ # 3 ⊖ lit (pos 2) ⊗ # 2 ⊗ # 3) refl in
    rw (s, o) ((λ h. omega (arith, linear, e)), (λ h. omega (arith, linear, e)))

pub upper_is : (a b c slope offset k t : ℤ) → slope ≡ pos 2 *ℤ (a -ℤ b) → offset ≡ pos 2 *ℤ (c -ℤ a) +ℤ pos 1
    → (pos 0 <ℤ (slope *ℤ t +ℤ offset *ℤ k)) ↔ ((pos 2 *ℤ along k t a b) <ℤ (pos 2 *ℤ c *ℤ k +ℤ k))
upper_is a b c slope offset k t s o =
    let e = identity (a ∷ b ∷ c ∷ k ∷ t ∷ [])
    (lit (pos 2) ⊗ (# 0 ⊖ # 1) ⊗ # 4 ⊕ (lit (pos 2) ⊗ (# 2 ⊖ # 0) ⊕ lit (pos 1)) ⊗ # 3)
    (lit (pos 2) ⊗ # 2 ⊗ # 3 ⊕ # 3 ⊖ lit (pos 2) ⊗ (# 0 ⊗ (# 3 ⊖ # 4) ⊕ # 1 ⊗ # 4)) refl in
    rw (s, o) ((λ h. omega (arith, linear, e)), (λ h. omega (arith, linear, e)))

-- ---- of two sides that a point passes the same way, one is stronger: with p' v = p v' + g k
at_least : (o : Bool) (v : ℤ) → MatchBool o (pos 0 <ℤ v) (pos 0 ≤ℤ v) → pos 0 ≤ℤ v
at_least true v h = omega (arith, linear)
at_least false v h = h

at_most_strict : (o : Bool) (v : ℤ) → pos 0 <ℤ v → MatchBool o (pos 0 <ℤ v) (pos 0 ≤ℤ v)
at_most_strict true v h = h
at_most_strict false v h = omega (arith, linear)

at_closed : (o : Bool) (v : ℤ) → o ≡ false → pos 0 ≤ℤ v → MatchBool o (pos 0 <ℤ v) (pos 0 ≤ℤ v)
at_closed o v e h = rw e h

-- where g is positive
stronger : (p v p' v' g k : ℤ) → pos 1 ≤ℤ k → pos 0 <ℤ p → pos 0 <ℤ p' → pos 0 <ℤ g → p *ℤ v' ≡ p' *ℤ v +ℤ g *ℤ k → pos 0 ≤ℤ v → pos 0 <ℤ v'
stronger p v p' v' g k one hp hp' hg e h =
    let left = nonnegative_product p' v (omega (arith, linear)) h in
    let right = positive_product g k hg (omega (arith, linear)) in
    cancel_positive p v' (omega (arith, linear)) (omega (arith, linear))

-- where they are multiples of each other
as_strong : (p v p' v' : ℤ) → pos 0 <ℤ p → pos 0 <ℤ p' → p *ℤ v' ≡ p' *ℤ v → pos 0 <ℤ v → pos 0 <ℤ v'
as_strong p v p' v' hp hp' e h =
    let left = positive_product p' v hp' h in cancel_positive p v' (omega (arith, linear)) (omega (arith, linear))

as_weak : (p v p' v' : ℤ) → pos 0 <ℤ p → pos 0 <ℤ p' → p *ℤ v' ≡ p' *ℤ v → pos 0 ≤ℤ v → pos 0 ≤ℤ v'
as_weak p v p' v' hp hp' e h =
    let left = nonnegative_product p' v (omega (arith, linear)) h in cancel_nonnegative p v' hp (omega (arith, linear))

-- what two sides have to do with each other
depths : (f s : Side) (k t : ℤ) → f.slope *ℤ depth s k t ≡ s.slope *ℤ depth f k t +ℤ (f.slope *ℤ s.offset -ℤ s.slope *ℤ f.offset) *ℤ k
depths f s k t =
    identity (f.slope ∷ f.offset ∷ s.slope ∷ s.offset ∷ k ∷ t ∷ [])
    (# 0 ⊗ (# 2 ⊗ # 5 ⊕ # 3 ⊗ # 4)) (# 2 ⊗ (# 0 ⊗ # 5 ⊕ # 1 ⊗ # 4) ⊕ (# 0 ⊗ # 3 ⊖ # 2 ⊗ # 1) ⊗ # 4) refl

depths_back : (f s : Side) (k t : ℤ)
    → neg_ℤ f.slope *ℤ depth s k t ≡ neg_ℤ s.slope *ℤ depth f k t +ℤ (s.slope *ℤ f.offset -ℤ f.slope *ℤ s.offset) *ℤ k
depths_back f s k t =
    identity (f.slope ∷ f.offset ∷ s.slope ∷ s.offset ∷ k ∷ t ∷ [])
    (⊝ (# 0) ⊗ (# 2 ⊗ # 5 ⊕ # 3 ⊗ # 4)) (⊝ (# 2) ⊗ (# 0 ⊗ # 5 ⊕ # 1 ⊗ # 4) ⊕ (# 2 ⊗ # 1 ⊖ # 0 ⊗ # 3) ⊗ # 4) refl

no_more : (g k v : ℤ) → g ≡ pos 0 → v +ℤ g *ℤ k ≡ v
no_more g k v e = rw e (identity (k ∷ v ∷ []) (# 1 ⊕ lit (pos 0) ⊗ # 0) (# 1) refl)

-- ---- sides that a point enters by
module _ (f s : Side) (k t : ℤ) (one : pos 1 ≤ℤ k) (hf : pos 0 <ℤ f.slope) (hs : pos 0 <ℤ s.slope) where
  pub later_passes : (s.slope *ℤ f.offset) <ℤ (f.slope *ℤ s.offset) → Passes f k t → Passes s k t
  later_passes g h =
      at_most_strict s.open _ (stronger f.slope (depth f k t) s.slope (depth s k t) _ k one hf hs
      (omega (arith, linear)) (depths f s k t) (at_least f.open _ h))

  same : f.slope *ℤ s.offset ≡ s.slope *ℤ f.offset → f.slope *ℤ depth s k t ≡ s.slope *ℤ depth f k t
  same g = depths f s k t ∙ no_more _ k _ (omega (arith, linear, g))

  pub open_passes : f.slope *ℤ s.offset ≡ s.slope *ℤ f.offset → f.open ≡ true → Passes f k t → Passes s k t
  open_passes g o h = at_most_strict s.open _ (as_strong f.slope (depth f k t) s.slope (depth s k t) hf hs (same g) (rw o at h))

  pub closed_passes : f.slope *ℤ s.offset ≡ s.slope *ℤ f.offset → f.open ≡ false → Passes s k t → Passes f k t
  closed_passes g o h = rw o (as_weak s.slope (depth s k t) f.slope (depth f k t) hs hf (sym (same g)) (at_least s.open _ h))

-- ---- sides that a point leaves by
module _ (f s : Side) (k t : ℤ) (one : pos 1 ≤ℤ k) (hf : f.slope <ℤ pos 0) (hs : s.slope <ℤ pos 0) where
  pub earlier_passes : (f.slope *ℤ s.offset) <ℤ (s.slope *ℤ f.offset) → Passes f k t → Passes s k t
  earlier_passes g h =
      at_most_strict s.open _ (stronger (neg_ℤ f.slope) (depth f k t) (neg_ℤ s.slope) (depth s k t) _ k one
      (omega (arith, linear)) (omega (arith, linear)) (omega (arith, linear)) (depths_back f s k t) (at_least f.open _ h))

  same_back : f.slope *ℤ s.offset ≡ s.slope *ℤ f.offset → neg_ℤ f.slope *ℤ depth s k t ≡ neg_ℤ s.slope *ℤ depth f k t
  same_back g = depths_back f s k t ∙ no_more _ k _ (omega (arith, linear, g))

  pub open_leaves : f.slope *ℤ s.offset ≡ s.slope *ℤ f.offset → f.open ≡ true → Passes f k t → Passes s k t
  open_leaves g o h =
      at_most_strict s.open _ (as_strong (neg_ℤ f.slope) (depth f k t) (neg_ℤ s.slope) (depth s k t)
      (omega (arith, linear)) (omega (arith, linear)) (same_back g) (rw o at h))

  pub closed_leaves : f.slope *ℤ s.offset ≡ s.slope *ℤ f.offset → f.open ≡ false → Passes s k t → Passes f k t
  closed_leaves g o h =
      rw o (as_weak (neg_ℤ s.slope) (depth s k t) (neg_ℤ f.slope) (depth f k t)
      (omega (arith, linear)) (omega (arith, linear)) (sym (same_back g)) (at_least s.open _ h))

-- ---- a side that a point enters by and one that it leaves by
module _ (l h : Side) (hl : pos 0 <ℤ l.slope) (hh : h.slope <ℤ pos 0) where
  gap : ℤ
  gap = l.slope *ℤ h.offset -ℤ h.slope *ℤ l.offset

  sum_is_gap : (k t : ℤ) → neg_ℤ h.slope *ℤ depth l k t +ℤ l.slope *ℤ depth h k t ≡ k *ℤ gap
  unfolding gap
  sum_is_gap k t =
      identity (l.slope ∷ l.offset ∷ h.slope ∷ h.offset ∷ k ∷ t ∷ [])
      (⊝ (# 2) ⊗ (# 0 ⊗ # 5 ⊕ # 1 ⊗ # 4) ⊕ # 0 ⊗ (# 2 ⊗ # 5 ⊕ # 3 ⊗ # 4)) (# 4 ⊗ (# 0 ⊗ # 3 ⊖ # 2 ⊗ # 1)) refl

  gap_at_least : (k t : ℤ) → pos 1 ≤ℤ k → Passes l k t → Passes h k t → pos 0 ≤ℤ gap
  gap_at_least k t one p q =
      let e = sum_is_gap k t in
      let left = nonnegative_product (neg_ℤ h.slope) (depth l k t) (omega (arith, linear)) (at_least l.open _ p) in
      let right = nonnegative_product l.slope (depth h k t) (omega (arith, linear)) (at_least h.open _ q) in
      cancel_nonnegative k gap (omega (arith, linear)) (omega (arith, linear))

  gap_above : (k t : ℤ) → pos 1 ≤ℤ k → (l.open ≡ true) ⊎ (h.open ≡ true) → Passes l k t → Passes h k t → pos 0 <ℤ gap
  gap_above k t one (inl o) p q =
      let e = sum_is_gap k t in
      let left = positive_product (neg_ℤ h.slope) (depth l k t) (omega (arith, linear)) (rw o at p) in
      let right = nonnegative_product l.slope (depth h k t) (omega (arith, linear)) (at_least h.open _ q) in
      cancel_positive k gap (omega (arith, linear)) (omega (arith, linear))
  gap_above k t one (inr o) p q =
      let e = sum_is_gap k t in
      let left = nonnegative_product (neg_ℤ h.slope) (depth l k t) (omega (arith, linear)) (at_least l.open _ p) in
      let right = positive_product l.slope (depth h k t) hl (rw o at q) in
      cancel_positive k gap (omega (arith, linear)) (omega (arith, linear))

  -- the fraction half way between the two sides
  half_k : ℤ
  half_k = pos 2 *ℤ (l.slope *ℤ neg_ℤ h.slope)

  half_t : ℤ
  half_t = h.offset *ℤ l.slope +ℤ l.offset *ℤ h.slope

  half_low : depth l half_k half_t ≡ l.slope *ℤ gap
  unfolding gap half_k half_t
  half_low =
      identity (l.slope ∷ l.offset ∷ h.slope ∷ h.offset ∷ [])
      (# 0 ⊗ (# 3 ⊗ # 0 ⊕ # 1 ⊗ # 2) ⊕ # 1 ⊗ (lit (pos 2) ⊗ (# 0 ⊗ ⊝ (# 2)))) (# 0 ⊗ (# 0 ⊗ # 3 ⊖ # 2 ⊗ # 1)) refl

  half_high : depth h half_k half_t ≡ neg_ℤ h.slope *ℤ gap
  unfolding gap half_k half_t
  half_high =
      identity (l.slope ∷ l.offset ∷ h.slope ∷ h.offset ∷ [])
      (# 2 ⊗ (# 3 ⊗ # 0 ⊕ # 1 ⊗ # 2) ⊕ # 3 ⊗ (lit (pos 2) ⊗ (# 0 ⊗ ⊝ (# 2)))) (⊝ (# 2) ⊗ (# 0 ⊗ # 3 ⊖ # 2 ⊗ # 1)) refl

  abbrev pub HoldsSome : Type 0
  HoldsSome = (k : ℤ) × (t : ℤ) × (pos 1 ≤ℤ k) × (Passes l k t × Passes h k t)

  half_scale : pos 1 ≤ℤ half_k
  unfolding half_k
  half_scale = let p = positive_product l.slope (neg_ℤ h.slope) hl (omega (arith, linear)) in omega (arith, linear)

  pub holds_between : (h.slope *ℤ l.offset) <ℤ (l.slope *ℤ h.offset) → HoldsSome
  unfolding gap
  holds_between g =
      let wide : pos 0 <ℤ gap = omega (arith, linear) in (
        half_k,
        half_t,
        half_scale,
        (
          at_most_strict l.open _ (rw half_low (positive_product l.slope gap hl wide)),
          at_most_strict h.open _ (rw half_high (positive_product (neg_ℤ h.slope) gap (omega (arith, linear)) wide)),
        ),
      )

  pub holds_touching : l.slope *ℤ h.offset ≡ h.slope *ℤ l.offset → l.open ≡ false → h.open ≡ false → HoldsSome
  unfolding gap
  holds_touching g o o' =
      let wide : pos 0 ≤ℤ gap = omega (arith, linear) in (
        half_k,
        half_t,
        half_scale,
        (
          at_closed l.open _ o (rw half_low (nonnegative_product l.slope gap (omega (arith, linear)) wide)),
          at_closed h.open _ o' (rw half_high (nonnegative_product (neg_ℤ h.slope) gap (omega (arith, linear)) wide)),
        ),
      )

  pub holds_none : (l.slope *ℤ h.offset) <ℤ (h.slope *ℤ l.offset) → HoldsSome → ⊥
  unfolding gap
  holds_none g (k, t, one, (p, q)) = let w = gap_at_least k t one p q in omega (arith, linear)

  pub touching_none : l.slope *ℤ h.offset ≡ h.slope *ℤ l.offset → (l.open ≡ true) ⊎ (h.open ≡ true) → HoldsSome → ⊥
  unfolding gap
  touching_none g o (k, t, one, (p, q)) = let w = gap_above k t one o p q in omega (arith, linear)

-- ---- a segment meets a pixel where a fraction is left of its columns and rows
pub Meets-by_spans : (a b c : Point) (ax bx cx ay by cy : ℤ) (whole columns rows : Span) (r : Bool)
    → ax ≡ a.x → bx ≡ b.x → cx ≡ c.x → ay ≡ a.y → by ≡ b.y → cy ≡ c.y
    → ((k t : ℤ) → IsWithin whole k t ↔ ((pos 0 ≤ℤ t) × (t ≤ℤ k)))
    → ((k t : ℤ) → pos 1 ≤ℤ k → IsWithin columns k t ↔ (IsWithin whole k t × IsRoundedTo cx k (along k t ax bx)))
    → ((k t : ℤ) → pos 1 ≤ℤ k → IsWithin rows k t ↔ (IsWithin columns k t × IsRoundedTo cy k (along k t ay by)))
    → (IsTrue r ↔ ((k : ℤ) × (t : ℤ) × (pos 1 ≤ℤ k) × IsWithin rows k t))
    → IsTrue r ↔ Meets a b c
Meets-by_spans a b c ax bx cx ay by cy whole columns rows r eax ebx ecx eay eby ecy hw hc hr hs =
    ((λ yes. some (hs.0 yes)), (λ met. hs.1 (back met)))
  where
    some : ((k : ℤ) × (t : ℤ) × (pos 1 ≤ℤ k) × IsWithin rows k t) → Meets a b c
    some (k, t, one, w) =
        let both = (hr k t one).0 w in
        let first = (hc k t one).0 both.0 in
        let ends = (hw k t).0 first.0 in (
          k,
          t,
          record { scale = one; low = ends.0; high = ends.1 },
          record {
            column = coe 0 1 (i. IsRoundedTo (ecx i) k (along k t (eax i) (ebx i))) first.1;
            row = coe 0 1 (i. IsRoundedTo (ecy i) k (along k t (eay i) (eby i))) both.1;
          },
        )

    back : Meets a b c → (k : ℤ) × (t : ℤ) × (pos 1 ≤ℤ k) × IsWithin rows k t
    back (k, t, f, p) =
        let column = coe 1 0 (i. IsRoundedTo (ecx i) k (along k t (eax i) (ebx i))) p.column in
        let row = coe 1 0 (i. IsRoundedTo (ecy i) k (along k t (eay i) (eby i))) p.row in
        (k, t, f.scale, (hr k t f.scale).1 ((hc k t f.scale).1 ((hw k t).1 (f.low, f.high), column), row))

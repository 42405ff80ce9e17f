-- Sides along an axis: the centres that they meet are those between their ends, and in that order.
use Rattle.std.proofs.Common.{◌≡◌, ◌↔◌, inl, inr, ⊎_elim, ℕ, ◌+◌, ◌<◌, ◌≤◌, List, [], ◌∷◌, length, get_or, ℤ, pos, ◌-ℤ◌, ◌*ℤ◌, ◌≤ℤ◌, ◌<ℤ◌}
use Rattle.std.proofs.Common.{refl, sym, ap, subst, ◌∙◌, arith, Contains}
use Rattle.std.specs.Prelude.{slice_range, reverse}
use Rattle.lay_point.proofs.Polynomials.{#, ◌⊕◌, ◌⊖◌, ◌⊗◌, identity}
use Rattle.lay_point.proofs.Signs.{linear, below_or_not}
use Rattle.lay_point.specs.declared.point.Point.{Point}
use Rattle.lay_point.specs.Points.{IsBefore}
use Rattle.snap_pixels.specs.Pixels.{IsRoundedTo}
use Rattle.snap_pixels.specs.Segments.{Meets, along}
use Rattle.snap_pixels.proofs.BoxLemmas.{Meets-apart}
use Rattle.snap_pixels.proofs.StraightLemmas.{rounded_centre}
use Rattle.snap_edge_laws.proofs.Order.{IsSpot}
use Rattle.snap_pixels.specs.declared.segment.Segment.{Segment}
use Rattle.snap_edge_laws.specs.Edges.{IsBelow}
use Rattle.snap_edge_laws.specs.Chains.{IsChain}
use Rattle.lay_point.specs.Rising.{IsRising}
use Rattle.lay_point.proofs.Members.{Has, has, contains}
use Rattle.lay_point.proofs.Rising.{IsStrictOrder, IsUpTo}
use Rattle.lay_point.proofs.EdgeOrder.{same_point}
use Rattle.snap_edge_laws.proofs.ChainOrder.{below_by_spots}
use Rattle.snap_slabs.specs.Runs.{IsRowBefore}
use Rattle.snap_slabs.proofs.Stretches.{rising_back, rising_in, rising_range, has-reverse, reverse-has, stretch_is_between}

pub row_before_is_strict : IsStrictOrder IsRowBefore
row_before_is_strict = record { irreflexive = irreflexive; transitive = transitive }
  where
    irreflexive : (p : Point) → IsRowBefore p p → ⊥
    irreflexive p (inl h) = omega (arith, linear)
    irreflexive p (inr h) = omega (arith, linear, h.1)

    transitive : (p q r : Point) → IsRowBefore p q → IsRowBefore q r → IsRowBefore p r
    transitive p q r (inl h) (inl g) = inl (omega (arith, linear))
    transitive p q r (inl h) (inr g) = inl (omega (arith, linear, g.0))
    transitive p q r (inr h) (inl g) = inl (omega (arith, linear, h.0))
    transitive p q r (inr h) (inr g) = inr (h.0 ∙ g.0, omega (arith, linear, h.1, g.1))

-- ---- coordinates
forth_is : (a b c : ℤ) → c *ℤ (b -ℤ a) ≡ along (b -ℤ a) (c -ℤ a) a b
forth_is a b c = identity (a ∷ b ∷ c ∷ []) (# 2 ⊗ (# 1 ⊖ # 0)) (# 0 ⊗ ((# 1 ⊖ # 0) ⊖ (# 2 ⊖ # 0)) ⊕ # 1 ⊗ (# 2 ⊖ # 0)) refl

back_is : (a b c : ℤ) → c *ℤ (a -ℤ b) ≡ along (a -ℤ b) (a -ℤ c) a b
back_is a b c = identity (a ∷ b ∷ c ∷ []) (# 2 ⊗ (# 0 ⊖ # 1)) (# 0 ⊗ ((# 0 ⊖ # 1) ⊖ (# 0 ⊖ # 2)) ⊕ # 1 ⊗ (# 0 ⊖ # 2)) refl

still_is : (k t a : ℤ) → a *ℤ k ≡ along k t a a
still_is k t a = identity (k ∷ t ∷ a ∷ []) (# 2 ⊗ # 0) (# 2 ⊗ (# 0 ⊖ # 1) ⊕ # 2 ⊗ # 1) refl

-- where a side along an axis is in the pixel of c
still : (k t a b c : ℤ) → pos 1 ≤ℤ k → a ≡ b → c ≡ a → IsRoundedTo c k (along k t a b)
still k t a b c scale e f = subst (λ v. IsRoundedTo c k (along k t a v)) e
    (subst (λ v. IsRoundedTo v k (along k t a a)) (sym f) (subst (IsRoundedTo a k) (still_is k t a) (rounded_centre a k scale)))

forth : (a b c : ℤ) → a <ℤ b → IsRoundedTo c (b -ℤ a) (along (b -ℤ a) (c -ℤ a) a b)
forth a b c less = subst (IsRoundedTo c (b -ℤ a)) (forth_is a b c) (rounded_centre c (b -ℤ a) (omega (arith, linear)))

back : (a b c : ℤ) → b <ℤ a → IsRoundedTo c (a -ℤ b) (along (a -ℤ b) (a -ℤ c) a b)
back a b c less = subst (IsRoundedTo c (a -ℤ b)) (back_is a b c) (rounded_centre c (a -ℤ b) (omega (arith, linear)))

-- a coordinate that is met is between the ends'
pub between_columns : (a b c : Point) (low high : ℤ) → Meets a b c → low ≤ℤ a.x → low ≤ℤ b.x → a.x ≤ℤ high → b.x ≤ℤ high
    → (low ≤ℤ c.x) × (c.x ≤ℤ high)
between_columns a b c low high met la lb ha hb = (
  ⊎_elim (λ (less : c.x <ℤ low). absurd (Meets-apart a b c (inl (inr (
    omega (arith, linear),
    omega (arith, linear),
    omega (arith, linear),
    omega (arith, linear),
  ))) met)) (λ (ge : low ≤ℤ c.x). ge) (below_or_not c.x low),
  ⊎_elim (λ (more : high <ℤ c.x). absurd (Meets-apart a b c (inl (inl (
    omega (arith, linear),
    omega (arith, linear),
    omega (arith, linear),
    omega (arith, linear),
  ))) met)) (λ (le : c.x ≤ℤ high). le) (below_or_not high c.x),
)

pub between_rows : (a b c : Point) (low high : ℤ) → Meets a b c → low ≤ℤ a.y → low ≤ℤ b.y → a.y ≤ℤ high → b.y ≤ℤ high
    → (low ≤ℤ c.y) × (c.y ≤ℤ high)
between_rows a b c low high met la lb ha hb = (
  ⊎_elim (λ (less : c.y <ℤ low). absurd (Meets-apart a b c (inr (inr (
    omega (arith, linear),
    omega (arith, linear),
    omega (arith, linear),
    omega (arith, linear),
  ))) met)) (λ (ge : low ≤ℤ c.y). ge) (below_or_not c.y low),
  ⊎_elim (λ (more : high <ℤ c.y). absurd (Meets-apart a b c (inr (inl (
    omega (arith, linear),
    omega (arith, linear),
    omega (arith, linear),
    omega (arith, linear),
  ))) met)) (λ (le : c.y ≤ℤ high). le) (below_or_not high c.y),
)

-- ---- sides along which the met centres are in an order
-- the segment meets those from `low` to `high`, at the fractions t / k
pub record IsAlong (Before : Point → Point → Type 0) (s : Segment) (low high : Point) (k : ℤ) (t : Point → ℤ) : Type 0 where
  pub spot : (c : Point) → IsUpTo Before low c → IsUpTo Before c high → IsSpot s c k (t c)
  pub met : (c : Point) → Meets s.a s.b c → IsUpTo Before low c × IsUpTo Before c high

-- ---- chains
module _ (Before : Point → Point → Type 0) (laws : IsStrictOrder Before) (hot xs : List Point) (up : IsRising Before xs)
    (same : (c : Point) → Contains xs c ↔ Contains hot c) (s : Segment) (low high : Point) (k : ℤ) (t : Point → ℤ)
    (h : IsAlong Before s low high k t) (i j : ℕ) (ordered : i ≤ j) (inside : j < length xs)
    (first : get_or xs i low ≡ low) (last : get_or xs j high ≡ high) where
  abbrev IsInside : Point → Type 0
  IsInside c = IsUpTo Before low c × IsUpTo Before c high

  stretch : List Point
  stretch = slice_range xs i (j + 1)

  in_between : (c : Point) → Contains stretch c ↔ (Contains xs c × IsUpTo Before low c × IsUpTo Before c high)
  unfolding stretch
  in_between c = stretch_is_between Before laws xs up i j low high ordered inside first last c

  exact : (c : Point) → Contains stretch c ↔ (Contains hot c × Meets s.a s.b c)
  exact c = (
    (λ m.
        let b = (in_between c).0 m in
        let p = h.spot c b.1 b.2 in
        ((same c).0 b.0, (k, t c, record { scale = p.scale; low = p.low; high = p.high }, p.holds))),
    (λ m. let b = h.met c m.1 in (in_between c).1 ((same c).1 m.0, b.0, b.1)),
  )

  -- of two in the stretch the earlier in the list is met first, or last
  first_met : ((c d : Point) → IsInside c → IsInside d → Before c d → t c ≤ℤ t d) → (c d : Point) → Has stretch c → Has stretch d
      → Before c d → IsBelow s c d
  first_met rises c d m n less =
      let b = (in_between c).0 (contains stretch c m) in
      let e = (in_between d).0 (contains stretch d n) in
      ⊎_elim (λ (one : c ≡ d). absurd (laws.irreflexive c (subst (Before c) (sym one) less))) (λ (below : IsBelow s c d). below)
      (below_by_spots s c d k (t c) (t d) (h.spot c b.1 b.2) (h.spot d e.1 e.2) (rises c d (b.1, b.2) (e.1, e.2) less))

  last_met : ((c d : Point) → IsInside c → IsInside d → Before c d → t d ≤ℤ t c) → (c d : Point) → Has stretch c → Has stretch d
      → Before c d → IsBelow s d c
  last_met falls c d m n less =
      let b = (in_between c).0 (contains stretch c m) in
      let e = (in_between d).0 (contains stretch d n) in
      ⊎_elim (λ (one : d ≡ c). absurd (laws.irreflexive c (subst (Before c) one less))) (λ (below : IsBelow s d c). below)
      (below_by_spots s d c k (t d) (t c) (h.spot d e.1 e.2) (h.spot c b.1 b.2) (falls c d (b.1, b.2) (e.1, e.2) less))

  pub chain_forth : ((c d : Point) → IsInside c → IsInside d → Before c d → t c ≤ℤ t d)
      → IsChain (Contains hot) s (slice_range xs i (j + 1))
  unfolding stretch
  chain_forth rises = record {
    rising = rising_in Before (IsBelow s) stretch (first_met rises) (rising_range Before xs i (j + 1) up);
    exact = exact;
  }

  pub chain_back : ((c d : Point) → IsInside c → IsInside d → Before c d → t d ≤ℤ t c)
      → IsChain (Contains hot) s (reverse (slice_range xs i (j + 1)))
  unfolding stretch
  chain_back falls = record {
    rising = rising_back (IsBelow s) stretch
        (rising_in Before (λ c d. IsBelow s d c) stretch (last_met falls) (rising_range Before xs i (j + 1) up));
    exact = λ c. (
      (λ m. (exact c).0 (contains stretch c (reverse-has stretch c (has (reverse stretch) c m)))),
      (λ m. contains (reverse stretch) c (has-reverse stretch c (has stretch c ((exact c).1 m)))),
    );
  }

-- ---- upright sides
-- between the ends in the order of points: on the side
on_column : (low high c : Point) → low.x ≡ high.x → IsUpTo IsBefore low c → IsUpTo IsBefore c high
    → (c.x ≡ low.x) × (low.y ≤ℤ c.y) × (c.y ≤ℤ high.y)
on_column low high c same (inl e) (inl f) = let x = ap (λ (p : Point). p.x) e in let y = ap (λ (p : Point). p.y) e in
    let y' = ap (λ (p : Point). p.y) f in (sym x, omega (arith, linear, y), omega (arith, linear, y'))
on_column low high c same (inl e) (inr g) = let x = ap (λ (p : Point). p.x) e in let y = ap (λ (p : Point). p.y) e in (
  sym x,
  omega (arith, linear, y),
  ⊎_elim (λ (l : c.x <ℤ high.x). absurd (omega (arith, linear, x)))
      (λ (r : (c.x ≡ high.x) × (c.y <ℤ high.y)). omega (arith, linear, r.1)) g,
)
on_column low high c same (inr g) (inl f) = let x = ap (λ (p : Point). p.x) f in let y = ap (λ (p : Point). p.y) f in (
  x ∙ sym same,
  ⊎_elim (λ (l : low.x <ℤ c.x). absurd (omega (arith, linear, x)))
      (λ (r : (low.x ≡ c.x) × (low.y <ℤ c.y)). omega (arith, linear, r.1)) g,
  omega (arith, linear, y),
)
on_column low high c same (inr (inl l)) (inr (inl m)) = absurd (omega (arith, linear))
on_column low high c same (inr (inl l)) (inr (inr m)) = absurd (omega (arith, linear, m.0))
on_column low high c same (inr (inr l)) (inr (inl m)) = absurd (omega (arith, linear, l.0))
on_column low high c same (inr (inr l)) (inr (inr m)) = (sym l.0, omega (arith, linear, l.1), omega (arith, linear, m.1))

up_to_column : (p q : Point) → p.x ≡ q.x → p.y ≤ℤ q.y → IsUpTo IsBefore p q
up_to_column p q e le = ⊎_elim (λ (less : p.y <ℤ q.y). inr (inr (e, less)))
    (λ (ge : q.y ≤ℤ p.y). inl (same_point p q e (omega (arith, linear))))
    (below_or_not p.y q.y)

pub along_up : (s : Segment) → s.a.x ≡ s.b.x → s.a.y <ℤ s.b.y → IsAlong IsBefore s s.a s.b (s.b.y -ℤ s.a.y) (λ c. c.y -ℤ s.a.y)
along_up s e less = record {
  spot = λ c l h.
      let on = on_column s.a s.b c e l h in
      record {
        scale = omega (arith, linear);
        low = omega (arith, linear, on.1);
        high = omega (arith, linear, on.2);
        holds = record {
          column = still (s.b.y -ℤ s.a.y) (c.y -ℤ s.a.y) s.a.x s.b.x c.x (omega (arith, linear)) e on.0;
          row = forth s.a.y s.b.y c.y less;
        };
      };
  met = λ c m.
      let x = between_columns s.a s.b c s.a.x s.a.x m (omega (arith, linear)) (omega (arith, linear, e)) (omega (arith, linear))
      (omega (arith, linear, e)) in
      let y = between_rows s.a s.b c s.a.y s.b.y m (omega (arith, linear)) (omega (arith, linear)) (omega (arith, linear))
      (omega (arith, linear)) in
      let cx : s.a.x ≡ c.x = omega (arith, linear, x.0, x.1) in
      (up_to_column s.a c cx y.0, up_to_column c s.b (sym cx ∙ e) y.1);
}

pub along_down : (s : Segment) → s.a.x ≡ s.b.x → s.b.y <ℤ s.a.y → IsAlong IsBefore s s.b s.a (s.a.y -ℤ s.b.y) (λ c. s.a.y -ℤ c.y)
along_down s e less = record {
  spot = λ c l h.
      let on = on_column s.b s.a c (sym e) l h in
      record {
        scale = omega (arith, linear);
        low = omega (arith, linear, on.2);
        high = omega (arith, linear, on.1);
        holds = record {
          column = still (s.a.y -ℤ s.b.y) (s.a.y -ℤ c.y) s.a.x s.b.x c.x (omega (arith, linear)) e (on.0 ∙ sym e);
          row = back s.a.y s.b.y c.y less;
        };
      };
  met = λ c m.
      let x = between_columns s.a s.b c s.a.x s.a.x m (omega (arith, linear)) (omega (arith, linear, e)) (omega (arith, linear))
      (omega (arith, linear, e)) in
      let y = between_rows s.a s.b c s.b.y s.a.y m (omega (arith, linear)) (omega (arith, linear)) (omega (arith, linear))
      (omega (arith, linear)) in
      let cx : s.a.x ≡ c.x = omega (arith, linear, x.0, x.1) in
      (up_to_column s.b c (sym e ∙ cx) y.0, up_to_column c s.a (sym cx) y.1);
}

-- ---- level sides
on_row : (low high c : Point) → low.y ≡ high.y → IsUpTo IsRowBefore low c → IsUpTo IsRowBefore c high
    → (c.y ≡ low.y) × (c.x ≤ℤ low.x) × (high.x ≤ℤ c.x)
on_row low high c same (inl e) (inl f) = let y = ap (λ (p : Point). p.y) e in let x = ap (λ (p : Point). p.x) e in
    let x' = ap (λ (p : Point). p.x) f in (sym y, omega (arith, linear, x), omega (arith, linear, x'))
on_row low high c same (inl e) (inr g) = let y = ap (λ (p : Point). p.y) e in let x = ap (λ (p : Point). p.x) e in (
  sym y,
  omega (arith, linear, x),
  ⊎_elim (λ (l : c.y <ℤ high.y). absurd (omega (arith, linear, y)))
      (λ (r : (c.y ≡ high.y) × (high.x <ℤ c.x)). omega (arith, linear, r.1)) g,
)
on_row low high c same (inr g) (inl f) = let y = ap (λ (p : Point). p.y) f in let x = ap (λ (p : Point). p.x) f in (
  y ∙ sym same,
  ⊎_elim (λ (l : low.y <ℤ c.y). absurd (omega (arith, linear, y)))
      (λ (r : (low.y ≡ c.y) × (c.x <ℤ low.x)). omega (arith, linear, r.1)) g,
  omega (arith, linear, x),
)
on_row low high c same (inr (inl l)) (inr (inl m)) = absurd (omega (arith, linear))
on_row low high c same (inr (inl l)) (inr (inr m)) = absurd (omega (arith, linear, m.0))
on_row low high c same (inr (inr l)) (inr (inl m)) = absurd (omega (arith, linear, l.0))
on_row low high c same (inr (inr l)) (inr (inr m)) = (sym l.0, omega (arith, linear, l.1), omega (arith, linear, m.1))

up_to_row : (p q : Point) → p.y ≡ q.y → q.x ≤ℤ p.x → IsUpTo IsRowBefore p q
up_to_row p q e le = ⊎_elim (λ (less : q.x <ℤ p.x). inr (inr (e, less)))
    (λ (ge : p.x ≤ℤ q.x). inl (same_point p q (omega (arith, linear)) e))
    (below_or_not q.x p.x)

-- to the left
pub along_left : (s : Segment) → s.a.y ≡ s.b.y → s.b.x <ℤ s.a.x → IsAlong IsRowBefore s s.a s.b (s.a.x -ℤ s.b.x) (λ c. s.a.x -ℤ c.x)
along_left s e less = record {
  spot = λ c l h.
      let on = on_row s.a s.b c e l h in
      record {
        scale = omega (arith, linear);
        low = omega (arith, linear, on.1);
        high = omega (arith, linear, on.2);
        holds = record {
          column = back s.a.x s.b.x c.x less;
          row = still (s.a.x -ℤ s.b.x) (s.a.x -ℤ c.x) s.a.y s.b.y c.y (omega (arith, linear)) e on.0;
        };
      };
  met = λ c m.
      let y = between_rows s.a s.b c s.a.y s.a.y m (omega (arith, linear)) (omega (arith, linear, e)) (omega (arith, linear))
      (omega (arith, linear, e)) in
      let x = between_columns s.a s.b c s.b.x s.a.x m (omega (arith, linear)) (omega (arith, linear)) (omega (arith, linear))
      (omega (arith, linear)) in
      let cy : s.a.y ≡ c.y = omega (arith, linear, y.0, y.1) in
      (up_to_row s.a c cy x.1, up_to_row c s.b (sym cy ∙ e) x.0);
}

pub along_right : (s : Segment) → s.a.y ≡ s.b.y → s.a.x <ℤ s.b.x → IsAlong IsRowBefore s s.b s.a (s.b.x -ℤ s.a.x) (λ c. c.x -ℤ s.a.x)
along_right s e less = record {
  spot = λ c l h.
      let on = on_row s.b s.a c (sym e) l h in
      record {
        scale = omega (arith, linear);
        low = omega (arith, linear, on.2);
        high = omega (arith, linear, on.1);
        holds = record {
          column = forth s.a.x s.b.x c.x less;
          row = still (s.b.x -ℤ s.a.x) (c.x -ℤ s.a.x) s.a.y s.b.y c.y (omega (arith, linear)) e (on.0 ∙ sym e);
        };
      };
  met = λ c m.
      let y = between_rows s.a s.b c s.a.y s.a.y m (omega (arith, linear)) (omega (arith, linear, e)) (omega (arith, linear))
      (omega (arith, linear, e)) in
      let x = between_columns s.a s.b c s.a.x s.b.x m (omega (arith, linear)) (omega (arith, linear)) (omega (arith, linear))
      (omega (arith, linear)) in
      let cy : s.a.y ≡ c.y = omega (arith, linear, y.0, y.1) in
      (up_to_row s.b c (sym e ∙ cy) x.1, up_to_row c s.a (sym cy) x.0);
}

-- of two on such a side
pub column_rises : (low high c d : Point) → low.x ≡ high.x → IsUpTo IsBefore low c × IsUpTo IsBefore c high
    → IsUpTo IsBefore low d × IsUpTo IsBefore d high → IsBefore c d → c.y ≤ℤ d.y
column_rises low high c d e h g before =
    let on = on_column low high c e h.0 h.1 in
    let on' = on_column low high d e g.0 g.1 in
    ⊎_elim (λ (less : c.x <ℤ d.x). absurd (omega (arith, linear, on.0, on'.0)))
    (λ (tie : (c.x ≡ d.x) × (c.y <ℤ d.y)). omega (arith, linear, tie.1)) before

pub row_falls : (low high c d : Point) → low.y ≡ high.y → IsUpTo IsRowBefore low c × IsUpTo IsRowBefore c high
    → IsUpTo IsRowBefore low d × IsUpTo IsRowBefore d high → IsRowBefore c d → d.x ≤ℤ c.x
row_falls low high c d e h g before =
    let on = on_row low high c e h.0 h.1 in
    let on' = on_row low high d e g.0 g.1 in
    ⊎_elim (λ (less : c.y <ℤ d.y). absurd (omega (arith, linear, on.0, on'.0)))
    (λ (tie : (c.y ≡ d.y) × (d.x <ℤ c.x)). omega (arith, linear, tie.1)) before

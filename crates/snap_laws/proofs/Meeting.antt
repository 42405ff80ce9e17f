-- The test of bounds is exact: some fraction is within all of them where it says so.
use Rattle.std.proofs.Common.{◌≡◌, inl, inr, Bool, true, false, cond, not, ◌&&◌, ◌↔◌, List, [], ◌∷◌, ℤ, pos, negsuc, ◌+ℤ◌, ◌-ℤ◌, ◌*ℤ◌}
use Rattle.std.proofs.Common.{◌≤ℤ◌, ◌<ℤ◌, refl, sym, subst, arith, Decides}
use Rattle.std.specs.Prelude.{MatchBool, int_le, int_lt}
use Rattle.std.specs.declared.cmp.Ordering.{Ordering}
use Rattle.std.specs.declared.cmp.Ordering.TheVariants.{Less, Equal, Greater}
use Rattle.std.specs.Ordering.{MatchOrdering, int_cmp}
use Rattle.std.proofs.lemmas.Bool.{false≢true}
use Rattle.std.proofs.lemmas.Bool.Decides.{Decides-like}
use Rattle.std.proofs.lemmas.Cmp.{int_ranked}
use Rattle.lay_point.proofs.Polynomials.{#, lit, ◌⊕◌, ◌⊖◌, ◌⊗◌, identity}
use Rattle.lay_point.proofs.Signs.{linear, nonnegative_product, positive_product, cancel_nonnegative, cancel_positive}
use Rattle.lay_point.proofs.Tests.{le_true, lt_true, true_le, true_lt}
use Rattle.lay_point.specs.declared.point.Point.{Point}
use Rattle.snap_pixels.specs.Segments.{Meets, along}
use Rattle.snap_pixels.specs.Sides.{depth}
use Rattle.snap_pixels.proofs.SideLemmas.{lower_is, upper_is, later_passes, open_passes, closed_passes, earlier_passes, open_leaves}
use Rattle.snap_pixels.proofs.SideLemmas.{closed_leaves, holds_between, holds_none, holds_touching, touching_none}
use Rattle.snap_laws.specs.Meeting.{
  Bound,
  bound_order,
  earlier,
  unit_finish,
  later,
  leaves_all,
  leaves_some,
  leaves_some_in,
  lower,
  meets_of,
}
use Rattle.snap_laws.specs.Meeting.{narrower, unit_start, upper}
use Rattle.snap_laws.specs.Sorting.{by_order}

-- the fraction t / k is within the bound
abbrev IsIn : Bound → ℤ → ℤ → Type 0
IsIn s k t = MatchBool s.is_strict (pos 0 <ℤ (s.slope *ℤ t +ℤ s.offset *ℤ k)) (pos 0 ≤ℤ (s.slope *ℤ t +ℤ s.offset *ℤ k))

-- the lemmas of `snap_pixels` speak of sides, the type that `depth` takes; a bound as one of these
abbrev Domain : {A B : Type 0} → (A → B) → Type 0
Domain {A} f = A

abbrev side : Bound → Domain depth
side s = record { slope = s.slope; offset = s.offset; «open» = s.is_strict }

-- ---- of two lower bounds the greater, and of two upper bounds the lesser
module _ (f s : Bound) where
  abbrev IsRankedAs : Ordering → Type 0
  IsRankedAs o =
      MatchOrdering o ((f.slope *ℤ s.offset) <ℤ (s.slope *ℤ f.offset)) (f.slope *ℤ s.offset ≡ s.slope *ℤ f.offset)
      ((s.slope *ℤ f.offset) <ℤ (f.slope *ℤ s.offset))

  is_ranked : IsRankedAs (bound_order f s)
  is_ranked = int_ranked (f.slope *ℤ s.offset) (s.slope *ℤ f.offset) (bound_order f s) refl

  -- what is so of both is so of the one that is taken
  narrower_one : (P : Bound → Type 0) → P f → P s → P (narrower f s)
  narrower_one P hf hs = by_test f.is_strict
    where
      by_test : (b : Bool) → P (cond b f s)
      by_test true = hf
      by_test false = hs

  later_one : (P : Bound → Type 0) → P f → P s → P (later f s)
  later_one P hf hs = by_rank (bound_order f s)
    where
      by_rank : (o : Ordering) → P (by_order o s (narrower f s) f)
      by_rank Less = hs
      by_rank Equal = narrower_one P hf hs
      by_rank Greater = hf

  earlier_one : (P : Bound → Type 0) → P f → P s → P (earlier f s)
  earlier_one P hf hs = by_rank (bound_order f s)
    where
      by_rank : (o : Ordering) → P (by_order o f (narrower f s) s)
      by_rank Less = hf
      by_rank Equal = narrower_one P hf hs
      by_rank Greater = hs

  module _ (k t : ℤ) (one : pos 1 ≤ℤ k) where
    -- a fraction that is within this bound is within both
    abbrev IsBoth : Bound → Type 0
    IsBoth b = IsIn b k t ↔ (IsIn f k t × IsIn s k t)

    first : (IsIn f k t → IsIn s k t) → IsBoth f
    first step = ((λ h. (h, step h)), (λ both. both.0))

    second : (IsIn s k t → IsIn f k t) → IsBoth s
    second step = ((λ h. (step h, h)), (λ both. both.1))

    narrower_both : (f.is_strict ≡ true → IsIn f k t → IsIn s k t) → (f.is_strict ≡ false → IsIn s k t → IsIn f k t) → IsBoth (narrower f s)
    narrower_both forth back = by_test f.is_strict refl
      where
        by_test : (b : Bool) → f.is_strict ≡ b → IsBoth (cond b f s)
        by_test true e = first (forth e)
        by_test false e = second (back e)

    later_both : pos 0 <ℤ f.slope → pos 0 <ℤ s.slope → IsBoth (later f s)
    later_both hf hs = by_rank (bound_order f s) is_ranked
      where
        by_rank : (o : Ordering) → IsRankedAs o → IsBoth (by_order o s (narrower f s) f)
        by_rank Less g = second (later_passes (side s) (side f) k t one hs hf g)
        by_rank Equal g =
            narrower_both (open_passes (side f) (side s) k t one hf hs g) (closed_passes (side f) (side s) k t one hf hs g)
        by_rank Greater g = first (later_passes (side f) (side s) k t one hf hs g)

    earlier_both : f.slope <ℤ pos 0 → s.slope <ℤ pos 0 → IsBoth (earlier f s)
    earlier_both hf hs = by_rank (bound_order f s) is_ranked
      where
        by_rank : (o : Ordering) → IsRankedAs o → IsBoth (by_order o f (narrower f s) s)
        by_rank Less g = first (earlier_passes (side f) (side s) k t one hf hs g)
        by_rank Equal g =
            narrower_both (open_leaves (side f) (side s) k t one hf hs g) (closed_leaves (side f) (side s) k t one hf hs g)
        by_rank Greater g = second (earlier_passes (side s) (side f) k t one hs hf g)

-- ---- a lower bound and an upper
module _ (low high : Bound) (rises : pos 0 <ℤ low.slope) (falls : high.slope <ℤ pos 0) where
  abbrev HoldSome : Type 0
  HoldSome = (k : ℤ) × (t : ℤ) × (pos 1 ≤ℤ k) × (IsIn low k t × IsIn high k t)

  some_is : Decides (leaves_some low high) HoldSome
  some_is = by_rank (bound_order low high) (is_ranked low high)
    where
      touching : low.slope *ℤ high.offset ≡ high.slope *ℤ low.offset → (b c : Bool) → low.is_strict ≡ b → high.is_strict ≡ c
          → Decides (not b && not c) HoldSome
      touching tied false false e f = ((λ t. holds_touching (side low) (side high) rises falls tied e f), (λ h. refl))
      touching tied true c e f =
          ((λ t. absurd (false≢true t)), (λ h. absurd (touching_none (side low) (side high) rises falls tied (inl e) h)))
      touching tied false true e f =
          ((λ t. absurd (false≢true t)), (λ h. absurd (touching_none (side low) (side high) rises falls tied (inr f) h)))

      by_rank : (o : Ordering) → IsRankedAs low high o → Decides (by_order o false (not low.is_strict && not high.is_strict) true) HoldSome
      by_rank Less g = ((λ t. absurd (false≢true t)), (λ h. absurd (holds_none (side low) (side high) rises falls g h)))
      by_rank Equal g = touching g low.is_strict high.is_strict refl refl
      by_rank Greater g = ((λ t. holds_between (side low) (side high) rises falls g), (λ h. refl))

-- ---- a bound without a slope
level_is : (s : Bound) (k t : ℤ) → pos 0 ≡ s.slope → pos 1 ≤ℤ k → Decides (leaves_all s) (IsIn s k t)
level_is s k t level one = by_strict s.is_strict
  where
    height : s.slope *ℤ t +ℤ s.offset *ℤ k ≡ k *ℤ s.offset
    height = subst (λ z. z *ℤ t +ℤ s.offset *ℤ k ≡ k *ℤ s.offset) level
        (identity (t ∷ s.offset ∷ k ∷ []) (lit (pos 0) ⊗ # 0 ⊕ # 1 ⊗ # 2) (# 2 ⊗ # 1) refl)

    by_strict : (b : Bool) → Decides (cond b (int_lt (pos 0) s.offset) (int_le (pos 0) s.offset))
        (MatchBool b (pos 0 <ℤ (s.slope *ℤ t +ℤ s.offset *ℤ k)) (pos 0 ≤ℤ (s.slope *ℤ t +ℤ s.offset *ℤ k)))
    by_strict true = (
      (λ e. subst (λ z. pos 0 <ℤ z) (sym height) (positive_product k s.offset (omega (arith, linear)) (lt_true (pos 0) s.offset e))),
      (λ h. true_lt (pos 0) s.offset (cancel_positive k s.offset (omega (arith, linear)) (subst (λ z. pos 0 <ℤ z) height h))),
    )
    by_strict false = (
      (λ e. subst (λ z. pos 0 ≤ℤ z) (sym height) (nonnegative_product k s.offset (omega (arith, linear)) (le_true (pos 0) s.offset e))),
      (λ h. true_le (pos 0) s.offset (cancel_nonnegative k s.offset (omega (arith, linear)) (subst (λ z. pos 0 ≤ℤ z) height h))),
    )

-- ---- all bounds
abbrev AreAllIn : List Bound → ℤ → ℤ → Type 0
AreAllIn [] k t = Unit {0}
AreAllIn (s ∷ ss) k t = IsIn s k t × AreAllIn ss k t

pub record AreMet (low high : Bound) (ss : List Bound) : Type 0 where
  pub k : ℤ
  pub t : ℤ
  pub scale : pos 1 ≤ℤ k
  pub above : IsIn low k t
  pub below : IsIn high k t
  pub others : AreAllIn ss k t

met_is : (low high : Bound) (ss : List Bound) → pos 0 <ℤ low.slope → high.slope <ℤ pos 0
    → Decides (leaves_some_in low high ss) (AreMet low high ss)
unfolding leaves_some_in
met_is low high [] rises falls = Decides-like (leaves_some low high)
    (λ h. record { k = h.0; t = h.1; scale = h.2; above = h.3.0; below = h.3.1; others = tt })
    (λ m. (m.k, m.t, m.scale, (m.above, m.below))) (some_is low high rises falls)
met_is low high (s ∷ ss) rises falls =
    by_sign (int_cmp (pos 0) s.slope) (int_ranked (pos 0) s.slope (int_cmp (pos 0) s.slope) refl)
    (λ up. met_is (later low s) high ss (later_one low s (λ b. pos 0 <ℤ b.slope) rises up) falls)
    (met_is low high ss rises falls)
    (λ down. met_is low (earlier high s) ss rises (earlier_one high s (λ b. b.slope <ℤ pos 0) falls down))
  where
    by_sign : (o : Ordering) → MatchOrdering o (pos 0 <ℤ s.slope) (pos 0 ≡ s.slope) (s.slope <ℤ pos 0)
        → (pos 0 <ℤ s.slope → Decides (leaves_some_in (later low s) high ss) (AreMet (later low s) high ss))
        → Decides (leaves_some_in low high ss) (AreMet low high ss)
        → (s.slope <ℤ pos 0 → Decides (leaves_some_in low (earlier high s) ss) (AreMet low (earlier high s) ss))
        → Decides (by_order o (leaves_some_in (later low s) high ss) (leaves_all s && leaves_some_in low high ss)
        (leaves_some_in low (earlier high s) ss)) (AreMet low high (s ∷ ss))
    by_sign Less up rise stay fall = Decides-like (leaves_some_in (later low s) high ss)
        (λ m.
        let both = (later_both low s m.k m.t m.scale rises up).0 m.above in
        record { k = m.k; t = m.t; scale = m.scale; above = both.0; below = m.below; others = (both.1, m.others) })
        (λ m. record {
          k = m.k;
          t = m.t;
          scale = m.scale;
          above = (later_both low s m.k m.t m.scale rises up).1 (m.above, m.others.0);
          below = m.below;
          others = m.others.1;
        }) (rise up)
    by_sign Equal level rise stay fall = by_test (leaves_all s) (λ k t one. level_is s k t level one)
      where
        by_test : (b : Bool) → ((k t : ℤ) → pos 1 ≤ℤ k → Decides b (IsIn s k t))
            → Decides (b && leaves_some_in low high ss) (AreMet low high (s ∷ ss))
        by_test true known = Decides-like (leaves_some_in low high ss)
            (λ m. record {
              k = m.k;
              t = m.t;
              scale = m.scale;
              above = m.above;
              below = m.below;
              others = ((known m.k m.t m.scale).0 refl, m.others);
            })
            (λ m. record { k = m.k; t = m.t; scale = m.scale; above = m.above; below = m.below; others = m.others.1 }) stay
        by_test false known = ((λ e. absurd (false≢true e)), (λ m. (known m.k m.t m.scale).1 m.others.0))
    by_sign Greater down rise stay fall = Decides-like (leaves_some_in low (earlier high s) ss)
        (λ m.
        let both = (earlier_both high s m.k m.t m.scale falls down).0 m.below in
        record { k = m.k; t = m.t; scale = m.scale; above = m.above; below = both.0; others = (both.1, m.others) })
        (λ m. record {
          k = m.k;
          t = m.t;
          scale = m.scale;
          above = m.above;
          below = (earlier_both high s m.k m.t m.scale falls down).1 (m.below, m.others.0);
          others = m.others.1;
        }) (fall down)

-- ---- a segment and a pixel
start_is : (k t : ℤ) → IsIn unit_start k t ↔ (pos 0 ≤ℤ t)
start_is k t =
    let e = identity (k ∷ t ∷ []) (lit (pos 1) ⊗ # 1 ⊕ lit (pos 0) ⊗ # 0) (# 1) refl in
    ((λ h. subst (λ z. pos 0 ≤ℤ z) e h), (λ h. subst (λ z. pos 0 ≤ℤ z) (sym e) h))

finish_is : (k t : ℤ) → IsIn unit_finish k t ↔ (t ≤ℤ k)
finish_is k t =
    let e = identity (k ∷ t ∷ []) (lit (negsuc 0) ⊗ # 1 ⊕ lit (pos 1) ⊗ # 0) (# 0 ⊖ # 1) refl in
    ((λ h. omega (arith, linear, e, h)), (λ h. omega (arith, linear, e, h)))

lower_in : (a b c k t : ℤ) → IsIn (lower a b c) k t ↔ ((pos 2 *ℤ c *ℤ k) ≤ℤ (pos 2 *ℤ along k t a b +ℤ k))
lower_in a b c k t = lower_is a b c (pos 2 *ℤ (b -ℤ a)) (pos 2 *ℤ (a -ℤ c) +ℤ pos 1) k t refl refl

upper_in : (a b c k t : ℤ) → IsIn (upper a b c) k t ↔ ((pos 2 *ℤ along k t a b) <ℤ (pos 2 *ℤ c *ℤ k +ℤ k))
upper_in a b c k t = upper_is a b c (pos 2 *ℤ (a -ℤ b)) (pos 2 *ℤ (c -ℤ a) +ℤ pos 1) k t refl refl

pub meets_is : (a b c : Point) → Decides (meets_of a b c) (Meets a b c)
unfolding meets_of
meets_is a b c =
    Decides-like (leaves_some_in unit_start unit_finish bounds) forth back
    (met_is unit_start unit_finish bounds (omega (arith, linear)) (omega (arith, linear)))
  where
    bounds : List Bound
    bounds = lower a.x b.x c.x ∷ upper a.x b.x c.x ∷ lower a.y b.y c.y ∷ upper a.y b.y c.y ∷ []

    forth : AreMet unit_start unit_finish bounds → Meets a b c
    forth m = (
      m.k,
      m.t,
      record { scale = m.scale; low = (start_is m.k m.t).0 m.above; high = (finish_is m.k m.t).0 m.below },
      record {
        column = ((lower_in a.x b.x c.x m.k m.t).0 m.others.0, (upper_in a.x b.x c.x m.k m.t).0 m.others.1.0);
        row = ((lower_in a.y b.y c.y m.k m.t).0 m.others.1.1.0, (upper_in a.y b.y c.y m.k m.t).0 m.others.1.1.1.0);
      },
    )

    back : Meets a b c → AreMet unit_start unit_finish bounds
    back (k, t, f, p) = record {
      k = k;
      t = t;
      scale = f.scale;
      above = (start_is k t).1 f.low;
      below = (finish_is k t).1 f.high;
      others = (
        (lower_in a.x b.x c.x k t).1 p.column.0,
        (
          (upper_in a.x b.x c.x k t).1 p.column.1,
          ((lower_in a.y b.y c.y k t).1 p.row.0, ((upper_in a.y b.y c.y k t).1 p.row.1, tt)),
        ),
      );
    }

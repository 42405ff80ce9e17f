-- Slabs: a centre that is off a segment in all columns of its slab isn't met.
use Rattle.std.proofs.Common.{◌≡◌, ◌⊎◌, ⊎_elim, ℕ, ◌+◌, ◌<◌, ◌≤◌, inl, inr, List, [], ◌∷◌, ◌++◌}
use Rattle.std.proofs.Common.{length, get_or, take, ℤ, pos, ◌+ℤ◌, ◌-ℤ◌, ◌*ℤ◌, ◌≤ℤ◌, ◌<ℤ◌}
use Rattle.std.proofs.Common.{refl, sym, ap, ◌∙◌, subst, arith, Bool, true, false, Contains, Decides}
use Rattle.std.specs.Prelude.{not}
use Rattle.std.specs.List.Sorted.{IsPartitionedBy, IsPartitionPoint}
use Rattle.std.proofs.lemmas.Bool.{cases_lt, false≢true}
use Rattle.std.proofs.lemmas.Bool.Decides.{Decides-and, Decides-not}
use Rattle.std.proofs.lemmas.List.{take_more}
use Rattle.std.proofs.lemmas.List.Elements.{Contains-push_cases}
use Rattle.lay_point.proofs.Polynomials.{#, lit, ◌⊕◌, ◌⊖◌, ◌⊗◌, identity}
use Rattle.lay_point.proofs.Signs.{linear, below_or_not, cancel_le, nonnegative_product}
use Rattle.lay_point.specs.declared.point.Point.{Point}
use Rattle.snap_pixels.specs.Order.{ArePointsRising}
use Rattle.snap_pixels.specs.Pixels.{IsRoundedTo}
use Rattle.snap_pixels.specs.Segments.{Meets, along, cross}
use Rattle.snap_slabs.specs.Clips.{IsSlack, is_off}
use Rattle.snap_slabs.specs.Columns.{HoldMet}
use Rattle.snap_slabs.proofs.ColumnLemmas.{Decides-int_lt, IsAtMost, centres_rise}

-- ---- areas
-- the product of a number and one of half the size of k at most
halved : (e w p k : ℤ) → e ≤ℤ w → (pos 0 -ℤ w) ≤ℤ e → (pos 0 -ℤ k) ≤ℤ (pos 2 *ℤ p) → (pos 2 *ℤ p) ≤ℤ k
    → ((pos 2 *ℤ (e *ℤ p)) ≤ℤ (w *ℤ k)) × ((pos 0 -ℤ w *ℤ k) ≤ℤ (pos 2 *ℤ (e *ℤ p)))
halved e w p k h g low high =
    let i = identity (e ∷ w ∷ p ∷ k ∷ [])
    ((# 1 ⊖ # 0) ⊗ (# 3 ⊕ lit (pos 2) ⊗ # 2) ⊕ (# 1 ⊕ # 0) ⊗ (# 3 ⊖ lit (pos 2) ⊗ # 2))
    (lit (pos 2) ⊗ (# 1 ⊗ # 3) ⊖ lit (pos 2) ⊗ (lit (pos 2) ⊗ (# 0 ⊗ # 2))) refl in
    let j = identity (e ∷ w ∷ p ∷ k ∷ [])
    ((# 1 ⊕ # 0) ⊗ (# 3 ⊕ lit (pos 2) ⊗ # 2) ⊕ (# 1 ⊖ # 0) ⊗ (# 3 ⊖ lit (pos 2) ⊗ # 2))
    (lit (pos 2) ⊗ (# 1 ⊗ # 3) ⊕ lit (pos 2) ⊗ (lit (pos 2) ⊗ (# 0 ⊗ # 2))) refl in
    let a = nonnegative_product (w -ℤ e) (k +ℤ pos 2 *ℤ p) (omega (arith, linear)) (omega (arith, linear)) in
    let b = nonnegative_product (w +ℤ e) (k -ℤ pos 2 *ℤ p) (omega (arith, linear)) (omega (arith, linear)) in
    let c = nonnegative_product (w +ℤ e) (k +ℤ pos 2 *ℤ p) (omega (arith, linear)) (omega (arith, linear)) in
    let d = nonnegative_product (w -ℤ e) (k -ℤ pos 2 *ℤ p) (omega (arith, linear)) (omega (arith, linear)) in
    (omega (arith, linear), omega (arith, linear))

-- a difference of two such products
difference_halved : (e d s p q k : ℤ) → (e +ℤ d) ≤ℤ s → (e -ℤ d) ≤ℤ s → (d -ℤ e) ≤ℤ s → (pos 0 -ℤ e -ℤ d) ≤ℤ s
    → (pos 0 -ℤ k) ≤ℤ (pos 2 *ℤ p) → (pos 2 *ℤ p) ≤ℤ k → (pos 0 -ℤ k) ≤ℤ (pos 2 *ℤ q) → (pos 2 *ℤ q) ≤ℤ k
    → (pos 2 *ℤ (e *ℤ p -ℤ d *ℤ q)) ≤ℤ (s *ℤ k)
difference_halved e d s p q k uu ud du dd p_low p_high q_low q_high = ⊎_elim
    (λ (less : d <ℤ pos 0).
    let first = halved e (s +ℤ d) p k (omega (arith, linear)) (omega (arith, linear)) p_low p_high in
    let second = halved d (pos 0 -ℤ d) q k (omega (arith, linear)) (omega (arith, linear)) q_low q_high in
    let i = identity (s ∷ d ∷ k ∷ []) ((# 0 ⊕ # 1) ⊗ # 2 ⊕ (lit (pos 0) ⊖ # 1) ⊗ # 2) (# 0 ⊗ # 2) refl in
    omega (arith, linear, first.0, second.1))
    (λ (more : pos 0 ≤ℤ d).
    let first = halved e (s -ℤ d) p k (omega (arith, linear)) (omega (arith, linear)) p_low p_high in
    let second = halved d d q k (omega (arith, linear)) (omega (arith, linear)) q_low q_high in
    let i = identity (s ∷ d ∷ k ∷ []) ((# 0 ⊖ # 1) ⊗ # 2 ⊕ # 1 ⊗ # 2) (# 0 ⊗ # 2) refl in
    omega (arith, linear, first.0, second.1))
    (below_or_not d (pos 0))

-- how far a place that is rounded to c is from c
offset : (c k a : ℤ) → IsRoundedTo c k a
    → ((pos 0 -ℤ k) ≤ℤ (pos 2 *ℤ (k *ℤ c -ℤ a))) × ((pos 2 *ℤ (k *ℤ c -ℤ a)) ≤ℤ k)
offset c k a r =
    let i = identity (c ∷ k ∷ []) (lit (pos 2) ⊗ # 0 ⊗ # 1) (lit (pos 2) ⊗ (# 1 ⊗ # 0)) refl in
    (omega (arith, linear, r.1), omega (arith, linear, r.0))

-- the area that a segment spans with a centre that it meets
pub met_area : (a b c : Point) (s : ℤ) → IsSlack a b s → Meets a b c → cross a b a c ≤ℤ s
met_area a b c s h (k, t, f, place) =
    let x = along k t a.x b.x in
    let y = along k t a.y b.y in
    let e = b.x -ℤ a.x in
    let d = b.y -ℤ a.y in
    let on_x = offset c.x k x place.column in
    let on_y = offset c.y k y place.row in
    let twice = difference_halved e d s (k *ℤ c.y -ℤ y) (k *ℤ c.x -ℤ x) k (omega (arith, linear, h.up_up))
    (omega (arith, linear, h.up_down)) (omega (arith, linear, h.down_up)) (omega (arith, linear, h.down_down))
    on_y.0 on_y.1 on_x.0 on_x.1 in
    let i = identity (k ∷ t ∷ a.x ∷ a.y ∷ b.x ∷ b.y ∷ c.x ∷ c.y ∷ [])
    (lit (pos 2) ⊗ ((# 4 ⊖ # 2) ⊗ (# 0 ⊗ # 7 ⊖ (# 3 ⊗ (# 0 ⊖ # 1) ⊕ # 5 ⊗ # 1))
    ⊖ (# 5 ⊖ # 3) ⊗ (# 0 ⊗ # 6 ⊖ (# 2 ⊗ (# 0 ⊖ # 1) ⊕ # 4 ⊗ # 1))))
    (# 0 ⊗ (lit (pos 2) ⊗ ((# 4 ⊖ # 2) ⊗ (# 7 ⊖ # 3) ⊖ (# 5 ⊖ # 3) ⊗ (# 6 ⊖ # 2)))) refl in
    let j = identity (s ∷ k ∷ []) (# 0 ⊗ # 1) (# 1 ⊗ # 0) refl in
    let small = cancel_le k (pos 2 *ℤ cross a b a c) s (omega (arith, linear, f.scale)) (omega (arith, linear)) in
    omega (arith, linear, h.up_up, h.down_down)

-- between two columns the area is between those in the two
area_between : (a b : Point) (x low y high s : ℤ) → low ≤ℤ y → y ≤ℤ high
    → s <ℤ cross a b a (record { x = x; y = low }) → s <ℤ cross a b a (record { x = x; y = high })
    → s <ℤ cross a b a (record { x = x; y = y })
area_between a b x low y high s l h first second = ⊎_elim
    (λ (falls : (b.x -ℤ a.x) <ℤ pos 0).
    let p = nonnegative_product (a.x -ℤ b.x) (high -ℤ y) (omega (arith, linear)) (omega (arith, linear)) in
    let i = identity (a.x ∷ a.y ∷ b.x ∷ b.y ∷ x ∷ y ∷ high ∷ [])
    ((# 2 ⊖ # 0) ⊗ (# 5 ⊖ # 1) ⊖ (# 3 ⊖ # 1) ⊗ (# 4 ⊖ # 0))
    ((# 2 ⊖ # 0) ⊗ (# 6 ⊖ # 1) ⊖ (# 3 ⊖ # 1) ⊗ (# 4 ⊖ # 0) ⊕ (# 0 ⊖ # 2) ⊗ (# 6 ⊖ # 5)) refl in
    omega (arith, linear))
    (λ (rises : pos 0 ≤ℤ (b.x -ℤ a.x)).
    let p = nonnegative_product (b.x -ℤ a.x) (y -ℤ low) (omega (arith, linear)) (omega (arith, linear)) in
    let i = identity (a.x ∷ a.y ∷ b.x ∷ b.y ∷ x ∷ y ∷ low ∷ [])
    ((# 2 ⊖ # 0) ⊗ (# 5 ⊖ # 1) ⊖ (# 3 ⊖ # 1) ⊗ (# 4 ⊖ # 0))
    ((# 2 ⊖ # 0) ⊗ (# 6 ⊖ # 1) ⊖ (# 3 ⊖ # 1) ⊗ (# 4 ⊖ # 0) ⊕ (# 2 ⊖ # 0) ⊗ (# 5 ⊖ # 6)) refl in
    omega (arith, linear))
    (below_or_not (b.x -ℤ a.x) (pos 0))

-- a segment back
pub meets_back : (a b c : Point) → Meets a b c → Meets b a c
meets_back a b c (k, t, f, place) = (
  k,
  k -ℤ t,
  record { scale = f.scale; low = omega (arith, linear, f.high); high = omega (arith, linear, f.low) },
  record {
    column = subst (IsRoundedTo c.x k) (same a.x b.x) place.column;
    row = subst (IsRoundedTo c.y k) (same a.y b.y) place.row;
  },
) where
  same : (p q : ℤ) → along k t p q ≡ along k (k -ℤ t) q p
  same p q = identity (k ∷ t ∷ p ∷ q ∷ []) (# 2 ⊗ (# 0 ⊖ # 1) ⊕ # 3 ⊗ # 1) (# 3 ⊗ (# 0 ⊖ (# 0 ⊖ # 1)) ⊕ # 2 ⊗ (# 0 ⊖ # 1)) refl

slack_back : (a b : Point) (s : ℤ) → IsSlack a b s → IsSlack b a s
slack_back a b s h = record { up_up = h.down_down; up_down = h.down_up; down_up = h.up_down; down_down = h.up_up }

-- ---- tests
-- on the row of the centre, the area in both columns is greater than the slack
abbrev IsOff : Point → Point → ℤ → ℤ → ℤ → Point → Type 0
IsOff a b s low high c =
    (s <ℤ cross a b a (record { x = c.x; y = low })) × (s <ℤ cross a b a (record { x = c.x; y = high }))

Decides-is_off : (a b : Point) (s low high : ℤ) (c : Point) → Decides (is_off a b s low high c) (IsOff a b s low high c)
Decides-is_off a b s low high c = Decides-and _ _ (Decides-int_lt s _) (Decides-int_lt s _)

pub off_unmet : (a b c : Point) (s low high : ℤ) → IsSlack a b s → low ≤ℤ c.y → c.y ≤ℤ high → IsOff a b s low high c → Meets a b c → ⊥
off_unmet a b c s low high h l g off met =
    let more : s <ℤ cross a b a c = area_between a b c.x low c.y high s l g off.0 off.1 in
    let less = met_area a b c s h met in omega (arith, linear)

-- the area falls from row to row
falls : (a b : Point) (x z y : ℤ) → a.y ≤ℤ b.y → x ≤ℤ z → cross a b a (record { x = z; y = y }) ≤ℤ cross a b a (record { x = x; y = y })
falls a b x z y h g =
    let p = nonnegative_product (b.y -ℤ a.y) (z -ℤ x) (omega (arith, linear)) (omega (arith, linear)) in
    let i = identity (a.x ∷ a.y ∷ b.x ∷ b.y ∷ x ∷ y ∷ z ∷ [])
    ((# 2 ⊖ # 0) ⊗ (# 5 ⊖ # 1) ⊖ (# 3 ⊖ # 1) ⊗ (# 4 ⊖ # 0))
    ((# 2 ⊖ # 0) ⊗ (# 5 ⊖ # 1) ⊖ (# 3 ⊖ # 1) ⊗ (# 6 ⊖ # 0) ⊕ (# 3 ⊖ # 1) ⊗ (# 6 ⊖ # 4)) refl in
    omega (arith, linear)

rises : (a b : Point) (x z y : ℤ) → b.y ≤ℤ a.y → x ≤ℤ z → cross a b a (record { x = x; y = y }) ≤ℤ cross a b a (record { x = z; y = y })
rises a b x z y h g =
    let p = nonnegative_product (a.y -ℤ b.y) (z -ℤ x) (omega (arith, linear)) (omega (arith, linear)) in
    let i = identity (a.x ∷ a.y ∷ b.x ∷ b.y ∷ x ∷ y ∷ z ∷ [])
    ((# 2 ⊖ # 0) ⊗ (# 5 ⊖ # 1) ⊖ (# 3 ⊖ # 1) ⊗ (# 6 ⊖ # 0))
    ((# 2 ⊖ # 0) ⊗ (# 5 ⊖ # 1) ⊖ (# 3 ⊖ # 1) ⊗ (# 4 ⊖ # 0) ⊕ (# 1 ⊖ # 3) ⊗ (# 6 ⊖ # 4)) refl in
    omega (arith, linear)

row_at_most : (p q : Point) → IsAtMost p q → p.x ≤ℤ q.x
row_at_most p q (inl e) = let f : p.x ≡ q.x = ap (λ v. v.x) e in omega (arith, linear)
row_at_most p q (inr (inl h)) = omega (arith, linear)
row_at_most p q (inr (inr h)) = omega (arith, linear, h.0)

pub off_first : (a b : Point) (s low high : ℤ) (cs : List Point) → a.y ≤ℤ b.y → ArePointsRising cs
    → IsPartitionedBy (λ c. is_off a b s low high c) cs
off_first a b s low high cs h up i j d le lt t =
    let p = get_or cs i d in
    let q = get_or cs j d in
    let off = (Decides-is_off a b s low high q).0 t in
    let row = row_at_most p q (centres_rise cs up i j d le lt) in
    let first = falls a b p.x q.x low h row in
    let second = falls a b p.x q.x high h row in
    (Decides-is_off a b s low high p).1 (omega (arith, linear, off.0), omega (arith, linear, off.1))

Decides-near : (a b : Point) (s low high : ℤ) (c : Point) → Decides (not (is_off a b s low high c)) (¬ IsOff a b s low high c)
Decides-near a b s low high c = Decides-not _ (Decides-is_off a b s low high c)

pub off_last : (a b : Point) (s low high : ℤ) (cs : List Point) → b.y ≤ℤ a.y → ArePointsRising cs
    → IsPartitionedBy (λ c. not (is_off a b s low high c)) cs
off_last a b s low high cs h up i j d le lt t =
    let p = get_or cs i d in
    let q = get_or cs j d in
    let near = (Decides-near a b s low high q).0 t in
    let row = row_at_most p q (centres_rise cs up i j d le lt) in
    let first = rises a b p.x q.x low h row in
    let second = rises a b p.x q.x high h row in
    (Decides-near a b s low high p).1 (λ off. near (omega (arith, linear, off.0), omega (arith, linear, off.1)))

-- the centres before the index `from` are off on the one side, and those from `to` on on the other
pub record AreReached (cs : List Point) (a b : Point) (s low high : ℤ) (from to : ℕ) : Type 0 where
  pub early : IsPartitionPoint (λ c. is_off a b s low high c ≡ true) (λ c. is_off a b s low high c ≡ false) cs from
  pub late : IsPartitionPoint (λ c. not (is_off b a s low high c) ≡ true) (λ c. not (is_off b a s low high c) ≡ false) cs to

pub reached_met : (cs : List Point) (a b : Point) (s low high : ℤ) (from to : ℕ) → IsSlack a b s
    → ((c : Point) → Contains cs c → (low ≤ℤ c.y) × (c.y ≤ℤ high)) → AreReached cs a b s low high from to → HoldMet cs a b (from, to)
reached_met cs a b s low high from to slack columns r k c lt at met =
    let column = columns c (k, lt, at) in (
      ⊎_elim
          (λ (early : k < from).
          let off = (Decides-is_off a b s low high c).0
          (subst (λ (v : Point). is_off a b s low high v ≡ true) at (r.early.0 k c (omega arith) early)) in
          absurd (off_unmet a b c s low high slack column.0 column.1 off met))
          (λ (right : from ≤ k). right)
          (cases_lt k from),
      ⊎_elim
          (λ (right : k < to). right)
          (λ (late : to ≤ k).
          let off = is_late (is_off b a s low high c) (Decides-is_off b a s low high c)
          (subst (λ (v : Point). not (is_off b a s low high v) ≡ false) at (r.late.1 k c late lt)) in
          absurd (off_unmet b a c s low high (slack_back a b s slack) column.0 column.1 off (meets_back a b c met)))
          (cases_lt k to),
    )
  where
    is_late : (r : Bool) → Decides r (IsOff b a s low high c) → not r ≡ false → IsOff b a s low high c
    is_late true d e = d.0 (λ i. true)
    is_late false d e = absurd (false≢true (sym e))

-- of the segment itself, or of the one back
pub same_met : (cs : List Point) (a b p q : Point) (places : ℕ × ℕ) → ((c : Point) → Meets a b c → Meets p q c) → HoldMet cs p q places
    → HoldMet cs a b places
same_met cs a b p q places same held k c lt at met = held k c lt at (same c met)

-- what is from both of two places on and before both of two others
pub both_met : (cs : List Point) (a b : Point) (one other : ℕ × ℕ) (from to : ℕ) → HoldMet cs a b one → HoldMet cs a b other
    → (from ≤ one.0) ⊎ (from ≤ other.0) → (one.1 ≤ to) ⊎ (other.1 ≤ to) → HoldMet cs a b (from, to)
both_met cs a b (f, t) (f', t') from to h g low high k c lt at met =
    let one = h k c lt at met in
    let other = g k c lt at met in
    (low_of low one.0 other.0, high_of high one.1 other.1)
  where
    low_of : (from ≤ f) ⊎ (from ≤ f') → f ≤ k → f' ≤ k → from ≤ k
    low_of (inl e) p q = omega arith
    low_of (inr e) p q = omega arith

    high_of : (t ≤ to) ⊎ (t' ≤ to) → k < t → k < t' → k < to
    high_of (inl e) p q = omega arith
    high_of (inr e) p q = omega arith

-- ---- columns
-- one more centre between two columns
pub between_more : (cs : List Point) (i : ℕ) (x : Point) (low high low' high' : ℤ) → i < length cs → get_or cs i x ≡ x
    → ((c : Point) → Contains (take i cs) c → (low ≤ℤ c.y) × (c.y ≤ℤ high))
    → low' ≤ℤ low → low' ≤ℤ x.y → high ≤ℤ high' → x.y ≤ℤ high'
    → (c : Point) → Contains (take (i + 1) cs) c → (low' ≤ℤ c.y) × (c.y ≤ℤ high')
between_more cs i x low high low' high' lt at so_far low_old low_new high_old high_new c m = ⊎_elim
    (λ was. let h = so_far c was in (omega (arith, linear, h.0), omega (arith, linear, h.1)))
    (λ (same : x ≡ c). subst (λ (p : Point). (low' ≤ℤ p.y) × (p.y ≤ℤ high')) same (low_new, high_new))
    (Contains-push_cases (take i cs) x c (subst (λ l. Contains l c) more m))
  where
    more : take (i + 1) cs ≡ take i cs ++ x ∷ []
    more = take_more cs i x lt ∙ ap (λ u. take i cs ++ u ∷ []) at

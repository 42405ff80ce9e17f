-- Centres in order: no centre before the low corner of a segment's box is met, and none behind its high corner.
use Rattle.std.proofs.Common.{◌≡◌, ◌↔◌, ⊎_elim, ℕ, zero, suc, ◌+◌, ◌-◌, ◌<◌, ◌≤◌, ◌⊎◌, inl, inr, List, length, get_or, drop}
use Rattle.std.proofs.Common.{refl, ℤ, ◌≤ℤ◌, ◌<ℤ◌, sym, ap, ◌∙◌, subst, arith, Bool, true, false, Contains, Decides}
use Rattle.std.specs.Prelude.{int_lt, not, slice_range}
use Rattle.std.specs.List.Sorted.{IsPartitionedBy, IsPartitionPoint}
use Rattle.std.proofs.lemmas.Bool.{cases_lt, false≢true}
use Rattle.std.proofs.lemmas.Bool.Decides.{Decides-and, Decides-int_eq, Decides-not, Decides-or}
use Rattle.std.proofs.lemmas.Int.{clamps, ints}
use Rattle.std.proofs.lemmas.List.{get_or-drop, get_or-take, get_or_default, length-drop, length-take}
use Rattle.lay_point.specs.declared.point.Point.{Point}
use Rattle.lay_point.specs.declared.rect.Rect.{Rect}
use Rattle.lay_point.specs.Rects.{grown}
use Rattle.snap_pixels.specs.Order.{ArePointsRising, transposed}
use Rattle.lay_point.specs.Points.{IsBefore}
use Rattle.snap_pixels.specs.Segments.{Meets}
use Rattle.snap_pixels.proofs.OrderLemmas.{ArePointsRising-next}
use Rattle.snap_pixels.proofs.BoxLemmas.{Meets-apart}
use Rattle.lay_point.proofs.Signs.{linear}
use Rattle.lay_point.proofs.EdgeOrder.{before_is_strict}
use Rattle.snap_slabs.specs.Columns.{HoldMet, is_lesser_point}

pub Decides-int_lt : (a b : ℤ) → Decides (int_lt a b) (a <ℤ b)
Decides-int_lt a b = ((λ t. grind (arith, ints)), (λ h. grind (arith, ints)))

pub Decides-is_lesser_point : (p q : Point) → Decides (is_lesser_point p q) (IsBefore p q)
Decides-is_lesser_point p q =
    Decides-or _ _ (Decides-int_lt p.x q.x) (Decides-and _ _ (Decides-int_eq p.x q.x) (Decides-int_lt p.y q.y))

-- before, or the same
abbrev pub IsAtMost : Point → Point → Type 0
IsAtMost p q = (p ≡ q) ⊎ IsBefore p q

pub centres_rise : (cs : List Point) → ArePointsRising cs → (i j : ℕ) (d : Point) → i ≤ j → j < length cs
    → IsAtMost (get_or cs i d) (get_or cs j d)
centres_rise cs h i zero d le lt =
    let e : i ≡ zero = omega arith in
    inl (ap (λ k. get_or cs k d) e)
centres_rise cs h i (suc j) d le lt = ⊎_elim
    (λ (less : i < suc j).
    let next : j + 1 ≡ suc j = omega arith in
    let step = subst (λ k. IsBefore (get_or cs j d) (get_or cs k d)) next (ArePointsRising-next cs h j d (omega arith)) in
    inr (⊎_elim
    (λ same. subst (λ p. IsBefore p (get_or cs (suc j) d)) (sym same) step)
    (λ before. before_is_strict.transitive (get_or cs i d) (get_or cs j d) (get_or cs (suc j) d) before step)
    (centres_rise cs h i j d (omega arith) (omega arith))))
    (λ (ge : suc j ≤ i).
    let e : i ≡ suc j = omega arith in
    inl (ap (λ k. get_or cs k d) e))
    (cases_lt i (suc j))

pub left_part : (low : Point) (cs : List Point) → ArePointsRising cs → IsPartitionedBy (λ c. is_lesser_point c low) cs
left_part low cs up i j d le lt t =
    let less = (Decides-is_lesser_point (get_or cs j d) low).0 t in
    (Decides-is_lesser_point (get_or cs i d) low).1 (⊎_elim
    (λ same. subst (λ p. IsBefore p low) (sym same) less)
    (λ before. before_is_strict.transitive (get_or cs i d) (get_or cs j d) low before less)
    (centres_rise cs up i j d le lt))

Decides-no_later : (high c : Point) → Decides (not (is_lesser_point high c)) (¬ IsBefore high c)
Decides-no_later high c = Decides-not _ (Decides-is_lesser_point high c)

pub right_part : (high : Point) (cs : List Point) → ArePointsRising cs → IsPartitionedBy (λ c. not (is_lesser_point high c)) cs
right_part high cs up i j d le lt t =
    let no_later = (Decides-no_later high (get_or cs j d)).0 t in
    (Decides-no_later high (get_or cs i d)).1 (λ later. no_later (⊎_elim
    (λ same. subst (IsBefore high) same later)
    (λ before. before_is_strict.transitive high (get_or cs i d) (get_or cs j d) later before)
    (centres_rise cs up i j d le lt)))

-- ---- a test that goes on as two neighbours tell
module _ (test : Point → Bool) (cs : List Point) (parted : IsPartitionedBy test cs) (o : Point) where
  passed_before : (n : ℕ) → n ≤ length cs → ((k : ℕ) → suc k ≡ n → test (get_or cs k o) ≡ true)
      → (i : ℕ) (d : Point) → i < n → test (get_or cs i d) ≡ true
  passed_before zero bound before i d less = absurd (omega (arith, less))
  passed_before (suc k) bound before i d less = parted i k d (omega (arith, less)) (omega (arith, bound))
      (ap test (get_or_default cs k d o (omega (arith, bound))) ∙ before k refl)

  still_false : (later here : Bool) → (later ≡ true → here ≡ true) → here ≡ false → later ≡ false
  still_false true here back e = absurd (false≢true (sym e ∙ back refl))
  still_false false here back e = refl

  pub parts_by_neighbours : (n : ℕ) → n ≤ length cs → ((k : ℕ) → suc k ≡ n → test (get_or cs k o) ≡ true)
      → (n < length cs → test (get_or cs n o) ≡ false) → IsPartitionPoint (λ c. test c ≡ true) (λ c. test c ≡ false) cs n
  parts_by_neighbours n bound before behind = (
    (λ i d from less. passed_before n bound before i d less),
    (λ i d le lt.
        let inside : n < length cs = omega (arith, le, lt) in
        still_false (test (get_or cs i d)) (test (get_or cs n d)) (parted n i d le lt)
        (ap test (get_or_default cs n d o inside) ∙ behind inside)),
  )

-- the corners of a box round a and b
pub record AreCorners (low high a b : Point) : Type 0 where
  pub left_of_a : low.x ≤ℤ a.x
  pub left_of_b : low.x ≤ℤ b.x
  pub below_a : low.y ≤ℤ a.y
  pub below_b : low.y ≤ℤ b.y
  pub right_of_a : a.x ≤ℤ high.x
  pub right_of_b : b.x ≤ℤ high.x
  pub above_a : a.y ≤ℤ high.y
  pub above_b : b.y ≤ℤ high.y

pub round_both : (box : Rect) (a b : Point) → box ≡ grown (record { low = a; high = a }) b → AreCorners box.low box.high a b
round_both box a b e = subst (λ (r : Rect). AreCorners r.low r.high a b) (sym e) (record {
  left_of_a = omega (arith, ints, clamps);
  left_of_b = omega (arith, ints, clamps);
  below_a = omega (arith, ints, clamps);
  below_b = omega (arith, ints, clamps);
  right_of_a = omega (arith, ints, clamps);
  right_of_b = omega (arith, ints, clamps);
  above_a = omega (arith, ints, clamps);
  above_b = omega (arith, ints, clamps);
})

-- the centres from the index `from` on aren't before the low corner, and those from `to` on are behind the high one
pub record ArePlaces (cs : List Point) (low high : Point) (from to : ℕ) : Type 0 where
  pub early : IsPartitionPoint (λ c. is_lesser_point c low ≡ true) (λ c. is_lesser_point c low ≡ false) cs from
  pub late : IsPartitionPoint (λ c. not (is_lesser_point high c) ≡ true) (λ c. not (is_lesser_point high c) ≡ false) cs to
  pub inside : from ≤ length cs

module _ (low high a b : Point) (h : AreCorners low high a b) where
  not_both : (c : Point) → IsBefore c low → IsBefore high c → ⊥
  not_both c (inl e) (inl l) = omega (arith, linear, h.left_of_a, h.right_of_a)
  not_both c (inl e) (inr l) = omega (arith, linear, h.left_of_a, h.right_of_a, l.0)
  not_both c (inr e) (inl l) = omega (arith, linear, h.left_of_a, h.right_of_a, e.0)
  not_both c (inr e) (inr l) = omega (arith, linear, h.below_a, h.above_a, e.1, l.1)

  early_apart : (c : Point) → IsBefore c low → Meets a b c → ⊥
  early_apart c (inl e) met = Meets-apart a b c (inl (inr (
    omega (arith, linear, h.left_of_a),
    omega (arith, linear, h.left_of_b),
    omega (arith, linear, h.left_of_a),
    omega (arith, linear, h.left_of_b),
  ))) met
  early_apart c (inr e) met = Meets-apart a b c (inr (inr (
    omega (arith, linear, h.below_a, e.1),
    omega (arith, linear, h.below_b, e.1),
    omega (arith, linear, h.below_a, e.1),
    omega (arith, linear, h.below_b, e.1),
  ))) met

  late_apart : (c : Point) → IsBefore high c → Meets a b c → ⊥
  late_apart c (inl l) met = Meets-apart a b c (inl (inl (
    omega (arith, linear, h.right_of_a),
    omega (arith, linear, h.right_of_a),
    omega (arith, linear, h.right_of_b),
    omega (arith, linear, h.right_of_b),
  ))) met
  late_apart c (inr l) met = Meets-apart a b c (inr (inl (
    omega (arith, linear, h.above_a, l.1),
    omega (arith, linear, h.above_a, l.1),
    omega (arith, linear, h.above_b, l.1),
    omega (arith, linear, h.above_b, l.1),
  ))) met

  module _ (cs : List Point) (from to : ℕ) (p : ArePlaces cs low high from to) where
    is_late : (c : Point) → not (is_lesser_point high c) ≡ false → IsBefore high c
    is_late c t = later (is_lesser_point high c) (Decides-is_lesser_point high c) t
      where
        later : (r : Bool) → Decides r (IsBefore high c) → not r ≡ false → IsBefore high c
        later true d e = d.0 (λ i. true)
        later false d e = absurd (false≢true (sym e))

    pub places_in_order : from ≤ to
    places_in_order = ⊎_elim
        (λ (wrong : to < from). absurd (not_both (get_or cs to a)
        ((Decides-is_lesser_point (get_or cs to a) low).0 (p.early.0 to a (omega arith) wrong))
        (is_late (get_or cs to a) (p.late.1 to a (omega arith) (omega (arith, p.inside))))))
        (λ (right : from ≤ to). right)
        (cases_lt to from)

    pub hold_met : HoldMet cs a b (from, to)
    hold_met k c lt at met = (
      ⊎_elim
          (λ (early : k < from).
          let less = (Decides-is_lesser_point c low).0
          (subst (λ (v : Point). is_lesser_point v low ≡ true) at (p.early.0 k c (omega arith) early)) in
          absurd (early_apart c less met))
          (λ (right : from ≤ k). right)
          (cases_lt k from),
      ⊎_elim
          (λ (right : k < to). right)
          (λ (late : to ≤ k).
          let more = is_late c (subst (λ (v : Point). not (is_lesser_point high v) ≡ false) at (p.late.1 k c late lt)) in
          absurd (late_apart c more met))
          (cases_lt k to),
    )

pub columns_have_all : (cs : List Point) (a b : Point) (places : ℕ × ℕ) → HoldMet cs a b places
    → (c : Point) → Contains cs c → Meets a b c → Contains (slice_range cs places.0 places.1) c
columns_have_all cs a b (from, to) held c (k, lt, at) met =
    let inside = held k c lt at met in
    let not_early : from ≤ k = inside.0 in
    let not_late : k < to = inside.1 in
    let back : from + (k - from) ≡ k = omega arith in (
      k - from,
      omega (arith, lt, not_early, not_late, length-take (to - from) (drop from cs), length-drop from cs),
      get_or-take (to - from) (drop from cs) (k - from) c (omega arith) ∙ get_or-drop from cs (k - from) c ∙ ap (λ j. get_or cs j c) back
          ∙ at,
    )

-- of the centres in the columns of a segment those that are met
pub met_in_columns : (hot columns old new : List Point) (a b : Point) → ((c : Point) → Contains columns c → Contains hot c)
    → ((c : Point) → Contains hot c → Meets a b c → Contains columns c)
    → ((c : Point) → Contains new c ↔ (Contains old c ⊎ (Contains columns c × Meets a b c)))
    → (c : Point) → Contains new c ↔ (Contains old c ⊎ (Contains hot c × Meets a b c))
met_in_columns hot columns old new a b inside all are_met c = (
  (λ m. ⊎_elim (λ (was : Contains old c). inl was) (λ there. inr (inside c there.0, there.1)) ((are_met c).0 m)),
  (λ h. ⊎_elim (λ (was : Contains old c). (are_met c).1 (inl was)) (λ m. (are_met c).1 (inr (all c m.0 m.1, m.1))) h),
)

-- ---- on the other side of the diagonal
pub meets_turned : (a b c : Point) → Meets a b c → Meets (transposed a) (transposed b) (transposed c)
meets_turned a b c (k, t, f, place) = (k, t, f, record { column = place.row; row = place.column })

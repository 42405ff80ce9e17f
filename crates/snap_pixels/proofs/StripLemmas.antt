-- Segments listed in strips: what two segments have in common is in a strip of both.
use Rattle.std.proofs.Common.{
  ◌≡◌,
  ◌≢◌,
  ◌⊎◌,
  inl,
  inr,
  ⊎_elim,
  ◌↔◌,
  ℕ,
  zero,
  suc,
  ◌+◌,
  ◌/◌,
  ◌%◌,
  ◌^◌,
  ◌<◌,
  ◌≤◌,
  min,
  max,
  List,
  [],
  ◌∷◌,
  ◌++◌,
}
use Rattle.std.proofs.Common.{
  Bool,
  true,
  false,
  cond,
  length,
  get_or,
  take,
  Contains,
  ℤ,
  ◌+ℤ◌,
  ◌-ℤ◌,
  ◌*ℤ◌,
  ◌≤ℤ◌,
  ◌<ℤ◌,
  refl,
  sym,
  ap,
  subst,
  arith,
  ◌∙◌,
}
use Rattle.std.specs.Prelude.{int_le, slice_set, nat_abs}
use Rattle.std.proofs.lemmas.Bool.{cases_eq, cases_lt}
use Rattle.std.proofs.lemmas.Int.{ints}
use Rattle.std.proofs.lemmas.List.{get_or-set_same, get_or-set_other, length-set, take_all, take_more}
use Rattle.std.proofs.lemmas.List.Elements.{Contains-append_left, Contains-push, Contains-push_cases}
use Rattle.std.proofs.lemmas.Nat.{le-div, pow_pos}
use Rattle.lay_point.proofs.Polynomials.{#, ◌⊕◌, ◌⊖◌, ◌⊗◌, identity}
use Rattle.lay_point.proofs.Signs.{linear, below_or_not}
use Rattle.lay_point.proofs.Tests.{le_true, le_false}
use Rattle.lay_point.specs.declared.point.Point.{Point}
use Rattle.snap_pixels.specs.declared.measure.Direction.{Direction}
use Rattle.snap_pixels.specs.declared.measure.Measure.{Measure}
use Rattle.snap_pixels.specs.declared.measure.Measure.TheVariants.{Column, Row, Slanted}
use Rattle.snap_pixels.specs.declared.segment.Segment.{Segment}
use Rattle.snap_pixels.specs.declared.strips.Strips.{Strips}
use Rattle.snap_pixels.specs.Marks.{IsCrossed}
use Rattle.snap_pixels.specs.Parts.{IsCrossedInOne}
use Rattle.snap_pixels.specs.Segments.{Crosses, along}
use Rattle.snap_pixels.specs.Strips.{AreStripLists, IsInStrip, strip_list, reach, strip_number, strip_of_a, strip_of_b}
use Rattle.snap_pixels.proofs.BoxLemmas.{no_common}

-- ---- how far places are
reach_along : (d : Direction) (k t : ℤ) (a b : Point)
    → along k t (reach (Slanted d) a) (reach (Slanted d) b) ≡ d.x *ℤ along k t a.x b.x +ℤ d.y *ℤ along k t a.y b.y
reach_along d k t a b = identity (k ∷ t ∷ d.x ∷ d.y ∷ a.x ∷ a.y ∷ b.x ∷ b.y ∷ [])
    ((# 2 ⊗ # 4 ⊕ # 3 ⊗ # 5) ⊗ (# 0 ⊖ # 1) ⊕ (# 2 ⊗ # 6 ⊕ # 3 ⊗ # 7) ⊗ # 1)
    (# 2 ⊗ (# 4 ⊗ (# 0 ⊖ # 1) ⊕ # 6 ⊗ # 1) ⊕ # 3 ⊗ (# 5 ⊗ (# 0 ⊖ # 1) ⊕ # 7 ⊗ # 1)) refl

-- a place on two segments is as far on the one as on the other
reach_common : (m : Measure) (k t t' : ℤ) (a b a' b' : Point) → along k t a.x b.x ≡ along k t' a'.x b'.x
    → along k t a.y b.y ≡ along k t' a'.y b'.y → along k t (reach m a) (reach m b) ≡ along k t' (reach m a') (reach m b')
reach_common Column k t t' a b a' b' column row = column
reach_common Row k t t' a b a' b' column row = row
reach_common (Slanted d) k t t' a b a' b' column row =
    reach_along d k t a b ∙ (λ i. d.x *ℤ column i +ℤ d.y *ℤ row i) ∙ sym (reach_along d k t' a' b')

-- ---- numbers of strips
pub div_mono : (a b k : ℕ) → 0 < k → a ≤ b → a / k ≤ b / k
div_mono a b k some le = le-div (a / k) b k some (omega arith)

distance_mono : (from p q : ℤ) → from <ℤ p → p ≤ℤ q → nat_abs (p -ℤ from) ≤ nat_abs (q -ℤ from)
distance_mono from p q over le = omega (arith, ints)

number_mono : (s : Strips) (p q : ℤ) → p ≤ℤ q → strip_number s p ≤ strip_number s q
number_mono s p q le = by_tests (int_le p s.from) (int_le q s.from) refl refl
  where
    places : ℤ → ℕ
    places at = min (nat_abs (at -ℤ s.from) / 2 ^ (s.shift % 64)) s.last

    by_tests : (b c : Bool) → int_le p s.from ≡ b → int_le q s.from ≡ c
        → cond b 0 (min (nat_abs (p -ℤ s.from) / 2 ^ (s.shift % 64)) s.last)
        ≤ cond c 0 (min (nat_abs (q -ℤ s.from) / 2 ^ (s.shift % 64)) s.last)
    by_tests true c e f = omega arith
    by_tests false true e f =
        let out = le_false p s.from e in
        let within = le_true q s.from f in
        absurd (omega (arith, linear))
    by_tests false false e f =
        let out = le_false p s.from e in
        let more = div_mono _ _ (2 ^ (s.shift % 64)) (pow_pos (s.shift % 64)) (distance_mono s.from p q out le) in
        omega arith

-- a place in an earlier strip is less far
less_far : (s : Strips) (p q : ℤ) → strip_number s p < strip_number s q → p <ℤ q
less_far s p q lt = ⊎_elim
    (λ (less : p <ℤ q). less)
    (λ (more : q ≤ℤ p). let le = number_mono s q p more in absurd (omega arith))
    (below_or_not p q)

-- ---- a strip of both
module _ (s : Strips) (t u : Segment) (c : Point) (x : Crosses t.a t.b u.a u.b c) where
  apart : (strip_of_a s t < strip_of_a s u) × (strip_of_a s t < strip_of_b s u) × (strip_of_b s t < strip_of_a s u)
      × (strip_of_b s t < strip_of_b s u) → ⊥
  apart h =
      let common = x.4 in
      no_common x.1 x.2 x.3 (reach s.measure t.a) (reach s.measure t.b) (reach s.measure u.a) (reach s.measure u.b)
      common.first common.second
      (inl (less_far s _ _ h.0, less_far s _ _ h.1, less_far s _ _ h.2, less_far s _ _ h.3))
      (reach_common s.measure x.1 x.2 x.3 t.a t.b u.a u.b common.column common.row)

  apart_turned : (strip_of_a s u < strip_of_a s t) × (strip_of_a s u < strip_of_b s t) × (strip_of_b s u < strip_of_a s t)
      × (strip_of_b s u < strip_of_b s t) → ⊥
  apart_turned h =
      let common = x.4 in
      no_common x.1 x.2 x.3 (reach s.measure t.a) (reach s.measure t.b) (reach s.measure u.a) (reach s.measure u.b)
      common.first common.second
      (inr (less_far s _ _ h.0, less_far s _ _ h.1, less_far s _ _ h.2, less_far s _ _ h.3))
      (reach_common s.measure x.1 x.2 x.3 t.a t.b u.a u.b common.column common.row)

  share : (a b c' d : ℕ) → ((a < c') × (a < d) × (b < c') × (b < d) → ⊥) → ((c' < a) × (c' < b) × (d < a) × (d < b) → ⊥)
      → (k : ℕ) × (min a b ≤ k) × (k ≤ max a b) × (min c' d ≤ k) × (k ≤ max c' d)
  share a b c' d out out' = ⊎_elim
      (λ (lt : max a b < min c' d). absurd (out (omega arith, omega arith, omega arith, omega arith)))
      (λ (ge : min c' d ≤ max a b). ⊎_elim
      (λ (lt : max c' d < min a b). absurd (out' (omega arith, omega arith, omega arith, omega arith)))
      (λ (ge' : min a b ≤ max c' d).
      (max (min a b) (min c' d), omega arith, omega arith, omega arith, omega arith))
      (cases_lt (max c' d) (min a b)))
      (cases_lt (max a b) (min c' d))

  shared : (k : ℕ) × IsInStrip s t k × IsInStrip s u k
  shared =
      let h = share (strip_of_a s t) (strip_of_b s t) (strip_of_a s u) (strip_of_b s u) apart apart_turned in
      (h.0, (h.1, h.2), (h.3, h.4))

-- ---- lists of segments
-- what two segments of the list of this number cross, is crossed in one
crossed_in_one : (lists : List (List Segment)) (k : ℕ) (c : Point) → IsCrossed (strip_list lists k) c → IsCrossedInOne lists c
crossed_in_one [] k c (t, u, m, n, x) = absurd (omega (arith, m.1))
crossed_in_one (l ∷ ls) zero c h = inl h
crossed_in_one (l ∷ ls) (suc k) c h = inr (crossed_in_one ls k c h)

in_one_crossed : (segments : List Segment) (lists : List (List Segment))
    → ((k : ℕ) (t : Segment) → Contains (strip_list lists k) t → Contains segments t)
    → (c : Point) → IsCrossedInOne lists c → IsCrossed segments c
in_one_crossed segments [] own c h = absurd h
in_one_crossed segments (l ∷ ls) own c (inl (t, u, m, n, x)) = (t, u, own 0 t m, own 0 u n, x)
in_one_crossed segments (l ∷ ls) own c (inr h) = in_one_crossed segments ls (λ k t m. own (suc k) t m) c h

-- segments cross where those of one of the lists do
pub IsCrossed-listed : (s : Strips) (segments : List Segment) (lists : List (List Segment)) → AreStripLists s segments lists
    → (c : Point) → IsCrossed segments c ↔ IsCrossedInOne lists c
IsCrossed-listed s segments lists h c = (
  (λ (w : IsCrossed segments c).
      let k = shared s w.0 w.1 c w.4 in
      crossed_in_one lists k.0 c (w.0, w.1, h.all k.0 w.0 w.2 k.1, h.all k.0 w.1 w.3 k.2, w.4)),
  in_one_crossed segments lists h.own c,
)

-- ---- one list gets one more segment
-- the lists old became new: the segment is in those of the numbers from first on and before n
pub record ArePut (old new : List (List Segment)) (s : Segment) (first n : ℕ) : Type 0 where
  pub len : length new ≡ length old
  pub own : (k : ℕ) (t : Segment) → Contains (strip_list new k) t → Contains (strip_list old k) t ⊎ (s ≡ t)
  pub kept : (k : ℕ) (t : Segment) → Contains (strip_list old k) t → Contains (strip_list new k) t
  pub added : (k : ℕ) → first ≤ k → k < n → Contains (strip_list new k) s

pub put_more : (old mid new : List (List Segment)) (s : Segment) (first n : ℕ) → ArePut old mid s first n → n < length mid
    → new ≡ slice_set mid n (strip_list mid n ++ s ∷ []) → ArePut old new s first (n + 1)
put_more old mid new s first n h lt e = record {
  len = ap length e ∙ length-set mid n _ ∙ h.len;
  own = λ k t m. ⊎_elim
      (λ (same : k ≡ n). ⊎_elim
      (λ (was : Contains (strip_list mid n) t). h.own k t (subst (λ j. Contains (strip_list mid j) t) (sym same) was))
      (λ (is : s ≡ t). inr is)
      (Contains-push_cases (strip_list mid n) s t (subst (λ l. Contains l t) (at_n k same) m)))
      (λ (other : k ≢ n). h.own k t (subst (λ l. Contains l t) (at_other k other) m))
      (cases_eq k n);
  kept = λ k t m. grown k t (h.kept k t m);
  added = λ k le less. ⊎_elim
      (λ (same : k ≡ n). subst (λ l. Contains l s) (sym (at_n k same)) (Contains-push (strip_list mid n) s))
      (λ (other : k ≢ n). grown k s (h.added k le (omega arith)))
      (cases_eq k n);
}
  where
    at_n : (k : ℕ) → k ≡ n → strip_list new k ≡ strip_list mid n ++ s ∷ []
    at_n k same = ap (λ l. strip_list l k) e ∙ ap (λ j. strip_list (slice_set mid n (strip_list mid n ++ s ∷ [])) j) same
        ∙ get_or-set_same mid n (strip_list mid n ++ s ∷ []) [] lt

    at_other : (k : ℕ) → k ≢ n → strip_list new k ≡ strip_list mid k
    at_other k other = ap (λ l. strip_list l k) e ∙ get_or-set_other mid n k (strip_list mid n ++ s ∷ []) [] other

    grown : (k : ℕ) (t : Segment) → Contains (strip_list mid k) t → Contains (strip_list new k) t
    grown k t m = ⊎_elim
        (λ (same : k ≡ n). subst (λ l. Contains l t) (sym (at_n k same))
        (Contains-append_left (strip_list mid n) (s ∷ []) t (subst (λ j. Contains (strip_list mid j) t) same m)))
        (λ (other : k ≢ n). subst (λ l. Contains l t) (sym (at_other k other)) m)
        (cases_eq k n)

-- ---- all segments, one by one
-- those so far are in the lists of their strips
pub record AreListed (s : Strips) (segments : List Segment) (n : ℕ) (lists : List (List Segment)) : Type 0 where
  pub own : (k : ℕ) (t : Segment) → Contains (strip_list lists k) t → Contains segments t
  pub all : (k : ℕ) (t : Segment) → Contains (take n segments) t → IsInStrip s t k → Contains (strip_list lists k) t
  pub room : s.last < length lists

pub listed_begun : (s : Strips) (segments : List Segment) (lists : List (List Segment)) → s.last < length lists
    → ((k : ℕ) → length (strip_list lists k) ≡ 0) → AreListed s segments 0 lists
listed_begun s segments lists room none = record {
  own = λ k t m. let e = none k in absurd (omega (arith, m.1));
  all = λ k t m. absurd (omega (arith, m.1));
  room = room;
}

pub listed_more : (s : Strips) (segments : List Segment) (n : ℕ) (old new : List (List Segment)) (t : Segment)
    → AreListed s segments n old → n < length segments → t ≡ get_or segments n t
    → length new ≡ length old
    → ((k : ℕ) (u : Segment) → Contains (strip_list new k) u → Contains (strip_list old k) u ⊎ (t ≡ u))
    → ((k : ℕ) (u : Segment) → Contains (strip_list old k) u → Contains (strip_list new k) u)
    → ((k : ℕ) → min (strip_of_a s t) (strip_of_b s t) ≤ k → k ≤ max (strip_of_a s t) (strip_of_b s t) → Contains (strip_list new k) t)
    → AreListed s segments (n + 1) new
listed_more s segments n old new t h lt at len own kept added = record {
  own = λ k u m. ⊎_elim
      (λ was. h.own k u was)
      (λ is. subst (λ v. Contains segments v) is (n, lt, sym at))
      (own k u m);
  all = λ k u m within. ⊎_elim
      (λ (was : Contains (take n segments) u). kept k u (h.all k u was within))
      (λ (is : t ≡ u). subst (λ v. IsInStrip s v k → Contains (strip_list new k) v) is (λ w. added k w.0 w.1) within)
      (Contains-push_cases (take n segments) t u (subst (λ l. Contains l u) more m));
  room = omega (arith, h.room);
}
  where
    more : take (n + 1) segments ≡ take n segments ++ t ∷ []
    more = take_more segments n t lt ∙ ap (λ u. take n segments ++ u ∷ []) (sym at)

pub listed_all : (s : Strips) (segments : List Segment) (n : ℕ) (lists : List (List Segment)) → AreListed s segments n lists
    → length segments ≤ n → AreStripLists s segments lists
listed_all s segments n lists h over = record {
  own = h.own;
  all = λ k t m. h.all k t (subst (λ l. Contains l t) (sym (take_all n segments over)) m);
}

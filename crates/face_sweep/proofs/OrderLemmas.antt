-- The order of a row's edges is kept from row to row.
use Rattle.std.proofs.Common.{◌≡◌, ◌≢◌, inl, inr, ℕ, ◌<◌, Bool, true, false, not, ◌&&◌, List, [], ◌∷◌}
use Rattle.std.proofs.Common.{length, Contains, ℤ, pos, ◌+ℤ◌, ◌-ℤ◌, ◌*ℤ◌, ◌≤ℤ◌, ◌<ℤ◌, refl, sym, subst, ◌∙◌, arith}
use Rattle.std.specs.Prelude.{int_le, int_lt}
use Rattle.std.proofs.lemmas.Bool.{and_from}
use Rattle.std.proofs.lemmas.List.{get_or_default}
use Rattle.lay_point.proofs.Polynomials.{#, ◌⊗◌, identity}
use Rattle.lay_point.proofs.Signs.{linear, times_le}
use Rattle.lay_point.proofs.Tests.{false_le, true_le, true_lt}
use Rattle.lay_point.specs.declared.point.Point.{Point}
use Rattle.lay_point.specs.Edges.{IsEdgeBefore}
use Rattle.lay_point.specs.Parity.{xor, distance_right, is_crossed}
use Rattle.lay_point.specs.Rising.{IsRising}
use Rattle.lay_point.proofs.Members.{Has, contains}
use Rattle.lay_point.proofs.ListLaws.{has_get}
use Rattle.snap_edge_laws.specs.Meeting.{MeetAtEnds}
use Rattle.snap_chains.specs.Rounded.{AreClean, Owned}
use Rattle.face_side_laws.proofs.Rows.{IsLeft, Spans, crossed_spans, rises_in, row_distance, row_inside, row_k}
use Rattle.face_side_laws.proofs.Rows.{row_place, row_x, row_y, spans_crossed}
use Rattle.face_side_laws.proofs.Slide.{passes, slide_edge, starts}
use Rattle.face_rows.specs.Lines.{edge_at, nowhere}
use Rattle.face_rows.specs.Rows.{AreSomeRowEdges, CrossesRow, IsLeftOf, crosses_row, crossing, rise, upward}
use Rattle.face_rows.proofs.JudgeLemmas.{IsBeforeIn, before_rising, before_strict}
use Rattle.face_rows.proofs.RowLemmas.{other_edge, spans_of}
use Rattle.face_rows.proofs.UpwardLemmas.{up_meet}

-- ---- rows
pub crosses : (row : ℤ) (e : Point × Point) → (upward e).0.y ≤ℤ row → row <ℤ (upward e).1.y → crosses_row row e ≡ true
crosses row e low high =
    and_from (int_le (upward e).0.y row) (int_lt row (upward e).1.y) (true_le (upward e).0.y row low) (true_lt row (upward e).1.y high)

-- ---- from row to row
-- of two edges that cross two rows the same is to the left in both
pub kept_order : (row row' : ℤ) (e f : Point × Point) → row ≤ℤ row' → Spans row e → Spans row' e → Spans row f → Spans row' f
    → MeetAtEnds e f → IsLeft row e f → IsLeft row' e f
kept_order row row' e f later se se' sf sf' meet left =
    let k = row_k e in
    let p = row_place row e se in
    let p' = row_place row' e se' in
    let h = e.1.y -ℤ e.0.y in
    let positive : pos 0 <ℤ h = omega (arith, linear, se.low, se.high) in
    let up : f.0.y ≤ℤ f.1.y = omega (arith, linear, sf.low, sf.high) in
    let wide : pos 0 ≤ℤ k = omega (arith, linear) in
    let higher = times_le h (pos 2 *ℤ row +ℤ pos 1) (pos 2 *ℤ row' +ℤ pos 1) (omega (arith, linear)) (omega (arith, linear)) in
    let order = times_le k (row_y row e) (row_y row' e) wide
    (omega (arith, linear, higher, turned (pos 2 *ℤ row +ℤ pos 1) h, turned (pos 2 *ℤ row' +ℤ pos 1) h)) in
    let low = times_le k f.0.y row wide sf.low in
    let high = times_le k (row' +ℤ pos 1) f.1.y wide (omega (arith, linear, sf'.high)) in
    let both = slide_edge e.0 e.1 f.0 f.1 k (row_x row e) (row_y row e) k (row_x row' e) (row_y row' e) (rises_in row e se) up meet
    (row_inside row e se) (row_inside row' e se') order in
    let same = same_by_none (is_crossed k (row_x row e) (row_y row e) f) (is_crossed k (row_x row' e) (row_y row' e) f)
    (passes e.0 e.1 k (row_y row e) k (row_y row' e) f.0) (passes e.0 e.1 k (row_y row e) k (row_y row' e) f.1) both
    (begun (starts k (row_y row e) f.0) (starts k (row_y row' e) f.0) (int_lt (distance_right (pos 1) f.0.x f.0.y e.0 e.1) (pos 0))
    (true_le (k *ℤ f.0.y) (row_y row e) (omega (arith, linear, low, p.low))))
    (not_ended (starts k (row_y row e) f.1) (starts k (row_y row' e) f.1) (int_lt (distance_right (pos 1) f.1.x f.1.y e.0 e.1) (pos 0))
    (false_le (k *ℤ f.1.y) (row_y row' e) (omega (arith, linear, high, p'.high)))) in
    let here = spans_crossed row k (row_x row e) (row_y row e) f p sf (omega (arith, linear, left.less, row_distance row e f)) in
    let there = crossed_spans row' k (row_x row' e) (row_y row' e) f p' up (sym same ∙ here) in
    record { less = omega (arith, linear, there.1, row_distance row' e f) }
  where
    turned : (a b : ℤ) → a *ℤ b ≡ b *ℤ a
    turned a b = identity (a ∷ b ∷ []) (# 0 ⊗ # 1) (# 1 ⊗ # 0) refl

    begun : (s t u : Bool) → s ≡ true → (not s && t && u) ≡ false
    begun s t u e = rw e refl

    not_ended : (s t u : Bool) → t ≡ false → (not s && t && u) ≡ false
    not_ended true t u e = refl
    not_ended false t u e = rw e refl

    same_by_none : (a b c d : Bool) → xor a b ≡ xor c d → c ≡ false → d ≡ false → a ≡ b
    same_by_none true true c d e f g = refl
    same_by_none false false c d e f g = refl
    same_by_none true false c d e f g = let h : true ≡ false = e ∙ (λ i. xor (f i) (g i)) in absurd cc
    same_by_none false true c d e f g = let h : true ≡ false = e ∙ (λ i. xor (f i) (g i)) in absurd cc

-- ---- rising lists
pub rising_from : (Before : ℕ → ℕ → Type 0) (x : ℕ) (ys : List ℕ) → ((y : ℕ) → Has ys y → Before x y) → IsRising Before ys
    → IsRising Before (x ∷ ys)
rising_from Before x [] ahead h = tt
rising_from Before x (y ∷ ys) ahead h = (ahead y (inl refl), h)

-- what rises in one order rises in another, if that agrees on its elements
rising_agree : (Before After : ℕ → ℕ → Type 0) (xs : List ℕ) → ((x y : ℕ) → Has xs x → Has xs y → Before x y → After x y)
    → IsRising Before xs → IsRising After xs
rising_agree Before After [] agree h = tt
rising_agree Before After (x ∷ []) agree h = tt
rising_agree Before After (x ∷ y ∷ ys) agree h = (
  agree x y (inl refl) (inr (inl refl)) h.0,
  rising_agree Before After (y ∷ ys) (λ a b in_a in_b. agree a b (inr in_a) (inr in_b)) h.1,
)

-- the order of two edges by their numbers, whatever is taken for those that aren't there
before_any_in : (r : Owned) (row : ℤ) (m n : ℕ) → CrossesRow r.0 row m → CrossesRow r.0 row n
    → (rise (edge_at r n) *ℤ crossing row (edge_at r m)) <ℤ (rise (edge_at r m) *ℤ crossing row (edge_at r n)) → IsBeforeIn r.0 row m n
before_any_in r row m n first second less = record {
  first = first;
  second = second;
  left = λ d.
      let p = get_or_default r.0 m nowhere d first.0 in
      let q = get_or_default r.0 n nowhere d second.0 in
      coe 0 1 (i. (rise (q i) *ℤ crossing row (p i)) <ℤ (rise (p i) *ℤ crossing row (q i))) less;
}

module _ (r : Owned) (rising : IsRising IsEdgeBefore r.0) (clean : AreClean r.0) where
  meets : (m n : ℕ) → m ≢ n → m < length r.0 → n < length r.0 → MeetAtEnds (upward (edge_at r m)) (upward (edge_at r n))
  meets m n apart inside_m inside_n =
      let e = edge_at r m in
      let f = edge_at r n in
      up_meet e f (clean e f (contains r.0 e (has_get r.0 m nowhere inside_m)) (contains r.0 f (has_get r.0 n nowhere inside_n))
      (other_edge r.0 m n nowhere rising apart inside_m inside_n))

  -- edges of a row that cross a later row too are in order there
  pub still_in_order : (row row' : ℤ) (numbers : List ℕ) → row ≤ℤ row' → AreSomeRowEdges r.0 row numbers
      → ((n : ℕ) → Contains numbers n → CrossesRow r.0 row' n) → AreSomeRowEdges r.0 row' numbers
  still_in_order row row' numbers later h cross =
      let there : (n : ℕ) → Has numbers n → CrossesRow r.0 row' n = λ n found. cross n (contains numbers n found) in
      record {
        members = cross;
        rising = rising_agree (IsBeforeIn r.0 row) (IsLeftOf r.0 row') numbers
            (λ m n in_m in_n b.
            let e = edge_at r m in
            let f = edge_at r n in
            let s = there m in_m in
            let t = there n in_n in
            let apart : m ≢ n = λ same. (before_strict r.0 row).irreflexive n (subst (λ k. IsBeforeIn r.0 row k n) same b) in
            let left = kept_order row row' (upward e) (upward f) later (spans_of row e (b.first.1 nowhere))
            (spans_of row' e (s.1 nowhere)) (spans_of row f (b.second.1 nowhere)) (spans_of row' f (t.1 nowhere))
            (meets m n apart b.first.0 b.second.0) (record { less = b.left nowhere }) in
            (before_any_in r row' m n s t left.less).left)
            (before_rising r.0 row numbers (λ n found. h.members n (contains numbers n found)) h.rising);
      }

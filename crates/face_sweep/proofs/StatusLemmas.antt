-- The list of a sweep at a point, and once the point is passed.
use Rattle.std.proofs.Common.{◌≡◌, ◌≢◌, ◌⊎◌, inl, inr, ⊎_elim, ℕ, zero, suc, ◌-◌, ◌<◌, ◌≤◌, List, [], ◌∷◌, ◌++◌, length, get_or, take, drop}
use Rattle.std.proofs.Common.{Contains, ℤ, pos, ◌-ℤ◌, ◌*ℤ◌, ◌≤ℤ◌, ◌<ℤ◌, refl, sym, ap, subst, ◌∙◌, arith}
use Rattle.std.proofs.lemmas.Bool.{cases_lt}
use Rattle.std.proofs.lemmas.List.{drop_at, get_or-append_right, get_or_default, take-append-le}
use Rattle.std.proofs.lemmas.List.Elements.{Contains-get_or}
use Rattle.std.proofs.Math.ListN.{length-append}
use Rattle.lay_point.proofs.Signs.{below_or_not, below_or_same, linear}
use Rattle.lay_point.specs.declared.point.Point.{Point}
use Rattle.lay_point.specs.Rising.{IsRising}
use Rattle.lay_point.proofs.Members.{Has, contains, has, has-append, has-append_left, has-append_right}
use Rattle.lay_point.proofs.ListLaws.{before_by_number}
use Rattle.face_side_laws.proofs.Rows.{IsBesideRow, apart_in_row}
use Rattle.face_rows.proofs.JudgeLemmas.{IsBeforeIn, before_rising, before_strict}
use Rattle.face_sweep.proofs.OrderLemmas.{rising_from}
use Rattle.face_rows.specs.Lines.{edge_at, nowhere}
use Rattle.snap_chains.specs.Rounded.{Owned}
use Rattle.face_rows.specs.Rows.{AreSomeRowEdges, CrossesRow, IsLeftOf, crossing, rise, upward}
use Rattle.face_rows.specs.Sound.{AreSound}
use Rattle.face_sweep.specs.Points.{
  AreBegunAt,
  HasHigh,
  IsEndedGroup,
  IsPassed,
  IsPlaceAmong,
  IsStatus,
  IsEndPoint,
  TellsAll,
  distance_from,
}
use Rattle.face_sweep.proofs.PointLemmas.{begins_none, beside_below, beside_own, ends_none, in_order, meets, none_begins, none_ends, span}

-- ---- lists
get_left : (xs ys : List ℕ) (i : ℕ) → i < length xs → get_or (xs ++ ys) i 0 ≡ get_or xs i 0
get_left [] ys i less = absurd (omega arith)
get_left (x ∷ xs) ys zero less = refl
get_left (x ∷ xs) ys (suc i) less = get_left xs ys i (omega arith)

pub append_joined : {A : Type 0} (xs ys zs : List A) → (xs ++ ys) ++ zs ≡ xs ++ (ys ++ zs)
append_joined [] ys zs = refl
append_joined (x ∷ xs) ys zs = ap (λ l. x ∷ l) (append_joined xs ys zs)

pub rising_append : (Before : ℕ → ℕ → Type 0) (xs ys : List ℕ) → IsRising Before xs → IsRising Before ys
    → ((x y : ℕ) → Has xs x → Has ys y → Before x y) → IsRising Before (xs ++ ys)
rising_append Before [] ys h g between = g
rising_append Before (x ∷ []) ys h g between = rising_from Before x ys (λ y m. between x y (inl refl) m) g
rising_append Before (x ∷ z ∷ xs) ys h g between =
    (h.0, rising_append Before (z ∷ xs) ys h.1 g (λ a b in_a in_b. between a b (inr in_a) in_b))

pub rising_take : (Before : ℕ → ℕ → Type 0) (xs : List ℕ) (n : ℕ) → IsRising Before xs → IsRising Before (take n xs)
rising_take Before [] zero h = tt
rising_take Before [] (suc n) h = tt
rising_take Before (x ∷ xs) zero h = tt
rising_take Before (x ∷ []) (suc zero) h = tt
rising_take Before (x ∷ []) (suc (suc n)) h = tt
rising_take Before (x ∷ y ∷ ys) (suc zero) h = tt
rising_take Before (x ∷ y ∷ ys) (suc (suc n)) h = (h.0, rising_take Before (y ∷ ys) (suc n) h.1)

has_take : (xs : List ℕ) (n x : ℕ) → Has (take n xs) x → (k : ℕ) × (k < n) × (k < length xs) × (get_or xs k 0 ≡ x)
has_take [] zero x m = absurd m
has_take [] (suc n) x m = absurd m
has_take (y ∷ ys) zero x m = absurd m
has_take (y ∷ ys) (suc n) x (inl same) = (zero, omega arith, omega arith, same)
has_take (y ∷ ys) (suc n) x (inr m) = let h = has_take ys n x m in (suc h.0, omega (arith, h.1), omega (arith, h.2), h.3)

take_has : (xs : List ℕ) (n k : ℕ) → k < n → k < length xs → Has (take n xs) (get_or xs k 0)
take_has [] n k less inside = absurd (omega arith)
take_has (x ∷ xs) zero k less inside = absurd (omega arith)
take_has (x ∷ xs) (suc n) zero less inside = inl refl
take_has (x ∷ xs) (suc n) (suc k) less inside = inr (take_has xs n k (omega arith) (omega arith))

-- ---- the order of two edges of a row, by where they are beside a point
module _ (r : Owned) (sound : AreSound r) where
  pub before : (row : ℤ) (m n : ℕ) → CrossesRow r.0 row m → CrossesRow r.0 row n
      → (rise (edge_at r n) *ℤ crossing row (edge_at r m)) <ℤ (rise (edge_at r m) *ℤ crossing row (edge_at r n)) → IsLeftOf r.0 row m n
  before row m n hm hn less d =
      let p = get_or_default r.0 m nowhere d hm.0 in
      let q = get_or_default r.0 n nowhere d hn.0 in
      coe 0 1 (i. (rise (q i) *ℤ crossing row (p i)) <ℤ (rise (p i) *ℤ crossing row (q i))) less

  -- one is left of the point, or at it, and the other is right of it; or one is left of it, and the other right of it or at it
  abbrev pub AreOnSides : Point → ℕ → ℕ → Type 0
  AreOnSides p m n = ((distance_from r p m ≤ℤ pos 0) × (pos 0 <ℤ distance_from r p n))
      ⊎ ((distance_from r p m <ℤ pos 0) × (pos 0 ≤ℤ distance_from r p n))

  pub left_by_point : (p : Point) (row : ℤ) → IsBesideRow row (pos 1) p.y → (m n : ℕ) → CrossesRow r.0 row m → CrossesRow r.0 row n
      → AreOnSides p m n → IsLeftOf r.0 row m n
  left_by_point p row beside m n hm hn sides = ⊎_elim
      (λ (less : (rise (edge_at r n) *ℤ crossing row (edge_at r m)) <ℤ (rise (edge_at r m) *ℤ crossing row (edge_at r n))).
      before row m n hm hn less)
      (λ (le : (rise (edge_at r m) *ℤ crossing row (edge_at r n)) ≤ℤ (rise (edge_at r n) *ℤ crossing row (edge_at r m))).
      ⊎_elim
      (λ (less : (rise (edge_at r m) *ℤ crossing row (edge_at r n)) <ℤ (rise (edge_at r n) *ℤ crossing row (edge_at r m))).
      absurd (not_turned (before row n m hn hm less) sides))
      (λ (same : rise (edge_at r m) *ℤ crossing row (edge_at r n) ≡ rise (edge_at r n) *ℤ crossing row (edge_at r m)).
      absurd (apart_in_row row (upward (edge_at r m)) (upward (edge_at r n)) (span r sound row m hm) (span r sound row n hn)
      (meets r sound m n (apart sides) hm.0 hn.0) same))
      (below_or_same (rise (edge_at r m) *ℤ crossing row (edge_at r n)) (rise (edge_at r n) *ℤ crossing row (edge_at r m)) le))
      (below_or_not (rise (edge_at r n) *ℤ crossing row (edge_at r m)) (rise (edge_at r m) *ℤ crossing row (edge_at r n)))
    where
      not_turned : IsLeftOf r.0 row n m → AreOnSides p m n → ⊥
      not_turned turned (inl s) =
          let right = (in_order r sound p row beside n m hn hm turned).behind s.1 in
          let left = s.0 in omega (arith, linear)
      not_turned turned (inr s) =
          let right = (in_order r sound p row beside n m hn hm turned).from s.1 in
          let left = s.0 in omega (arith, linear)

      apart : AreOnSides p m n → m ≢ n
      apart (inl s) same =
          let right = subst (λ k. pos 0 <ℤ distance_from r p k) (sym same) s.1 in
          let left = s.0 in omega (arith, linear)
      apart (inr s) same =
          let right = subst (λ k. pos 0 ≤ℤ distance_from r p k) (sym same) s.1 in
          let left = s.0 in omega (arith, linear)

  pub joined_row : (p : Point) (row : ℤ) → IsBesideRow row (pos 1) p.y → (xs ys : List ℕ) → AreSomeRowEdges r.0 row xs
      → AreSomeRowEdges r.0 row ys → ((m n : ℕ) → Contains xs m → Contains ys n → AreOnSides p m n) → AreSomeRowEdges r.0 row (xs ++ ys)
  joined_row p row beside xs ys h g sides = record {
    members = λ n m. ⊎_elim (λ (found : Has xs n). h.members n (contains xs n found))
        (λ (found : Has ys n). g.members n (contains ys n found))
        (has-append xs ys n (has (xs ++ ys) n m));
    rising = rising_append (IsLeftOf r.0 row) xs ys h.rising g.rising (λ m n in_m in_n.
        left_by_point p row beside m n (h.members m (contains xs m in_m)) (g.members n (contains ys n in_n))
        (sides m n (contains xs m in_m) (contains ys n in_n)));
  }

  -- ---- the list at a point
  -- from left to right
  pub record AreAlong (p : Point) (m n : ℕ) : Type 0 where
    pub from : pos 0 ≤ℤ distance_from r p m → pos 0 ≤ℤ distance_from r p n
    pub behind : pos 0 <ℤ distance_from r p m → pos 0 <ℤ distance_from r p n

  module _ (p : Point) (v : IsEndPoint r p) (below above : List ℕ) (row_below : AreSomeRowEdges r.0 (p.y -ℤ pos 1) below)
      (left : (n : ℕ) → Contains below n → distance_from r p n ≤ℤ pos 0) (right : (n : ℕ) → Contains above n → pos 0 <ℤ distance_from r p n)
    where
      abbrev at : ℕ → ℕ
      at k = get_or (below ++ above) k 0

      below_at : (k : ℕ) → k < length below → Contains below (at k)
      below_at k less = subst (Contains below) (sym (get_left below above k less)) (Contains-get_or below k 0 less)

      above_at : (k : ℕ) → length below ≤ k → k < length (below ++ above) → Contains above (at k)
      above_at k le inside =
          subst (Contains above) (sym (get_or-append_right below above (length below) k 0 refl le))
          (Contains-get_or above (k - length below) 0 (omega (arith, length-append below above)))

      pub along : (i k : ℕ) → i < k → k < length (below ++ above) → AreAlong p (at i) (at k)
      along i k less inside = ⊎_elim
          (λ (low : k < length below).
          let b = before_by_number (IsBeforeIn r.0 (p.y -ℤ pos 1)) (before_strict r.0 (p.y -ℤ pos 1)) below i k 0
          (before_rising r.0 (p.y -ℤ pos 1) below (λ n m. row_below.members n (contains below n m)) row_below.rising) less low in
          let o = in_order r sound p (p.y -ℤ pos 1) (beside_below r sound p) (get_or below i 0) (get_or below k 0) b.first b.second
          b.left in
          let si = sym (get_left below above i (omega arith)) in
          let sk = sym (get_left below above k low) in
          subst (λ n. AreAlong p (at i) n) sk (subst (λ m. AreAlong p m (get_or below k 0)) si
          (record { from = o.from; behind = o.behind })))
          (λ (high : length below ≤ k).
          let far = right (at k) (above_at k high inside) in
          record { from = λ h. omega (arith, linear); behind = λ h. far })
          (cases_lt k (length below))

      pub tells : (place : ℕ) → IsPlaceAmong r p (below ++ above) place → TellsAll r p (below ++ above) place
      tells place h = record {
        left = λ k less. left_of k less;
        from = λ k le inside. ⊎_elim
            (λ (low : k < length below).
            let m = below_at k low in
            let near = left (at k) m in
            let far = not_left k le inside in
            inl (none_ends r sound p v (at k) (row_below.members (at k) m) (omega (arith, linear))))
            (λ (high : length below ≤ k). inr (right (at k) (above_at k high inside)))
            (cases_lt k (length below));
        neighbours = λ i k le inside far. ⊎_elim (λ (less : i < k). (along i k less inside).behind far)
            (λ (ge : k ≤ i). let same : i ≡ k = omega arith in subst (λ j. pos 0 <ℤ distance_from r p (at j)) same far)
            (cases_lt i k);
      }
        where
          not_left : (k : ℕ) → place ≤ k → k < length (below ++ above) → pos 0 ≤ℤ distance_from r p (at k)
          not_left k le inside = ⊎_elim
              (λ (less : place < k). (along place k less inside).from (h.behind (omega arith)))
              (λ (ge : k ≤ place). let same : place ≡ k = omega arith in
              subst (λ j. pos 0 ≤ℤ distance_from r p (at j)) same (h.behind (omega arith)))
              (cases_lt place k)

          left_of : (k : ℕ) → k < place → distance_from r p (at k) <ℤ pos 0
          left_of k less = ⊎_elim
              (λ (more : suc k < place).
              ⊎_elim (λ (so : distance_from r p (at k) <ℤ pos 0). so)
              (λ (not_so : pos 0 ≤ℤ distance_from r p (at k)).
              let last : suc (place - 1) ≡ place = omega arith in
              let near = h.before (place - 1) last in
              let bound = h.bound in
              let far = (along k (place - 1) (omega arith) (omega arith)).from not_so in
              absurd (omega (arith, linear)))
              (below_or_not (distance_from r p (at k)) (pos 0)))
              (λ (le : place ≤ suc k). h.before k (omega arith))
              (cases_lt (suc k) place)

      -- ---- past the point
      pub group_end : (from to : ℕ) → IsEndedGroup r p (below ++ above) from to → to ≡ length below
      group_end from to h = ⊎_elim
          (λ (less : to < length below).
          let near = left (at to) (below_at to less) in
          let far = h.right to (omega arith) (omega (arith, length-append below above)) in
          absurd (omega (arith, linear)))
          (λ (le : length below ≤ to). ⊎_elim
          (λ (more : length below < to).
          let bound = h.bound in
          let far = right (at (length below)) (above_at (length below) (omega arith) (omega arith)) in
          ⊎_elim
          (λ (early : length below < from). let near = h.left (length below) early in absurd (omega (arith, linear)))
          (λ (late : from ≤ length below).
          let none = ends_none r sound p (at (length below)) (h.ends (length below) late more) in absurd (omega (arith, linear)))
          (cases_lt (length below) from))
          (λ (ge : to ≤ length below). omega arith)
          (cases_lt (length below) to))
          (cases_lt to (length below))

      pub passed : (begun : List ℕ) (from to : ℕ) → AreSomeRowEdges r.0 p.y above
          → ((n : ℕ) → CrossesRow r.0 (p.y -ℤ pos 1) n → distance_from r p n ≤ℤ pos 0 → Contains below n)
          → ((n : ℕ) → CrossesRow r.0 p.y n → pos 0 <ℤ distance_from r p n → Contains above n)
          → AreBegunAt r p begun → IsEndedGroup r p (below ++ above) from to
          → IsPassed r p (take from (below ++ above) ++ begun ++ drop to (below ++ above))
      passed begun from to row_above all_left all_right b h =
          let last = group_end from to h in
          let within : from ≤ length below = omega (arith, h.order) in
          record {
            below = take from below;
            above = begun ++ above;
            joined = (λ i. take-append-le from below above within i ++ begun ++ drop_at below above to (sym last) i)
                ∙ append_joined (take from below) begun above;
            row_below = record {
              members = λ n m. let t = has_take below from n (has (take from below) n m) in
                  row_below.members n (subst (Contains below) t.3 (Contains-get_or below t.0 0 t.2));
              rising = rising_take (IsLeftOf r.0 (p.y -ℤ pos 1)) below from row_below.rising;
            };
            row_above = joined_row p p.y (beside_own r sound p) begun above (record { members = b.row; rising = b.rising }) row_above
                (λ m n in_m in_n. let none = begins_none r sound p m (b.at m in_m) in inl (omega (arith, linear), right n in_n));
            left = λ n m.
                let t = has_take below from n (has (take from below) n m) in
                subst (λ j. distance_from r p j <ℤ pos 0) (get_left below above t.0 t.2 ∙ t.3) (h.left t.0 t.1);
            right = λ n m. ⊎_elim
                (λ (found : Has begun n). let none = begins_none r sound p n (b.at n (contains begun n found)) in omega (arith, linear))
                (λ (found : Has above n). let far = right n (contains above n found) in omega (arith, linear))
                (has-append begun above n (has (begun ++ above) n m));
            all_left = λ n cross near. still_there n near (all_left n cross (omega (arith, linear)));
            all_right = λ n cross far. ⊎_elim
                (λ (more : pos 0 <ℤ distance_from r p n).
                contains (begun ++ above) n (has-append_right begun above n (has above n (all_right n cross more))))
                (λ (none : pos 0 ≡ distance_from r p n).
                contains (begun ++ above) n
                (has-append_left begun above n (has begun n (b.all n cross (none_begins r sound p v n cross (sym none))))))
                (below_or_same (pos 0) (distance_from r p n) far);
          }
        where
          still_there : (n : ℕ) → distance_from r p n <ℤ pos 0 → Contains below n → Contains (take from below) n
          still_there n near (k, less, is) =
              let it : get_or below k 0 ≡ n = get_or_default below k 0 n less ∙ is in
              ⊎_elim
              (λ (early : k < from). contains (take from below) n (subst (Has (take from below)) it (take_has below from k early less)))
              (λ (late : from ≤ k).
              let last = group_end from to h in
              let ends : HasHigh r p n = subst (HasHigh r p) (get_left below above k less ∙ it) (h.ends k late (omega arith)) in
              let none = ends_none r sound p n ends in absurd (omega (arith, linear)))
              (cases_lt k from)

pub places_tell : (r : Owned) (p : Point) (numbers : List ℕ) (place : ℕ) → AreSound r → IsEndPoint r p → IsStatus r p numbers
    → IsPlaceAmong r p numbers place → TellsAll r p numbers place
places_tell r p numbers place sound v s h =
    subst (λ ns. TellsAll r p ns place) (sym s.joined)
    (tells r sound p v s.below s.above s.row_below s.left s.right place (subst (λ ns. IsPlaceAmong r p ns place) s.joined h))

pub points_pass : (r : Owned) (p : Point) (numbers begun : List ℕ) (from to : ℕ) → AreSound r → IsEndPoint r p → IsStatus r p numbers
    → AreBegunAt r p begun → IsEndedGroup r p numbers from to → IsPassed r p (take from numbers ++ begun ++ drop to numbers)
points_pass r p numbers begun from to sound v s b h =
    subst (λ ns. IsPassed r p (take from ns ++ begun ++ drop to ns)) (sym s.joined)
    (passed r sound p v s.below s.above s.row_below s.left s.right begun from to s.row_above s.all_left s.all_right b
    (subst (λ ns. IsEndedGroup r p ns from to) s.joined h))

-- ---- what is right of the point
pub status_rest : (r : Owned) (p : Point) (numbers : List ℕ) (from to : ℕ) → AreSound r → IsEndPoint r p → (s : IsStatus r p numbers)
    → IsEndedGroup r p numbers from to → drop to numbers ≡ s.above
status_rest r p numbers from to sound v s h =
    let last = group_end r sound p v s.below s.above s.row_below s.left s.right from to
    (subst (λ ns. IsEndedGroup r p ns from to) s.joined h) in
    ap (drop to) s.joined ∙ drop_at s.below s.above to (sym last)

-- once the point is passed, the edges that begin there and those right of it are those of its own row
pub passed_rest : (r : Owned) (p : Point) (numbers begun : List ℕ) (from to : ℕ) → AreSound r → IsEndPoint r p → IsStatus r p numbers
    → AreBegunAt r p begun → IsEndedGroup r p numbers from to
    → (t : IsPassed r p (take from numbers ++ begun ++ drop to numbers)) × (t.above ≡ begun ++ drop to numbers)
unfolding passed
passed_rest r p numbers begun from to sound v s b h =
    let g = subst (λ ns. IsEndedGroup r p ns from to) s.joined h in
    let last = group_end r sound p v s.below s.above s.row_below s.left s.right from to g in
    subst (λ ns. (t : IsPassed r p (take from ns ++ begun ++ drop to ns)) × (t.above ≡ begun ++ drop to ns)) (sym s.joined) (
      passed r sound p v s.below s.above s.row_below s.left s.right begun from to s.row_above s.all_left s.all_right b g,
      ap (λ l. begun ++ l) (sym (drop_at s.below s.above to (sym last))),
    )

-- From a point of the sweep to the next: the list stays, and what passes between them goes over to the next row.
use Rattle.std.proofs.Common.{◌≡◌, inl, inr, ⊎_elim, ℕ, ◌<◌, Bool, true, false, List, [], ◌∷◌, ◌++◌, length}
use Rattle.std.proofs.Common.{Contains, ℤ, pos, ◌+ℤ◌, ◌-ℤ◌, ◌*ℤ◌, ◌≤ℤ◌, ◌<ℤ◌, refl, sym, ap, subst, ◌∙◌, arith}
use Rattle.std.specs.Prelude.{int_lt}
use Rattle.std.proofs.lemmas.List.{get_or_default}
use Rattle.lay_point.proofs.Polynomials.{#, lit, ◌⊕◌, ◌⊖◌, ◌⊗◌, identity}
use Rattle.lay_point.proofs.Signs.{below_or_not, below_or_same, cancel_positive, linear, nonnegative_product, positive_product}
use Rattle.lay_point.proofs.Tests.{lt_false, lt_true, true_lt}
use Rattle.lay_point.specs.declared.point.Point.{Point}
use Rattle.lay_point.specs.Parity.{distance_right}
use Rattle.lay_point.specs.Rising.{IsRising}
use Rattle.lay_point.proofs.EdgeOrder.{same_point}
use Rattle.lay_point.proofs.Members.{Has, contains, has, has-append, has-append_left, has-append_right}
use Rattle.lay_point.proofs.Rising.{rising_rest}
use Rattle.face_rows.proofs.JudgeLemmas.{IsBeforeIn, before_rising}
use Rattle.face_sweep.proofs.OrderLemmas.{crosses, still_in_order}
use Rattle.face_rows.specs.Lines.{edge_at, nowhere}
use Rattle.snap_chains.specs.Rounded.{Owned}
use Rattle.face_rows.specs.Rows.{AreRowEdges, AreSomeRowEdges, CrossesRow, IsLeftOf, crosses_row, upward}
use Rattle.face_rows.specs.Sound.{AreSound}
use Rattle.face_sweep.specs.Points.{IsNextPoint, IsPassed, IsStatus, IsEndPoint, distance_from}
use Rattle.face_sweep.proofs.PointLemmas.{at_high, at_low, beside_below, beside_own, in_order, span}
use Rattle.face_sweep.proofs.StatusLemmas.{append_joined, joined_row}

-- ---- lists
rising_front : (Before : ℕ → ℕ → Type 0) (xs ys : List ℕ) → IsRising Before (xs ++ ys) → IsRising Before xs
rising_front Before [] ys h = tt
rising_front Before (x ∷ []) ys h = tt
rising_front Before (x ∷ z ∷ xs) ys h = (h.0, rising_front Before (z ∷ xs) ys h.1)

rising_back : (Before : ℕ → ℕ → Type 0) (xs ys : List ℕ) → IsRising Before (xs ++ ys) → IsRising Before ys
rising_back Before [] ys h = h
rising_back Before (x ∷ xs) ys h = rising_back Before xs ys (rising_rest Before x (xs ++ ys) h)

-- a list cut where a test begins to pass, if it passes behind each element that it passes
pub record IsCut (test : ℕ → Bool) (xs : List ℕ) : Type 0 where
  pub front : List ℕ
  pub back : List ℕ
  pub joined : xs ≡ front ++ back
  pub fails : (n : ℕ) → Has front n → test n ≡ false
  pub passes : (n : ℕ) → Has back n → test n ≡ true

all_pass : (Before : ℕ → ℕ → Type 0) (test : ℕ → Bool) → ((m n : ℕ) → Before m n → test m ≡ true → test n ≡ true) → (x : ℕ) (xs : List ℕ)
    → IsRising Before (x ∷ xs) → test x ≡ true → (n : ℕ) → Has (x ∷ xs) n → test n ≡ true
all_pass Before test on x xs h t n (inl same) = subst (λ k. test k ≡ true) same t
all_pass Before test on x [] h t n (inr m) = absurd m
all_pass Before test on x (y ∷ ys) h t n (inr m) = all_pass Before test on y ys h.1 (on x y h.0 t) n m

cut : (Before : ℕ → ℕ → Type 0) (test : ℕ → Bool) → ((m n : ℕ) → Before m n → test m ≡ true → test n ≡ true) → (xs : List ℕ)
    → IsRising Before xs → IsCut test xs
cut Before test on [] h = record { front = []; back = []; joined = refl; fails = λ n m. absurd m; passes = λ n m. absurd m }
cut Before test on (x ∷ xs) h = by_test (test x) refl (cut Before test on xs (rising_rest Before x xs h))
  where
    by_test : (b : Bool) → test x ≡ b → IsCut test xs → IsCut test (x ∷ xs)
    by_test true t c = record {
      front = [];
      back = x ∷ xs;
      joined = refl;
      fails = λ n m. absurd m;
      passes = all_pass Before test on x xs h t;
    }
    by_test false t c = record {
      front = x ∷ c.front;
      back = c.back;
      joined = ap (λ l. x ∷ l) c.joined;
      fails = λ n m. ⊎_elim (λ (same : x ≡ n). subst (λ k. test k ≡ false) same t) (λ (further : Has c.front n). c.fails n further) m;
      passes = c.passes;
    }

-- ---- at the height of an end
product_below : (h z : ℤ) → pos 0 <ℤ h → (h *ℤ z) <ℤ pos 0 → z <ℤ pos 0
product_below h z positive less = ⊎_elim (λ (so : z <ℤ pos 0). so)
    (λ (not_so : pos 0 ≤ℤ z). let whole = nonnegative_product h z (omega (arith, linear)) not_so in absurd (omega (arith, linear)))
    (below_or_not z (pos 0))

further_left : (x x' y : ℤ) (a b : Point)
    → distance_right (pos 1) x' y a b ≡ distance_right (pos 1) x y a b +ℤ (b.y -ℤ a.y) *ℤ (x -ℤ x')
further_left x x' y a b = identity (x ∷ x' ∷ y ∷ a.x ∷ a.y ∷ b.x ∷ b.y ∷ [])
    ((lit (pos 1) ⊗ # 3 ⊖ # 1) ⊗ (# 6 ⊖ # 4) ⊕ (# 2 ⊖ lit (pos 1) ⊗ # 4) ⊗ (# 5 ⊖ # 3))
    (((lit (pos 1) ⊗ # 3 ⊖ # 0) ⊗ (# 6 ⊖ # 4) ⊕ (# 2 ⊖ lit (pos 1) ⊗ # 4) ⊗ (# 5 ⊖ # 3)) ⊕ (# 6 ⊖ # 4) ⊗ (# 0 ⊖ # 1)) refl

-- a point of the same row
abbrev beside : Point → ℤ → Point
beside p x = record { x = x; y = p.y }

module _ (r : Owned) (sound : AreSound r) where
  abbrev low : ℕ → Point
  low n = (upward (edge_at r n)).0

  abbrev high : ℕ → Point
  high n = (upward (edge_at r n)).1

  high_distance : (p : Point) (n : ℕ) → (high n).y ≡ p.y → distance_from r p n ≡ ((high n).y -ℤ (low n).y) *ℤ ((high n).x -ℤ p.x)
  high_distance p n same = ap (λ y. distance_right (pos 1) p.x y (low n) (high n)) (sym same) ∙ at_high p.x (low n) (high n)

  low_distance : (p : Point) (n : ℕ) → (low n).y ≡ p.y → distance_from r p n ≡ ((high n).y -ℤ (low n).y) *ℤ ((low n).x -ℤ p.x)
  low_distance p n same = ap (λ y. distance_right (pos 1) p.x y (low n) (high n)) (sym same) ∙ at_low p.x (low n) (high n)

  module _ (p : Point) (n : ℕ) (rises : (low n).y <ℤ (high n).y) where
    tall : pos 0 <ℤ ((high n).y -ℤ (low n).y)
    tall = omega (arith, linear)

    high_right : (high n).y ≡ p.y → pos 0 <ℤ distance_from r p n → p.x <ℤ (high n).x
    high_right same far =
        let less = cancel_positive ((high n).y -ℤ (low n).y) ((high n).x -ℤ p.x) (omega (arith, linear))
        (subst (λ z. pos 0 <ℤ z) (high_distance p n same) far) in omega (arith, linear)

    high_left : (high n).y ≡ p.y → distance_from r p n <ℤ pos 0 → (high n).x <ℤ p.x
    high_left same near =
        let less = product_below ((high n).y -ℤ (low n).y) ((high n).x -ℤ p.x) tall
        (subst (λ z. z <ℤ pos 0) (high_distance p n same) near) in omega (arith, linear)

    low_right : (low n).y ≡ p.y → pos 0 <ℤ distance_from r p n → p.x <ℤ (low n).x
    low_right same far =
        let less = cancel_positive ((high n).y -ℤ (low n).y) ((low n).x -ℤ p.x) (omega (arith, linear))
        (subst (λ z. pos 0 <ℤ z) (low_distance p n same) far) in omega (arith, linear)

    low_left : (low n).y ≡ p.y → distance_from r p n <ℤ pos 0 → (low n).x <ℤ p.x
    low_left same near =
        let less = product_below ((high n).y -ℤ (low n).y) ((low n).x -ℤ p.x) tall
        (subst (λ z. z <ℤ pos 0) (low_distance p n same) near) in omega (arith, linear)

  low_vertex : (n : ℕ) → n < length r.0 → IsEndPoint r (low n)
  low_vertex n given = record { number = n; given = given; at = inl refl }

  high_vertex : (n : ℕ) → n < length r.0 → IsEndPoint r (high n)
  high_vertex n given = record { number = n; given = given; at = inr refl }

  crossing_row : (row : ℤ) (n : ℕ) → n < length r.0 → (low n).y ≤ℤ row → row <ℤ (high n).y → CrossesRow r.0 row n
  crossing_row row n given from to = (
    given,
    λ d. subst (λ (f : Point × Point). crosses_row row f ≡ true) (get_or_default r.0 n nowhere d given) (crosses row (edge_at r n) from to),
  )

  rises_of : (row : ℤ) (n : ℕ) → CrossesRow r.0 row n → (low n).y <ℤ (high n).y
  rises_of row n h = let s = span r sound row n h in omega (arith, linear, s.low, s.high)

  some_front : (row : ℤ) (xs ys : List ℕ) → AreSomeRowEdges r.0 row (xs ++ ys) → AreSomeRowEdges r.0 row xs
  some_front row xs ys h = record {
    members = λ n m. h.members n (contains (xs ++ ys) n (has-append_left xs ys n (has xs n m)));
    rising = rising_front (IsLeftOf r.0 row) xs ys h.rising;
  }

  some_back : (row : ℤ) (xs ys : List ℕ) → AreSomeRowEdges r.0 row (xs ++ ys) → AreSomeRowEdges r.0 row ys
  some_back row xs ys h = record {
    members = λ n m. h.members n (contains (xs ++ ys) n (has-append_right xs ys n (has ys n m)));
    rising = rising_back (IsLeftOf r.0 row) xs ys h.rising;
  }

  -- ---- a row's list cut at a point
  abbrev test : Point → ℕ → Bool
  test p n = int_lt (pos 0) (distance_from r p n)

  cut_row : (p : Point) (xs : List ℕ) → AreSomeRowEdges r.0 (p.y -ℤ pos 1) xs → IsCut (test p) xs
  cut_row p xs h = cut (IsBeforeIn r.0 (p.y -ℤ pos 1)) (test p)
      (λ m n b t. true_lt (pos 0) (distance_from r p n)
      ((in_order r sound p (p.y -ℤ pos 1) (beside_below r sound p) m n b.first b.second b.left).behind
      (lt_true (pos 0) (distance_from r p m) t))) xs
      (before_rising r.0 (p.y -ℤ pos 1) xs (λ n m. h.members n (contains xs n m)) h.rising)

  -- what is right of the point goes on above, if nothing ends there right of the point
  goes_on : (p : Point) (n : ℕ) → CrossesRow r.0 (p.y -ℤ pos 1) n → ((high n).y ≡ p.y → ⊥) → CrossesRow r.0 p.y n
  goes_on p n h apart =
      let s = span r sound (p.y -ℤ pos 1) n h in
      crossing_row p.y n h.0 (omega (arith, linear, s.low))
      (⊎_elim (λ (less : p.y <ℤ (high n).y). less) (λ (same : p.y ≡ (high n).y). absurd (apart (sym same)))
      (below_or_same p.y ((high n).y) (omega (arith, linear, s.high))))

  came_on : (p : Point) (n : ℕ) → CrossesRow r.0 p.y n → ((low n).y ≡ p.y → ⊥) → CrossesRow r.0 (p.y -ℤ pos 1) n
  came_on p n h apart =
      let s = span r sound p.y n h in
      crossing_row (p.y -ℤ pos 1) n h.0
      (⊎_elim (λ (less : (low n).y <ℤ p.y). omega (arith, linear)) (λ (same : (low n).y ≡ p.y). absurd (apart same))
      (below_or_same ((low n).y) p.y s.low))
      (omega (arith, linear, s.high))

  -- ---- behind the last point of a row
  pub row_ends : (p : Point) (numbers : List ℕ) → IsPassed r p numbers → ((v : Point) → IsEndPoint r v → v.y ≡ p.y → v.x <ℤ p.x → ⊥)
      → AreRowEdges r.0 p.y numbers
  row_ends p numbers s none =
      let on : (n : ℕ) → Contains s.below n → CrossesRow r.0 p.y n =
      λ n m. let h = s.row_below.members n m in
      goes_on p n h (λ same. none (high n) (high_vertex n h.0) same (high_left p n (rises_of (p.y -ℤ pos 1) n h) same (s.left n m))) in
      let first = still_in_order r sound.rising sound.clean (p.y -ℤ pos 1) p.y s.below (omega (arith, linear)) s.row_below on in
      let all = joined_row r sound p p.y (beside_own r sound p) s.below s.above first s.row_above
      (λ m n in_m in_n. inr (s.left m in_m, s.right n in_n)) in
      record {
        exact = λ n. (
          λ m. all.members n (subst (λ ns. Contains ns n) s.joined m),
          λ h. subst (λ ns. Contains ns n) (sym s.joined) (contains (s.below ++ s.above) n (⊎_elim
              (λ (near : distance_from r p n <ℤ pos 0). has-append_left s.below s.above n (has s.below n (s.all_left n
              (came_on p n h (λ same. none (low n) (low_vertex n h.0) same (low_left p n (rises_of p.y n h) same near))) near)))
              (λ (far : pos 0 ≤ℤ distance_from r p n). has-append_right s.below s.above n (has s.above n (s.all_right n h far)))
              (below_or_not (distance_from r p n) (pos 0)))),
        );
        rising = subst (IsRising (IsLeftOf r.0 p.y)) (sym s.joined) all.rising;
      }

  -- ---- to a later row
  row_goes_on : (row row' : ℤ) (numbers : List ℕ) → row ≤ℤ row' → ((v : Point) → IsEndPoint r v → row <ℤ v.y → v.y ≤ℤ row' → ⊥)
      → AreRowEdges r.0 row numbers → AreRowEdges r.0 row' numbers
  row_goes_on row row' numbers later none h =
      let on : (n : ℕ) → Contains numbers n → CrossesRow r.0 row' n =
      λ n m. let c = (h.exact n).0 m in
      let s = span r sound row n c in
      crossing_row row' n c.0 (omega (arith, linear, s.low)) (⊎_elim (λ (less : row' <ℤ (high n).y). less)
      (λ (le : (high n).y ≤ℤ row'). absurd (none (high n) (high_vertex n c.0) s.high le))
      (below_or_not row' ((high n).y))) in
      let some = still_in_order r sound.rising sound.clean row row' numbers later
      (record { members = λ n. (h.exact n).0; rising = h.rising }) on in
      record {
        exact = λ n. (
          on n,
          λ c. let s = span r sound row' n c in
              (h.exact n).1 (crossing_row row n c.0 (⊎_elim
              (λ (less : row <ℤ (low n).y). absurd (none (low n) (low_vertex n c.0) less s.low))
              (λ (le : (low n).y ≤ℤ row). le) (below_or_not row ((low n).y)))
              (omega (arith, linear, s.high))),
        );
        rising = some.rising;
      }

  -- the first point of a row
  pub row_begins : (q : Point) (numbers : List ℕ) → AreRowEdges r.0 (q.y -ℤ pos 1) numbers
      → ((v : Point) → IsEndPoint r v → v.y ≡ q.y → q.x <ℤ v.x → ⊥) → IsStatus r q numbers
  row_begins q numbers h none =
      let some : AreSomeRowEdges r.0 (q.y -ℤ pos 1) numbers = record { members = λ n. (h.exact n).0; rising = h.rising } in
      let c = cut_row q numbers some in
      let both = subst (AreSomeRowEdges r.0 (q.y -ℤ pos 1)) c.joined some in
      let front = some_front (q.y -ℤ pos 1) c.front c.back both in
      let back = some_back (q.y -ℤ pos 1) c.front c.back both in
      let far : (n : ℕ) → Contains c.back n → pos 0 <ℤ distance_from r q n = λ n m. lt_true (pos 0) (distance_from r q n)
      (c.passes n (has c.back n m)) in
      let near : (n : ℕ) → Contains c.front n → distance_from r q n ≤ℤ pos 0 = λ n m. lt_false (pos 0) (distance_from r q n)
      (c.fails n (has c.front n m)) in
      let on : (n : ℕ) → Contains c.back n → CrossesRow r.0 q.y n =
      λ n m. let g = back.members n m in
      goes_on q n g (λ same. none (high n) (high_vertex n g.0) same (high_right q n (rises_of (q.y -ℤ pos 1) n g) same (far n m))) in
      record {
        below = c.front;
        above = c.back;
        joined = c.joined;
        row_below = front;
        row_above = still_in_order r sound.rising sound.clean (q.y -ℤ pos 1) q.y c.back (omega (arith, linear)) back on;
        left = near;
        right = far;
        all_left = λ n g le. in_front c n le ((h.exact n).1 g);
        all_right = λ n g less. in_back c n less ((h.exact n).1
            (came_on q n g (λ same. none (low n) (low_vertex n g.0) same (low_right q n (rises_of q.y n g) same less))));
      }
    where
      in_front : (c : IsCut (test q) numbers) (n : ℕ) → distance_from r q n ≤ℤ pos 0 → Contains numbers n → Contains c.front n
      in_front c n le m = ⊎_elim (λ (f : Has c.front n). contains c.front n f)
          (λ (f : Has c.back n). let less = lt_true (pos 0) (distance_from r q n) (c.passes n f) in absurd (omega (arith, linear)))
          (has-append c.front c.back n (has (c.front ++ c.back) n (subst (λ ns. Contains ns n) c.joined m)))

      in_back : (c : IsCut (test q) numbers) (n : ℕ) → pos 0 <ℤ distance_from r q n → Contains numbers n → Contains c.back n
      in_back c n less m = ⊎_elim
          (λ (f : Has c.front n). let le = lt_false (pos 0) (distance_from r q n) (c.fails n f) in absurd (omega (arith, linear)))
          (λ (f : Has c.back n). contains c.back n f)
          (has-append c.front c.back n (has (c.front ++ c.back) n (subst (λ ns. Contains ns n) c.joined m)))

  -- ---- to the next point of the row
  next_in_row : (p : Point) (x : ℤ) (numbers : List ℕ) → x <ℤ p.x → IsPassed r p numbers
      → ((v : Point) → IsEndPoint r v → v.y ≡ p.y → x <ℤ v.x → v.x <ℤ p.x → ⊥) → IsStatus r (beside p x) numbers
  next_in_row p x numbers less s none =
      let q : Point = beside p x in
      let c = cut_row q s.below s.row_below in
      let both = subst (AreSomeRowEdges r.0 (p.y -ℤ pos 1)) c.joined s.row_below in
      let front = some_front (p.y -ℤ pos 1) c.front c.back both in
      let back = some_back (p.y -ℤ pos 1) c.front c.back both in
      let of_back : (n : ℕ) → Contains c.back n → Contains s.below n =
      λ n m. subst (λ ns. Contains ns n) (sym c.joined)
      (contains (c.front ++ c.back) n (has-append_right c.front c.back n (has c.back n m))) in
      let far : (n : ℕ) → Contains c.back n → pos 0 <ℤ distance_from r q n = λ n m. lt_true (pos 0) (distance_from r q n)
      (c.passes n (has c.back n m)) in
      let on : (n : ℕ) → Contains c.back n → CrossesRow r.0 p.y n =
      λ n m. let g = back.members n m in
      let up = rises_of (p.y -ℤ pos 1) n g in
      goes_on p n g (λ same. none (high n) (high_vertex n g.0) same (high_right q n up same (far n m))
      (high_left p n up same (s.left n (of_back n m)))) in
      let passing = still_in_order r sound.rising sound.clean (p.y -ℤ pos 1) p.y c.back (omega (arith, linear)) back on in
      record {
        below = c.front;
        above = c.back ++ s.above;
        joined = s.joined ∙ ap (λ ns. ns ++ s.above) c.joined ∙ append_joined c.front c.back s.above;
        row_below = front;
        row_above = joined_row r sound p p.y (beside_own r sound p) c.back s.above passing s.row_above
            (λ m n in_m in_n. inr (s.left m (of_back m in_m), s.right n in_n));
        left = λ n m. lt_false (pos 0) (distance_from r q n) (c.fails n (has c.front n m));
        right = λ n m. ⊎_elim (λ (f : Has c.back n). far n (contains c.back n f))
            (λ (f : Has s.above n). let g = contains s.above n f in grown n (rises_of p.y n (s.row_above.members n g)) (s.right n g))
            (has-append c.back s.above n (has (c.back ++ s.above) n m));
        all_left = λ n g le. in_front c n le (s.all_left n g (shrunk n (rises_of (p.y -ℤ pos 1) n g) le));
        all_right = λ n g far'. contains (c.back ++ s.above) n (⊎_elim
            (λ (near : distance_from r p n <ℤ pos 0).
            let up = rises_of p.y n g in
            has-append_left c.back s.above n (has c.back n (in_back c n far' (s.all_left n
            (came_on p n g (λ same. none (low n) (low_vertex n g.0) same (low_right q n up same far') (low_left p n up same near))) near))))
            (λ (from : pos 0 ≤ℤ distance_from r p n). has-append_right c.back s.above n (has s.above n (s.all_right n g from)))
            (below_or_not (distance_from r p n) (pos 0)));
      }
    where
      grown : (n : ℕ) → (low n).y <ℤ (high n).y → pos 0 ≤ℤ distance_from r p n → pos 0 <ℤ distance_from r (beside p x) n
      grown n up from =
          let more = positive_product ((high n).y -ℤ (low n).y) (p.x -ℤ x) (omega (arith, linear)) (omega (arith, linear)) in
          omega (arith, linear, more, further_left p.x x p.y (low n) (high n))

      shrunk : (n : ℕ) → (low n).y <ℤ (high n).y → distance_from r (beside p x) n ≤ℤ pos 0 → distance_from r p n <ℤ pos 0
      shrunk n up le =
          let more = positive_product ((high n).y -ℤ (low n).y) (p.x -ℤ x) (omega (arith, linear)) (omega (arith, linear)) in
          omega (arith, linear, more, further_left p.x x p.y (low n) (high n))

      in_front : (c : IsCut (test (beside p x)) s.below) (n : ℕ) → distance_from r (beside p x) n ≤ℤ pos 0 → Contains s.below n
          → Contains c.front n
      in_front c n le m = ⊎_elim (λ (f : Has c.front n). contains c.front n f)
          (λ (f : Has c.back n). let far = lt_true (pos 0) (distance_from r (beside p x) n) (c.passes n f) in absurd
          (omega (arith, linear)))
          (has-append c.front c.back n (has (c.front ++ c.back) n (subst (λ ns. Contains ns n) c.joined m)))

      in_back : (c : IsCut (test (beside p x)) s.below) (n : ℕ) → pos 0 <ℤ distance_from r (beside p x) n → Contains s.below n
          → Contains c.back n
      in_back c n far m = ⊎_elim
          (λ (f : Has c.front n). let le = lt_false (pos 0) (distance_from r (beside p x) n) (c.fails n f) in absurd
          (omega (arith, linear)))
          (λ (f : Has c.back n). contains c.back n f)
          (has-append c.front c.back n (has (c.front ++ c.back) n (subst (λ ns. Contains ns n) c.joined m)))

  pub follows : (p q : Point) (numbers : List ℕ) → IsPassed r p numbers → IsNextPoint r p q → IsStatus r q numbers
  follows p q numbers s next = ⊎_elim
      (λ (row : (p.y ≡ q.y) × (q.x <ℤ p.x)).
      let same : beside p q.x ≡ q = same_point (beside p q.x) q refl row.0 in
      subst (λ v. IsStatus r v numbers) same (next_in_row p q.x numbers row.1 s (λ v h at from to.
      next.none v h (inl (sym at, to)) (inl (at ∙ row.0, from)))))
      (λ (later : p.y <ℤ q.y).
      row_begins q numbers
      (row_goes_on p.y (q.y -ℤ pos 1) numbers (omega (arith, linear)) (λ v h from to. next.none v h (inr from)
      (inr (omega (arith, linear))))
      (row_ends p numbers s (λ v h at left. next.none v h (inl (sym at, left)) (inr (omega (arith, linear, at))))))
      (λ v h at right. next.none v h (inr (omega (arith, linear, at))) (inl (at, right))))
      next.after

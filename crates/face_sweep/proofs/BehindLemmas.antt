-- What the edges of a row that are right of a place tell of it, in whatever part of a list they stand.
use Rattle.std.proofs.Common.{◌≡◌, inl, inr, ℕ, zero, suc, ◌+◌, ◌<◌, Bool, true, false, ◌&&◌, List, [], ◌∷◌}
use Rattle.std.proofs.Common.{length, get_or, drop, Contains, ℤ, pos, ◌-ℤ◌, ◌*ℤ◌, ◌<ℤ◌, refl, sym, ap, subst, ◌∙◌, arith}
use Rattle.std.specs.Cmp.{both_ways}
use Rattle.std.specs.Prelude.{nat_eq}
use Rattle.std.specs.List.{list_any}
use Rattle.std.proofs.lemmas.Bool.Decides.{Decides-eqb}
use Rattle.std.proofs.lemmas.List.{get_or_default}
use Rattle.lay_point.proofs.Signs.{linear}
use Rattle.lay_point.specs.declared.point.Point.{Point}
use Rattle.lay_point.specs.Parity.{parity, distance_right, is_crossed}
use Rattle.lay_point.specs.Rising.{IsRising}
use Rattle.lay_point.proofs.Members.{Has, contains, has}
use Rattle.lay_point.proofs.Parity.{parity_of_occurrences}
use Rattle.lay_point.proofs.Rising.{IsStrictOrder, before_rest, rising_rest}
use Rattle.lay_point.proofs.ListLaws.{has_get, has_number, number_has}
use Rattle.lay_point.proofs.NumberLaws.{numbers_are_strict}
use Rattle.face_side_laws.proofs.Rows.{IsInRow, crossed_spans, row_distance, row_k, row_place, row_x, row_y, spans_crossed}
use Rattle.face_rows.proofs.UpwardLemmas.{up_crossed, up_rises}
use Rattle.face_rows.proofs.JudgeLemmas.{IsBeforeIn, before_rising, before_strict, below_rising, by_number, nat_equality, numbers_from}
use Rattle.face_rows.proofs.JudgeLemmas.{numbers_have}
use Rattle.face_rows.proofs.OwnerLemmas.{parity_any}
use Rattle.face_rows.proofs.SideLemmas.{crossed_beside}
use Rattle.snap_chains.specs.declared.owner.Owner.{Owner}
use Rattle.face_sweep.proofs.OrderLemmas.{crosses}
use Rattle.face_rows.specs.Labels.{odd_of, owned_items}
use Rattle.face_rows.specs.Lines.{edge_at, nowhere, owned_item_at, owners_at}
use Rattle.snap_chains.specs.Rounded.{Owned, is_owner_listed}
use Rattle.face_rows.specs.Rows.{AreSomeRowEdges, CrossesRow, IsLeftOf, crosses_row, upward}
use Rattle.face_sweep.specs.Sides.{AreBehind, is_odd_in}
use Rattle.face_rows.specs.Sound.{AreSound}
use Rattle.face_sweep.proofs.LabelLemmas.{zip_at}
use Rattle.face_sweep.specs.Points.{IsPassed, IsStatus}
use Rattle.face_sweep.proofs.PointLemmas.{beside_own, in_order, span}

-- ---- the edges of a row that are right of a place
pub record AreRightOf (r : Owned) (row k x y : ℤ) (numbers : List ℕ) : Type 0 where
  pub rising : IsRising (IsBeforeIn r.0 row) numbers
  pub members : (n : ℕ) → Has numbers n → CrossesRow r.0 row n
  pub right : (n : ℕ) → Has numbers n → pos 0 <ℤ distance_right k x y (upward (edge_at r n)).0 (upward (edge_at r n)).1
  pub all : (n : ℕ) → CrossesRow r.0 row n → pos 0 <ℤ distance_right k x y (upward (edge_at r n)).0 (upward (edge_at r n)).1 → Has numbers n

module _ (r : Owned) (sound : AreSound r) (row k x y : ℤ) (place : IsInRow row k y) (numbers : List ℕ) (h : AreRightOf r row k x y numbers)
  where
    crossed : (n : ℕ) → n < length r.0 → parity (nat_eq n) numbers ≡ is_crossed k x y (edge_at r n)
    crossed n inside =
        parity_any (IsBeforeIn r.0 row) (before_strict r.0 row) (nat_eq n) numbers h.rising
        (λ l m b t. nat_equality.apart n m (λ same. (before_strict r.0 row).irreflexive l
        (subst (IsBeforeIn r.0 row l) (sym same ∙ (Decides-eqb n l).0 t) b)))
        ∙ both_ways (list_any (nat_eq n) numbers) (is_crossed k x y (edge_at r n))
        (λ t.
        let m = number_has numbers n t in
        sym (up_crossed k x y (edge_at r n))
        ∙ spans_crossed row k x y (upward (edge_at r n)) place (span r sound row n (h.members n m)) (h.right n m))
        (λ t.
        let c = crossed_spans row k x y (upward (edge_at r n)) place (up_rises (edge_at r n)) (up_crossed k x y (edge_at r n) ∙ t) in
        has_number numbers n (h.all n (
          inside,
          λ d. subst (λ (f : Point × Point). crosses_row row f ≡ true) (get_or_default r.0 n nowhere d inside)
              (crosses row (edge_at r n) c.0.low c.0.high),
        ) c.1))

    pub odd_right : (o : Owner) → is_odd_in r numbers o ≡ odd_of (owned_items r) o k x y
    odd_right o =
        sym (parity_of_occurrences (λ m n. m < n) numbers_are_strict nat_eq nat_equality
        (λ n. is_owner_listed o (owners_at r n)) (numbers_from 0 r.0) numbers (below_rising 0 r.0) given)
        ∙ by_number (λ p. is_owner_listed o p.1 && is_crossed k x y p.0)
        (λ n. parity (nat_eq n) numbers && is_owner_listed o (owners_at r n)) 0 r.0 r.1 sound.paired (λ i less.
        let same : 0 + i ≡ i = omega arith in
        ap (λ n. parity (nat_eq n) numbers && is_owner_listed o (owners_at r n)) same
        ∙ ap (λ b. b && is_owner_listed o (owners_at r i)) (crossed i less)
        ∙ and_turned (is_crossed k x y (edge_at r i)) (is_owner_listed o (owners_at r i)))
      where
        and_turned : (a b : Bool) → (a && b) ≡ (b && a)
        and_turned true true = refl
        and_turned true false = refl
        and_turned false true = refl
        and_turned false false = refl

        given : (n : ℕ) → Has numbers n → Has (numbers_from 0 r.0) n
        given n m =
            let same : 0 + n ≡ n = omega arith in
            subst (Has (numbers_from 0 r.0)) same (numbers_have 0 r.0 n (h.members n m).0)

-- ---- behind an edge of a list that is closed to the right
after : (xs : List ℕ) (i : ℕ) (n : ℕ) → Has (drop (suc i) xs) n → Has xs n
after [] i n m = absurd (none i m)
  where
    none : (i : ℕ) → Has (drop (suc i) []) n → ⊥
    none i m = m
after (x ∷ xs) zero n m = inr m
after (x ∷ xs) (suc i) n m = inr (after xs i n m)

rising_after : (Before : ℕ → ℕ → Type 0) (xs : List ℕ) (i : ℕ) → IsRising Before xs → IsRising Before (drop (suc i) xs)
rising_after Before [] i h = tt
rising_after Before (x ∷ xs) zero h = rising_rest Before x xs h
rising_after Before (x ∷ xs) (suc i) h = rising_after Before xs i (rising_rest Before x xs h)

-- what is behind an element comes after it, and what comes after it is behind it
behind_before : (Before : ℕ → ℕ → Type 0) → IsStrictOrder Before → (xs : List ℕ) (i n : ℕ) → i < length xs → IsRising Before xs
    → Has (drop (suc i) xs) n → Before (get_or xs i 0) n
behind_before Before laws [] i n less h m = absurd (omega arith)
behind_before Before laws (x ∷ xs) zero n less h m = before_rest Before laws x xs n h m
behind_before Before laws (x ∷ xs) (suc i) n less h m = behind_before Before laws xs i n (omega arith) (rising_rest Before x xs h) m

before_behind : (Before : ℕ → ℕ → Type 0) → IsStrictOrder Before → (xs : List ℕ) (i n : ℕ) → i < length xs → IsRising Before xs
    → Has xs n → Before (get_or xs i 0) n → Has (drop (suc i) xs) n
before_behind Before laws [] i n less h m b = absurd m
before_behind Before laws (x ∷ xs) zero n less h (inl same) b = absurd (laws.irreflexive x (subst (Before x) (sym same) b))
before_behind Before laws (x ∷ xs) zero n less h (inr m) b = m
before_behind Before laws (x ∷ xs) (suc i) n less h (inl same) b =
    absurd (laws.irreflexive x (laws.transitive x (get_or xs i 0) x
    (before_rest Before laws x xs (get_or xs i 0) h (has_get xs i 0 (omega arith))) (subst (Before (get_or xs i 0)) (sym same) b)))
before_behind Before laws (x ∷ xs) (suc i) n less h (inr m) b =
    before_behind Before laws xs i n (omega arith) (rising_rest Before x xs h) m b

-- a list of a row's edges that has with each of them those right of it
closed_behind : (r : Owned) (row : ℤ) (numbers : List ℕ) → AreSound r → AreSomeRowEdges r.0 row numbers
    → ((m n : ℕ) → Contains numbers m → CrossesRow r.0 row n → IsLeftOf r.0 row m n → Contains numbers n) → AreBehind r numbers
closed_behind r row numbers sound h closed i less o =
    let n = get_or numbers i 0 in
    let u = upward (edge_at r n) in
    let member : Contains numbers n = contains numbers n (has_get numbers i 0 less) in
    let cross = h.members n member in
    let own = span r sound row n cross in
    let rising = before_rising r.0 row numbers (λ m there. h.members m (contains numbers m there)) h.rising in
    let next : i + 1 ≡ suc i = omega arith in
    ap (λ j. is_odd_in r (drop j numbers) o) next
    ∙ odd_right r sound row (row_k u) (row_x row u) (row_y row u) (row_place row u own) (drop (suc i) numbers) (record {
      rising = rising_after (IsBeforeIn r.0 row) numbers i rising;
      members = λ m there. h.members m (contains numbers m (after numbers i m there));
      right = λ m there.
          let b = behind_before (IsBeforeIn r.0 row) (before_strict r.0 row) numbers i m less rising there in
          let left = b.left nowhere in
          omega (arith, linear, left, row_distance row u (upward (edge_at r m)));
      all = λ m c far.
          let v = upward (edge_at r m) in
          let left : IsLeftOf r.0 row n m = λ d.
          coe 0 1 (z. (row_k (upward (get_or_default r.0 m nowhere d c.0 z)) *ℤ row_x row
          (upward (get_or_default r.0 n nowhere d cross.0 z)))
          <ℤ (row_k (upward (get_or_default r.0 n nowhere d cross.0 z)) *ℤ row_x row (upward (get_or_default r.0 m nowhere d c.0 z))))
          (less_by (row_k v *ℤ row_x row u) (row_k u *ℤ row_x row v) (distance_right (row_k u) (row_x row u) (row_y row u) v.0 v.1) far
          (row_distance row u v)) in
          before_behind (IsBeforeIn r.0 row) (before_strict r.0 row) numbers i m less rising
          (has numbers m (closed n m member c left))
          (record { first = cross; second = c; left = left });
    }) o
    ∙ crossed_beside r sound.even sound.clean sound.lesser o (owned_item_at r n) (zip_at r.0 r.1 n sound.paired cross.0) row own
  where
    less_by : (a b d : ℤ) → pos 0 <ℤ d → pos 2 *ℤ d ≡ b -ℤ a → a <ℤ b
    less_by a b d far e = omega (arith, linear)

pub passed_behind : (r : Owned) (p : Point) (numbers : List ℕ) → AreSound r → (s : IsPassed r p numbers) → AreBehind r s.above
passed_behind r p numbers sound s =
    closed_behind r p.y s.above sound s.row_above (λ m n there c left.
    s.all_right n c ((in_order r sound p p.y (beside_own r sound p) m n (s.row_above.members m there) c left).from (s.right m there)))

pub status_behind : (r : Owned) (p : Point) (numbers : List ℕ) → AreSound r → (s : IsStatus r p numbers) → AreBehind r s.above
status_behind r p numbers sound s =
    closed_behind r p.y s.above sound s.row_above (λ m n there c left.
    s.all_right n c ((in_order r sound p p.y (beside_own r sound p) m n (s.row_above.members m there) c left).behind (s.right m there)))

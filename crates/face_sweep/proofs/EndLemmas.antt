-- Places as indices of points in the order of the sweep, and where edges begin and end in that order.
use Rattle.std.proofs.Common.{◌≡◌, ◌≢◌, ◌⊎◌, inl, inr, ⊎_elim, ℕ, ◌+◌, ◌*◌, ◌/◌, ◌%◌, ◌<◌, ◌≤◌, Bool, true, false, cond}
use Rattle.std.proofs.Common.{List, [], ◌∷◌, ◌++◌, Some, length, get_or, set, slice_get, Contains, refl, sym, ap}
use Rattle.std.proofs.Common.{subst, ◌∙◌, arith, ◌<ℤ◌}
use Rattle.std.specs.Prelude.{All, int_le, nat_eq, nat_le}
use Rattle.std.specs.Cmp.{IsTotalOrder, nat_cmp_is}
use Rattle.std.specs.List.{AllByRecursion, IsDistinct, zip}
use Rattle.std.specs.List.Sorted.{IsPermutation, IsSorted}
use Rattle.std.specs.Ordering.{is_lt}
use Rattle.std.specs.declared.cmp.Ordering.TheVariants.{Less}
use Rattle.std.proofs.lemmas.Bool.{cases_eq, cases_lt}
use Rattle.std.proofs.lemmas.Bool.Decides.{Decides-eqb, nat_tests}
use Rattle.std.proofs.lemmas.Cmp.{nat_cmp_total, on_total}
use Rattle.std.proofs.lemmas.Grind.{get_or-set_at}
use Rattle.std.proofs.lemmas.Int.{ints}
use Rattle.std.proofs.lemmas.List.{get_or-map, get_or-set_other, get_or_default, length-map, length-set}
use Rattle.std.proofs.lemmas.List.Elements.{Contains-append_left, Contains-append_right}
use Rattle.std.proofs.lemmas.List.Sorted.{All-permutation, Contains-permutation, IsPermutation-map, ranks_by, sorted_far}
use Rattle.std.proofs.lemmas.Map.Keys.{IsDistinct-IsPermutation}
use Rattle.std.proofs.lemmas.Map.Made.{AllPairs-from_IsDistinct}
use Rattle.std.proofs.lemmas.Option.{get_or_from_slice_get, slice_get_within}
use Rattle.std.proofs.lemmas.Slice.Zip.{firsts-zip, get_or-zip}
use Rattle.lay_point.specs.declared.point.Point.{Point}
use Rattle.lay_point.specs.Rising.{IsRising}
use Rattle.lay_point.proofs.Members.{Has, contains, has-append}
use Rattle.lay_point.proofs.Rising.{IsStrictOrder}
use Rattle.lay_point.proofs.ListLaws.{before_by_number, has_get}
use Rattle.snap_chains.specs.RowOrder.{AreInRowOrder, IsSpanOf}
use Rattle.snap_chains.specs.declared.row_order.Span.{Span}
use Rattle.face_rows.specs.Lines.{nowhere}
use Rattle.face_rows.specs.Picked.{picked}
use Rattle.face_rows.specs.Rows.{upward}
use Rattle.face_rows.proofs.PickedLemmas.{picked_has, picked_of}
use Rattle.face_sweep.specs.Points.{IsAfter}
use Rattle.face_sweep.specs.Ends.{AreBegins, AreFlagged, ArePlacesInOrder, AreTopFlags, AreTops, EndsAt, IsBeginOf, IsNoLater, IsSooner}
use Rattle.face_sweep.specs.Ends.{begin_cmp, begin_number, begin_numbers, begin_of, begin_place, begin_places, edge_begins, is_level}
use Rattle.face_sweep.specs.Ends.{level_part, point_at, upward_span}
use Rattle.face_sweep.specs.declared.ends.Begin.{Begin}
use Rattle.face_sweep.specs.declared.ends.Place.{Place}

all_has : {A : Type 0} (P : A → Type 0) (xs : List A) → ((x : A) → Has xs x → P x) → All P xs
all_has P xs f k d less = f (get_or xs k d) (has_get xs k d less)

pub rising_push : {A : Type 0} (R : A → A → Type 0) (xs : List A) (x : A) → IsRising R xs → ((y : A) → Has xs y → R y x)
    → IsRising R (xs ++ x ∷ [])
rising_push R [] x h b = tt
rising_push R (y ∷ []) x h b = (b y (inl refl), tt)
rising_push R (y ∷ z ∷ zs) x h b = (h.0, rising_push R (z ∷ zs) x h.1 (λ v m. b v (inr m)))

-- ---- the order of the sweep
-- the order of rows is that of the sweep
pub rows_after : (ps : List Point) → IsRising (λ p q. (p.y <ℤ q.y) ⊎ ((p.y ≡ q.y) × (q.x <ℤ p.x))) ps → IsRising IsAfter ps
rows_after [] h = tt
rows_after (p ∷ []) h = tt
rows_after (p ∷ q ∷ ps) h =
    (⊎_elim (λ (up : p.y <ℤ q.y). inr up) (λ (row : (p.y ≡ q.y) × (q.x <ℤ p.x)). inl row) h.0, rows_after (q ∷ ps) h.1)

pub after_irreflexive : (p : Point) → IsAfter p p → ⊥
after_irreflexive p (inl h) = let lt = h.1 in omega (arith, ints, lt)
after_irreflexive p (inr lt) = omega (arith, ints, lt)

after_transitive : (p q v : Point) → IsAfter p q → IsAfter q v → IsAfter p v
after_transitive p q v (inl a) (inl b) = inl (a.0 ∙ b.0, omega (arith, ints, a.1, b.1))
after_transitive p q v (inl a) (inr b) = inr (omega (arith, ints, a.0, b))
after_transitive p q v (inr a) (inl b) = inr (omega (arith, ints, a, b.0))
after_transitive p q v (inr a) (inr b) = inr (omega (arith, ints, a, b))

pub after_is_strict : IsStrictOrder IsAfter
after_is_strict = record { irreflexive = after_irreflexive; transitive = after_transitive }

pub sooner_irreflexive : (a : Place) → IsSooner a a → ⊥
sooner_irreflexive a lt = omega (arith, lt)

sooner_transitive : (a b c : Place) → IsSooner a b → IsSooner b c → IsSooner a c
sooner_transitive a b c h g = omega (arith, h, g)

sooner_is_strict : IsStrictOrder IsSooner
sooner_is_strict = record { irreflexive = sooner_irreflexive; transitive = sooner_transitive }

pub sooner_upto : (a b c : Place) → IsSooner a b → IsNoLater b c → IsSooner a c
sooner_upto a b c h (inl same) = subst (IsSooner a) same h
sooner_upto a b c h (inr g) = sooner_transitive a b c h g

pub no_later_transitive : (a b c : Place) → IsNoLater a b → IsNoLater b c → IsNoLater a c
no_later_transitive a b c (inl same) g = subst (λ z. IsNoLater z c) (sym same) g
no_later_transitive a b c (inr h) g = inr (sooner_upto a b c h g)

pub no_later_both : (a b : Place) → IsNoLater a b → IsNoLater b a → a ≡ b
no_later_both a b (inl same) g = same
no_later_both a b (inr h) g = absurd (sooner_irreflexive a (sooner_upto a b a h g))

sooner_or_not : (a b : Place) → IsSooner a b ⊎ IsNoLater b a
sooner_or_not a b = ⊎_elim
    (λ (less : a.key < b.key). inl less)
    (λ (ge : b.key ≤ a.key). ⊎_elim
    (λ (more : b.key < a.key). inr (inr more))
    (λ (le : a.key ≤ b.key). inr (inl (let same : b.key ≡ a.key = omega arith in λ i. record { key = same i })))
    (cases_lt b.key a.key))
    (cases_lt a.key b.key)

-- ---- places and their points
abbrev pub AreInside : List Point → List Place → Type 0
AreInside swept = All (λ q. q.key < length swept)

module _ (swept : List Point) (rising : IsRising IsAfter swept) where
  pub sooner_after : (a b : Place) → b.key < length swept → IsSooner a b → IsAfter (point_at swept a) (point_at swept b)
  sooner_after a b inside less = before_by_number IsAfter after_is_strict swept a.key b.key nowhere.0 rising less inside

  same_from : (a b : Place) → a.key < length swept → point_at swept a ≡ point_at swept b → IsNoLater b a → a ≡ b
  same_from a b in_a same (inl is) = sym is
  same_from a b in_a same (inr less) =
      absurd (after_irreflexive (point_at swept a) (subst (λ z. IsAfter z (point_at swept a)) (sym same) (sooner_after b a in_a less)))

  -- at one point there is one place
  pub same_place : (a b : Place) → a.key < length swept → b.key < length swept → point_at swept a ≡ point_at swept b → a ≡ b
  same_place a b in_a in_b same = ⊎_elim
      (λ (less : IsSooner a b). sym (same_from b a in_b (sym same) (inr less)))
      (λ (upto : IsNoLater b a). same_from a b in_a same upto)
      (sooner_or_not a b)

-- ---- sorted begins
begin_cmp_total : IsTotalOrder begin_cmp
begin_cmp_total = on_total (λ (b : Begin). b.key) nat_cmp_total

module _ (begins : List Begin) (sorted : IsSorted begin_cmp begins) where
  keys_in_order : (i j : ℕ) (d : Begin) → i ≤ j → j < length begins → (get_or begins i d).key ≤ (get_or begins j d).key
  keys_in_order i j d le less = ⊎_elim
      (λ (below : (get_or begins j d).key < (get_or begins i d).key).
      let up = sorted_far (λ a b. is_lt (begin_cmp a b)) (ranks_by begin_cmp_total (λ b. b)) begins sorted i j d le less in
      let down = ap is_lt (sym (nat_cmp_is (get_or begins j d).key (get_or begins i d).key Less below)) in
      absurd cc)
      (λ (upto : (get_or begins i d).key ≤ (get_or begins j d).key). upto)
      (cases_lt (get_or begins j d).key (get_or begins i d).key)

  pub begins_in_order : ArePlacesInOrder (begin_places begins)
  begins_in_order i j p le less =
      let d : Begin = record { key = 0 } in
      let inside : j < length begins = omega (arith, length-map begins begin_place) in
      let before : i < length begins = omega arith in
      let at_i = get_or-map begin_place begins i d p before in
      let at_j = get_or-map begin_place begins j d p inside in
      coe 1 0 (z. IsNoLater (at_i z) (at_j z)) (ordered (get_or begins i d) (get_or begins j d) (keys_in_order i j d le inside))
    where
      ordered : (a b : Begin) → a.key ≤ b.key → IsNoLater (begin_place a) (begin_place b)
      ordered a b le = ⊎_elim
          (λ (below : IsSooner (begin_place b) (begin_place a)). absurd (omega (arith, le, below)))
          (λ (not_below : IsNoLater (begin_place a) (begin_place b)). not_below)
          (sooner_or_not (begin_place b) (begin_place a))

  pub levels_last : (i j : ℕ) (d : Begin) → i ≤ j → j < length begins → begin_place (get_or begins i d) ≡ begin_place (get_or begins j d)
      → is_level (get_or begins i d) ≡ true → is_level (get_or begins j d) ≡ true
  levels_last i j d le less same level =
      later_level (get_or begins i d).key (get_or begins j d).key (keys_in_order i j d le less) (ap (λ (q : Place). q.key) same) level
    where
      later_level : (a b : ℕ) → a ≤ b → a / 4294967296 ≡ b / 4294967296 → nat_le 2147483648 (a % 4294967296) ≡ true
          → nat_le 2147483648 (b % 4294967296) ≡ true
      later_level a b le same level = grind (arith, nat_tests, le, same, level)

-- ---- the place, the level part and the number that a key is made of
key_number : (place : ℕ) (level : Bool) (n : ℕ) → n < 2147483648 → (place * 4294967296 + level_part level + n) % 2147483648 ≡ n
key_number place true n small = omega (arith, small)
key_number place false n small = omega (arith, small)

key_place : (place : ℕ) (level : Bool) (n : ℕ) → n < 2147483648 → (place * 4294967296 + level_part level + n) / 4294967296 ≡ place
key_place place true n small = omega (arith, small)
key_place place false n small = omega (arith, small)

key_level : (place : ℕ) (level : Bool) (n : ℕ) → n < 2147483648
    → nat_le 2147483648 ((place * 4294967296 + level_part level + n) % 4294967296) ≡ level
key_level place true n small = grind (arith, nat_tests, small)
key_level place false n small = grind (arith, nat_tests, small)

abbrev SpannedEdge : Type 0
SpannedEdge = (Point × Point) × Span

number_back : (n : ℕ) (p : SpannedEdge) → n < 2147483648 → begin_number (begin_of n p) ≡ n
number_back n p small = key_number (upward_span p.0 p.1).0 (int_le (upward p.0).1.y (upward p.0).0.y) n small

-- ---- each edge once
abbrev picked_begins : ℕ → List SpannedEdge → List Begin
picked_begins n ps = picked (λ p. true) begin_of n ps

numbers_after : (n : ℕ) (ps : List SpannedEdge) (m : ℕ) → m < n → n + length ps ≤ 2147483648
    → AllByRecursion (λ k. nat_eq m k ≡ false) (begin_numbers (picked_begins n ps))
numbers_after n [] m less small = tt
numbers_after n (p ∷ ps) m less small = (
  (let back = number_back n p (omega (arith, small)) in grind (arith, nat_tests, back)),
  numbers_after (n + 1) ps m (omega arith) (omega (arith, small)),
)

numbers_distinct : (n : ℕ) (ps : List SpannedEdge) → n + length ps ≤ 2147483648 → IsDistinct nat_eq (begin_numbers (picked_begins n ps))
unfolding IsDistinct
numbers_distinct n [] small = tt
numbers_distinct n (p ∷ ps) small = (
  subst (λ m. AllByRecursion (λ k. nat_eq m k ≡ false) (begin_numbers (picked_begins (n + 1) ps)))
      (sym (number_back n p (omega (arith, small)))) (numbers_after (n + 1) ps n (omega arith) (omega (arith, small))),
  numbers_distinct (n + 1) ps (omega (arith, small)),
)

pub flips : (m n : ℕ) → nat_eq m n ≡ nat_eq n m
flips m n = grind (arith, nat_tests)

-- a number of the list is that of one of its elements
pub number_in : (xs : List Begin) (n k : ℕ) (d : Begin) → k < length xs → begin_number (get_or xs k d) ≡ n → Contains (begin_numbers xs) n
number_in xs n k d less same =
    (k, omega (arith, length-map xs begin_number), get_or-map begin_number xs k d n less ∙ same)

-- ---- the ends of an edge among the points
module _ (points : List Point) (e : Point × Point) (s : Span) (h : IsSpanOf points e s) where
  low_at : (t : Bool) → slice_get points (cond {A = ℕ × ℕ} t (s.low, s.high) (s.high, s.low)).0
      ≡ Some (cond {A = Point × Point} t e (e.1, e.0)).0
  low_at true = h.low
  low_at false = h.high

  high_at : (t : Bool) → slice_get points (cond {A = ℕ × ℕ} t (s.low, s.high) (s.high, s.low)).1
      ≡ Some (cond {A = Point × Point} t e (e.1, e.0)).1
  high_at true = h.high
  high_at false = h.low

  low_inside : (upward_span e s).0 < length points
  low_inside = slice_get_within points (upward_span e s).0 (upward e).0 (low_at (int_le e.0.y e.1.y))

  low_point : get_or points (upward_span e s).0 nowhere.0 ≡ (upward e).0
  low_point = get_or_from_slice_get points (upward_span e s).0 (upward e).0 nowhere.0 (low_at (int_le e.0.y e.1.y))

  high_inside : (upward_span e s).1 < length points
  high_inside = slice_get_within points (upward_span e s).1 (upward e).1 (high_at (int_le e.0.y e.1.y))

  high_point : get_or points (upward_span e s).1 nowhere.0 ≡ (upward e).1
  high_point = get_or_from_slice_get points (upward_span e s).1 (upward e).1 nowhere.0 (high_at (int_le e.0.y e.1.y))

pub zip_length : (es : List (Point × Point)) (spans : List Span) → length spans ≡ length es → length (zip es spans) ≡ length es
zip_length es spans same = sym (length-map (zip es spans) (λ (p : SpannedEdge). p.0)) ∙ ap length (firsts-zip es spans same)

abbrev pub any_span : Span
any_span = record { low = 0; high = 0 }

module _ (es : List (Point × Point)) (order : List Point × List Span) (h : AreInRowOrder es order) where
  begin_own : (n : ℕ) (s : Span) → n < length es → n < 2147483648
      → IsBeginOf order.0 es (begin_of n (get_or es n nowhere, get_or order.1 n s))
  begin_own n s less small =
      let e = get_or es n nowhere in
      let x = get_or order.1 n s in
      let span = h.spanned n nowhere s less in
      let level = int_le (upward e).1.y (upward e).0.y in
      let number : begin_number (begin_of n (e, x)) ≡ n = number_back n (e, x) small in
      let place = key_place (upward_span e x).0 level n small in
      record {
        given = subst (λ k. k < length es) (sym number) less;
        inside = subst (λ k. k < length order.0) (sym place) (low_inside order.0 e x span);
        point = ap (λ k. get_or order.0 k nowhere.0) place ∙ low_point order.0 e x span
            ∙ ap (λ k. (upward (get_or es k nowhere)).0) (sym number);
        level = key_level (upward_span e x).0 level n small
            ∙ ap (λ k. int_le (upward (get_or es k nowhere)).1.y (upward (get_or es k nowhere)).0.y) (sym number);
      }

  as_zipped : length (zip es order.1) ≡ length es
  as_zipped = zip_length es order.1 h.as_many

  -- where the edges begin, sorted
  pub are_begins : (begins : List Begin) → length es ≤ 2147483648 → IsPermutation (edge_begins es order.1) begins
      → IsSorted begin_cmp begins → AreBegins order.0 es begins
  are_begins begins small moved sorted =
      let ps = zip es order.1 in
      let made = edge_begins es order.1 in
      record {
        own = All-permutation (IsBeginOf order.0 es) made begins moved (all_has (IsBeginOf order.0 es) made (λ b m.
            let p = picked_of (λ z. true) begin_of 0 ps b m in
            let inside : p.index < length es = subst (λ k. p.index < k) as_zipped p.inside in
            let both : p.index < length order.1 = subst (λ k. p.index < k) (sym h.as_many) inside in
            let zero_more : p.index ≡ 0 + p.index = omega arith in
            let at = get_or-zip es order.1 p.index (nowhere, any_span) inside both in
            subst (IsBeginOf order.0 es) ((λ i. begin_of (zero_more i) (sym at i)) ∙ p.is (nowhere, any_span))
            (begin_own p.index any_span inside (omega (arith, small, inside)))));
        all = λ n given.
            let d : SpannedEdge = (nowhere, any_span) in
            let inside : n < length ps = subst (λ k. n < k) (sym as_zipped) given in
            let b = begin_of (0 + n) (get_or ps n d) in
            let back : begin_number b ≡ n = number_back (0 + n) (get_or ps n d) (omega (arith, small, given)) ∙ omega arith in
            let m = Contains-permutation made begins b moved (contains made b (picked_has (λ z. true) begin_of 0 ps n d inside refl)) in
            number_in begins n m.0 b m.1 (ap begin_number m.2 ∙ back);
        order = begins_in_order begins sorted;
        levels = levels_last begins sorted;
        apart = AllPairs-from_IsDistinct Decides-eqb (begin_numbers begins)
            (IsDistinct-IsPermutation nat_eq flips (begin_numbers made) (begin_numbers begins)
            (IsPermutation-map begin_number made begins moved) (numbers_distinct 0 ps (omega (arith, small, as_zipped))));
      }

  -- the places that are flagged, if those are at which edges end
  pub are_tops : (flags : List Bool) (tops : List Place) → length flags ≡ length order.0 → AreTopFlags es order.1 flags
      → AreFlagged flags tops → AreTops order.0 es tops
  are_tops flags tops as_many ends flagged = record {
    own = λ k d less.
        let q = get_or tops k d in
        let f = flagged.own k d less in
        let e = ends.some q.key true f.0 (f.1 true) in
        record {
          number = e.number;
          given = e.given;
          inside = subst (λ m. q.key < m) as_many f.0;
          point = ap (λ m. get_or order.0 m nowhere.0) (sym (e.at any_span))
              ∙ high_point order.0 (get_or es e.number nowhere) (get_or order.1 e.number any_span)
              (h.spanned e.number nowhere any_span e.given);
        };
    all = λ n given.
        let e = get_or es n nowhere in
        let s = get_or order.1 n any_span in
        let span = h.spanned n nowhere any_span given in
        let high = (upward_span e s).1 in
        let inside : high < length flags = subst (λ m. high < m) (sym as_many) (high_inside order.0 e s span) in
        (record { key = high }, flagged.all high true inside (ends.all n any_span true given), high_point order.0 e s span);
    order = flagged.order;
  }

-- ---- flags of the places at which the edges before a number end
pub record AreTopFlagsTo (points : List Point) (es : List (Point × Point)) (spans : List Span) (n : ℕ) (flags : List Bool) : Type 0 where
  pub len : length flags ≡ length points
  pub some : (k : ℕ) (d : Bool) → k < length flags → get_or flags k d ≡ true → EndsAt es spans k
  pub all : (m : ℕ) (s : Span) (d : Bool) → m < n → get_or flags (upward_span (get_or es m nowhere) (get_or spans m s)).1 d ≡ true

-- the place at which the edge ends has a flag
pub top_inside : (es : List (Point × Point)) (order : List Point × List Span) → AreInRowOrder es order → (spans : List Span)
    → spans ≡ order.1 → (n : ℕ) (e : Point × Point) (flags : List Bool) → n < length es → e ≡ get_or es n e → length flags ≡ length order.0
    → (upward_span e (get_or spans n any_span)).1 < length flags
top_inside es order h spans same n e flags less is as_many =
    let s = get_or spans n any_span in
    let span : IsSpanOf order.0 e s = coe 1 0 (i. IsSpanOf order.0 (is i) (get_or (same i) n any_span)) (h.spanned n e any_span less) in
    subst (λ k. (upward_span e s).1 < k) (sym as_many) (high_inside order.0 e s span)

pub one_more_flag : (points : List Point) (es : List (Point × Point)) (spans : List Span) (n : ℕ) (flags : List Bool) (e : Point × Point)
    (d_s : Span) → n < length es → n < length spans → e ≡ get_or es n e → (upward_span e (get_or spans n d_s)).1 < length flags
    → AreTopFlagsTo points es spans n flags → AreTopFlagsTo points es spans (n + 1) (set flags (upward_span e (get_or spans n d_s)).1 true)
one_more_flag points es spans n flags e d_s less less_s is_e inside h = record {
  len = length-set flags high true ∙ h.len;
  some = λ k d lt flag. ⊎_elim
      (λ (same : high ≡ k). record { number = n; given = less; at = λ x. here x ∙ same })
      (λ (other : high ≢ k). h.some k d (subst (λ m. k < m) (length-set flags high true) lt)
      (sym (get_or-set_other flags high k true d (λ z. other (sym z))) ∙ flag))
      (cases_eq high k);
  all = λ m x d lt. ⊎_elim
      (λ (before : m < n). kept (upward_span (get_or es m nowhere) (get_or spans m x)).1 d (h.all m x d before))
      (λ (ge : n ≤ m).
      let same : m ≡ n = omega arith in
      get_or-set_at flags high (upward_span (get_or es m nowhere) (get_or spans m x)).1 true d
      (ap (λ k. (upward_span (get_or es k nowhere) (get_or spans k x)).1) same ∙ here x) inside)
      (cases_lt m n);
}
  where
    high : ℕ
    high = (upward_span e (get_or spans n d_s)).1

    here : (x : Span) → (upward_span (get_or es n nowhere) (get_or spans n x)).1 ≡ high
    here x =
        let edge = is_e ∙ get_or_default es n e nowhere less in
        let span = get_or_default spans n x d_s less_s in
        λ i. (upward_span (sym edge i) (span i)).1

    kept : (k : ℕ) (d : Bool) → get_or flags k d ≡ true → get_or (set flags high true) k d ≡ true
    kept k d flag = ⊎_elim
        (λ (same : k ≡ high). get_or-set_at flags high k true d same inside)
        (λ (other : k ≢ high). get_or-set_other flags high k true d other ∙ flag)
        (cases_eq k high)

-- ---- those places before a number that are flagged
pub record AreFlaggedTo (flags : List Bool) (n : ℕ) (places : List Place) : Type 0 where
  pub own : (q : Place) → Has places q → (q.key < n) × (q.key < length flags) × ((d : Bool) → get_or flags q.key d ≡ true)
  pub all : (k : ℕ) (d : Bool) → k < n → get_or flags k d ≡ true → Contains places (record { key = k })
  pub rising : IsRising IsSooner places

module _ (flags : List Bool) (n : ℕ) (places : List Place) (less : n < length flags) (h : AreFlaggedTo flags n places) where
  pub one_more_flagged : get_or flags n false ≡ true → AreFlaggedTo flags (n + 1) (places ++ record { key = n } ∷ [])
  one_more_flagged flag = record {
    own = λ q m. ⊎_elim
        (λ (old : Has places q). let g = h.own q old in (omega (arith, g.0), g.1, g.2))
        (λ (new : Has (here ∷ []) q). subst
        (λ (z : Place). (z.key < n + 1) × (z.key < length flags) × ((d : Bool) → get_or flags z.key d ≡ true)) (only q new)
        (omega arith, less, λ d. get_or_default flags n d false less ∙ flag))
        (has-append places (here ∷ []) q m);
    all = λ k d lt flag_k. ⊎_elim
        (λ (before : k < n). Contains-append_left places (here ∷ []) (record { key = k }) (h.all k d before flag_k))
        (λ (ge : n ≤ k).
        let same : n ≡ k = omega arith in
        Contains-append_right places (here ∷ []) (record { key = k })
        (contains (here ∷ []) (record { key = k }) (inl (λ i. record { key = same i }))))
        (cases_lt k n);
    rising = rising_push IsSooner places here h.rising (λ q m. (h.own q m).0);
  }
    where
      here : Place
      here = record { key = n }

      only : (q : Place) → Has (here ∷ []) q → here ≡ q
      only q (inl same) = same
      only q (inr none) = absurd none

  pub none_more_flagged : get_or flags n false ≡ false → AreFlaggedTo flags (n + 1) places
  none_more_flagged no_flag = record {
    own = λ q m. let g = h.own q m in (omega (arith, g.0), g.1, g.2);
    all = λ k d lt flag_k. ⊎_elim
        (λ (before : k < n). h.all k d before flag_k)
        (λ (ge : n ≤ k).
        let same : n ≡ k = omega arith in
        let clash : false ≡ true =
        sym no_flag ∙ get_or_default flags n false d less ∙ ap (λ m. get_or flags m d) same ∙ flag_k in
        absurd cc)
        (cases_lt k n);
    rising = h.rising;
  }

pub are_flagged : (flags : List Bool) (n : ℕ) (places : List Place) → AreFlaggedTo flags n places → length flags ≤ n
    → AreFlagged flags places
are_flagged flags n places h done = record {
  own = λ k d less. let g = h.own (get_or places k d) (has_get places k d less) in (g.1, g.2);
  all = λ k d less flag. h.all k d (omega (arith, less, done)) flag;
  order = λ i j d le less. ⊎_elim
      (λ (lt : i < j). inr (before_by_number IsSooner sooner_is_strict places i j d h.rising lt less))
      (λ (ge : j ≤ i). inl (let same : i ≡ j = omega arith in ap (λ k. get_or places k d) same))
      (cases_lt i j);
}

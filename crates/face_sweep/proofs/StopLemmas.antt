-- The stops that are made of the places at which edges begin and end.
use Rattle.std.proofs.Common.{◌≡◌, ◌≢◌, inl, inr, ⊎_elim, ℕ, zero, suc, ◌+◌, ◌-◌, ◌<◌, ◌≤◌, true, false}
use Rattle.std.proofs.Common.{List, [], ◌∷◌, ◌++◌}
use Rattle.std.proofs.Common.{add-one, append_assoc, length, get_or, map, take, drop, Contains, ℤ, ◌<ℤ◌, ◌≤ℤ◌, refl, sym}
use Rattle.std.proofs.Common.{ap, subst, ◌∙◌, arith}
use Rattle.std.specs.Prelude.{All, int_lt, nat_eq, slice_range}
use Rattle.std.specs.List.{AllByRecursion, AllPairs, IsDistinct}
use Rattle.std.specs.List.Sorted.{IsPartitionedBy, IsPermutation, IsSortedBy}
use Rattle.std.proofs.lemmas.Bool.{cases_lt}
use Rattle.std.proofs.lemmas.Bool.Decides.{Decides-eqb}
use Rattle.std.proofs.lemmas.Int.{ints}
use Rattle.std.proofs.lemmas.List.{drop-append-le, get_or-map, get_or_default, length-append, length-drop}
use Rattle.std.proofs.lemmas.List.{length-map, length-take-le, map-append, map_more, take-append-le, take_all}
use Rattle.std.proofs.lemmas.List.Elements.{All-push, Contains-append_cases, Contains-append_left, Contains-append_right}
use Rattle.std.proofs.lemmas.List.Elements.{recursion_from_All}
use Rattle.std.proofs.lemmas.List.Sorted.{All-permutation, Contains-permutation, IsPermutation-map, IsPermutation-sym}
use Rattle.std.proofs.lemmas.Map.Keys.{IsDistinct-IsPermutation}
use Rattle.std.proofs.lemmas.Map.Made.{IsDistinct-from_AllPairs}
use Rattle.std.proofs.Math.Seq.{drop-append_seam}
use Rattle.lay_point.specs.declared.point.Point.{Point}
use Rattle.lay_point.specs.Edges.{IsEdgeBefore}
use Rattle.lay_point.specs.Rising.{IsRising}
use Rattle.lay_point.proofs.Members.{contains, has}
use Rattle.lay_point.proofs.Signs.{linear}
use Rattle.lay_point.proofs.Tests.{le_false, le_true, lt_true, true_lt}
use Rattle.lay_point.proofs.ListLaws.{before_by_number, get_or-slice_range}
use Rattle.snap_chains.specs.Rounded.{AreClean, Owned}
use Rattle.snap_chains.proofs.ListLemmas.{map-range}
use Rattle.face_rows.specs.Crossings.{IsCrossingOf}
use Rattle.face_rows.specs.Lines.{edge_at, nowhere}
use Rattle.face_rows.specs.Rows.{CrossesRow, IsLeftOf, crosses_row, crossing, rise, upward}
use Rattle.face_rows.specs.declared.crossing.Crossing.{Crossing}
use Rattle.face_rows.proofs.RowLemmas.{is_left, left_of, spans_of}
use Rattle.face_rows.proofs.UpwardLemmas.{up_rises}
use Rattle.face_sweep.proofs.OrderLemmas.{crosses}
use Rattle.face_sweep.proofs.EndLemmas.{AreInside, after_irreflexive, after_is_strict, flips, no_later_both, no_later_transitive}
use Rattle.face_sweep.proofs.EndLemmas.{number_in, rising_push, same_place, sooner_after, sooner_irreflexive, sooner_upto}
use Rattle.face_sweep.specs.Points.{HasHigh, HasLow, IsAfter, IsEndPoint, IsLevelFrom}
use Rattle.face_sweep.specs.Stops.{AreRisers, AreStops, BeginAt, IsBegunGroup, IsExtended, IsFirstLevel}
use Rattle.face_sweep.specs.Stops.{IsHead, IsHeadUpTo, IsNextPlace, IsPlaceRun, IsWithRisers}
use Rattle.face_sweep.specs.Ends.{AreBegins, ArePlacesInOrder, AreTops, IsBeginOf, IsNoLater, IsSooner}
use Rattle.face_sweep.specs.Ends.{begin_number, begin_numbers, begin_place, begin_places, is_level, point_at}
use Rattle.face_sweep.specs.declared.ends.Begin.{Begin}
use Rattle.face_sweep.specs.declared.ends.Place.{Place}
use Rattle.face_sweep.specs.declared.stops.Stop.{Stop}
use Rattle.face_sweep.specs.declared.stops.Stops.{Stops}

any : Begin
any = record { key = 0 }

-- the place of the item at the index
pub place_at : {T : Type 0} (place_of : T → Place) (items : List T) (i : ℕ) (x : T) (q : Place) → i < length items
    → x ≡ get_or items i x → q ≡ place_of x → (d : Place) → q ≡ get_or (map place_of items) i d
place_at place_of items i x q less is at d = at ∙ ap place_of is ∙ sym (get_or-map place_of items i x d less)

-- ---- a run of one place
pub run_more : (places : List Place) (from to : ℕ) (p : Place) → ArePlacesInOrder places → IsHeadUpTo places from p
    → from ≤ to → to < length places
    → ((d : Place) → IsNoLater (get_or places to d) p) → ((k : ℕ) (d : Place) → from ≤ k → k < to → get_or places k d ≡ p)
    → (k : ℕ) (d : Place) → from ≤ k → k < to + 1 → get_or places k d ≡ p
run_more places from to p order ahead le less here so_far k d ge lt = ⊎_elim
    (λ (before : k < to). so_far k d ge before)
    (λ (at : to ≤ k).
    let same : to ≡ k = omega arith in
    subst (λ j. get_or places j d ≡ p) same
    (no_later_both (get_or places to d) p (here d)
    (no_later_transitive p (get_or places from d) (get_or places to d) (ahead d (omega arith)) (order from to d le less))))
    (cases_lt k to)

pub run_behind : (places : List Place) (to : ℕ) (p : Place) → ArePlacesInOrder places
    → ((d : Place) → to < length places → IsSooner p (get_or places to d))
    → (k : ℕ) (d : Place) → to ≤ k → k < length places → IsSooner p (get_or places k d)
run_behind places to p order here k d le less =
    sooner_upto p (get_or places to d) (get_or places k d) (here d (omega arith)) (order to k d le less)

run_moves : (places : List Place) (i j : ℕ) (p : Place) → IsHead places i p → IsPlaceRun places i j p → i < j
run_moves places i j p head run = ⊎_elim
    (λ (less : i < j). less)
    (λ (le : j ≤ i). absurd (sooner_irreflexive p (subst (IsSooner p) (head.1 p) (run.behind i p le head.0))))
    (cases_lt i j)

-- with each place fewer are left
pub fewer_left : (lows tops : List Place) (low top after over : ℕ) (p : Place) → IsNextPlace lows low tops top p
    → IsPlaceRun lows low after p
    → IsPlaceRun tops top over p → (length lows - after) + (length tops - over) < (length lows - low) + (length tops - top)
fewer_left lows tops low top after over p next run_low run_top = ⊎_elim
    (λ (l : IsHead lows low p). let less = run_moves lows low after p l run_low in omega (arith, less, run_low.bound, run_top.order))
    (λ (t : IsHead tops top p). let less = run_moves tops top over p t run_top in omega (arith, less, run_low.order, run_top.bound))
    next.one

-- ---- parts of lists
pub range_front : {A : Type 0} (xs : List A) (i : ℕ) → slice_range xs 0 i ≡ take i xs
range_front xs i = ap (λ n. take n xs) (omega arith)

range_length : {A : Type 0} (xs : List A) (a b : ℕ) → a ≤ b → b ≤ length xs → length (slice_range xs a b) ≡ b - a
range_length xs a b le bound = length-take-le (b - a) (drop a xs) (omega (arith, length-drop a xs))

range_all : {A : Type 0} (P : A → Type 0) (xs : List A) (a b : ℕ) → a ≤ b → b ≤ length xs
    → ((k : ℕ) (d : A) → a ≤ k → k < b → k < length xs → P (get_or xs k d)) → All P (slice_range xs a b)
range_all P xs a b le bound f k d less =
    let inside : k < b - a = omega (arith, range_length xs a b le bound) in
    subst P (sym (get_or-slice_range xs a b k d inside)) (f (a + k) d (omega arith) (omega arith) (omega arith))

range_pairs : {A : Type 0} (R : A → A → Type 0) (xs : List A) (a b : ℕ) → a ≤ b → b ≤ length xs → AllPairs R xs
    → AllPairs R (slice_range xs a b)
range_pairs R xs a b le bound h i j d less inside =
    let in_j : j < b - a = omega (arith, range_length xs a b le bound) in
    let in_i : i < b - a = omega arith in
    coe 1 0 (z. R (get_or-slice_range xs a b i d in_i z) (get_or-slice_range xs a b j d in_j z))
    (h (a + i) (a + j) d (omega arith) (omega arith))

range_numbers : (xs : List Begin) (a b : ℕ) → a ≤ b → b ≤ length xs → AllPairs (λ m n. m ≢ n) (begin_numbers xs)
    → AllPairs (λ m n. m ≢ n) (begin_numbers (slice_range xs a b))
range_numbers xs a b le bound h =
    subst (AllPairs (λ m n. m ≢ n)) (sym (map-range begin_number xs a b))
    (range_pairs (λ m n. m ≢ n) (begin_numbers xs) a b le (omega (arith, length-map xs begin_number)) h)

-- a number of the list
pub record IsNumberOf (xs : List Begin) (n : ℕ) : Type 0 where
  pub index : ℕ
  pub inside : index < length xs
  pub is : (d : Begin) → begin_number (get_or xs index d) ≡ n

pub number_of : (xs : List Begin) (n : ℕ) → Contains (begin_numbers xs) n → IsNumberOf xs n
number_of xs n m =
    let less : m.0 < length xs = omega (arith, length-map xs begin_number, m.1) in
    record { index = m.0; inside = less; is = λ d. sym (get_or-map begin_number xs m.0 d n less) ∙ m.2 }

-- ---- what a begin tells of its edge
module _ (swept : List Point) (es : List (Point × Point)) (b : Begin) (own : IsBeginOf swept es b) where
  low_of : (p : Point) → point_at swept (begin_place b) ≡ p → (upward (get_or es (begin_number b) nowhere)).0 ≡ p
  low_of p at = sym own.point ∙ at

  low_row : (upward (get_or es (begin_number b) nowhere)).0.y ≡ (point_at swept (begin_place b)).y
  low_row = ap (λ (z : Point). z.y) (sym own.point)

  rises_of : is_level b ≡ false → (upward (get_or es (begin_number b) nowhere)).0.y <ℤ (upward (get_or es (begin_number b) nowhere)).1.y
  rises_of level = le_false (upward (get_or es (begin_number b) nowhere)).1.y (upward (get_or es (begin_number b) nowhere)).0.y
      (sym own.level ∙ level)

  flat_of : is_level b ≡ true → (upward (get_or es (begin_number b) nowhere)).1.y ≤ℤ (upward (get_or es (begin_number b) nowhere)).0.y
  flat_of level = le_true (upward (get_or es (begin_number b) nowhere)).1.y (upward (get_or es (begin_number b) nowhere)).0.y
      (sym own.level ∙ level)

  pub crosses_own : (row : ℤ) → (point_at swept (begin_place b)).y ≡ row → is_level b ≡ false → CrossesRow es row (begin_number b)
  crosses_own row at level =
      let e = get_or es (begin_number b) nowhere in
      let low : (upward e).0.y ≡ row = low_row ∙ at in
      let up = rises_of level in (
        own.given,
        λ d. subst (λ f. crosses_row row f ≡ true) (get_or_default es (begin_number b) nowhere d own.given)
            (crosses row e (omega (arith, linear, low)) (omega (arith, linear, low, up))),
      )

-- ---- the edges that begin at one point
pub group_of : (swept : List Point) (es : List (Point × Point)) (begins : List Begin) (points : List Point) (low after : ℕ) (p : Place)
    → IsRising IsAfter swept → AreBegins swept es begins → p.key < length swept → IsPlaceRun (begin_places begins) low after p
    → ((k : ℕ) (d : Place) → k < low → k < length (begin_places begins)
    → Contains points (point_at swept (get_or (begin_places begins) k d)))
    → ((q : Point) → Contains points q → IsAfter q (point_at swept p))
    → IsBegunGroup swept es (point_at swept p) (slice_range begins low after)
group_of swept es begins points low after p rising h p_inside run had passed =
    let count = length-map begins begin_place in
    let bound : after ≤ length begins = omega (arith, count, run.bound) in
    record {
      own = range_all (IsBeginOf swept es) begins low after run.order bound (λ k d ge lt inside. h.own k d inside);
      at = range_all (λ b. point_at swept (begin_place b) ≡ point_at swept p) begins low after run.order bound
          (λ k d ge lt inside. ap (point_at swept) (here k d ge lt inside));
      all = λ n given low_is.
          let m = number_of begins n (h.all n given) in
          let b = get_or begins m.index any in
          let own = h.own m.index any m.inside in
          let point : point_at swept (begin_place b) ≡ point_at swept p =
          own.point ∙ ap (λ k. (upward (get_or es k nowhere)).0) (m.is any) ∙ low_is in
          let at : get_or (begin_places begins) m.index p ≡ p =
          get_or-map begin_place begins m.index any p m.inside
          ∙ same_place swept rising (begin_place b) p own.inside p_inside point in
          let inside : m.index < length (begin_places begins) = omega (arith, count, m.inside) in
          ⊎_elim
          (λ (before : m.index < low). absurd (after_irreflexive (point_at swept p)
          (passed (point_at swept p) (subst (λ z. Contains points (point_at swept z)) at (had m.index p before inside)))))
          (λ (ge : low ≤ m.index). ⊎_elim
          (λ (lt : m.index < after).
          let k = m.index - low in
          let in_range : k < after - low = omega arith in
          let back : low + k ≡ m.index = omega arith in
          number_in (slice_range begins low after) n k any (omega (arith, range_length begins low after run.order bound))
          (ap begin_number (get_or-slice_range begins low after k any in_range ∙ ap (λ j. get_or begins j any) back)
          ∙ m.is any))
          (λ (behind : after ≤ m.index). absurd (sooner_irreflexive p (subst (IsSooner p) at (run.behind m.index p behind inside))))
          (cases_lt m.index after))
          (cases_lt m.index low);
      levels = λ i j d le less level.
          let in_j : j < after - low = omega (arith, range_length begins low after run.order bound) in
          let in_i : i < after - low = omega arith in
          let in_begins : low + j < length begins = omega (arith, run.order) in
          let at_i = get_or-slice_range begins low after i d in_i in
          let at_j = get_or-slice_range begins low after j d in_j in
          ap is_level at_j
          ∙ h.levels (low + i) (low + j) d (omega arith) in_begins
          (here (low + i) d (omega arith) (omega arith) (omega arith) ∙ sym (here (low + j) d (omega arith) (omega arith) in_begins))
          (sym (ap is_level at_i) ∙ level);
      apart = range_numbers begins low after run.order bound h.apart;
    }
  where
    here : (k : ℕ) (d : Begin) → low ≤ k → k < after → k < length begins → begin_place (get_or begins k d) ≡ p
    here k d ge lt inside = sym (get_or-map begin_place begins k d p inside) ∙ run.same k p ge lt

pub risers_of : (swept : List Point) (es : List (Point × Point)) (p : Point) (group : List Begin) (index : ℕ)
    → IsBegunGroup swept es p group → IsFirstLevel group index → AreRisers swept es p.y (slice_range group 0 index)
risers_of swept es p group index h first = record {
  own = range_all (IsBeginOf swept es) group 0 index (omega arith) first.bound (λ k d ge lt inside. h.own k d inside);
  rising = range_all (λ b. is_level b ≡ false) group 0 index (omega arith) first.bound (λ k d ge lt inside. first.before k d lt);
  at = range_all (λ b. (point_at swept (begin_place b)).y ≡ p.y) group 0 index (omega arith) first.bound
      (λ k d ge lt inside. ap (λ (z : Point). z.y) (h.at k d inside));
  apart = range_numbers group 0 index (omega arith) first.bound h.apart;
}

-- a number of the edges before the index
record IsFront (group : List Begin) (index n : ℕ) : Type 0 where
  pub place : ℕ
  pub early : place < index
  pub inside : place < length group
  pub is : (d : Begin) → begin_number (get_or group place d) ≡ n

-- the edges that rise, and then those that are level
pub begin_at : (swept : List Point) (r : Owned) (p : Point) (group : List Begin) (index : ℕ) (old mid new : List ℕ)
    → IsBegunGroup swept r.0 p group → IsFirstLevel group index → IsWithRisers r.0 p.y (slice_range group 0 index) old mid
    → new ≡ mid ++ begin_numbers (slice_range group index (length group)) → IsExtended r p old new
begin_at swept r p group index old mid new h first risers is = record {
  added = risers.added ++ levels;
  is = is ∙ ap (λ xs. xs ++ levels) risers.is ∙ append_assoc old risers.added levels;
  begun = record {
    begun = risers.added;
    level = levels;
    joined = refl;
    rising = record {
      rising = risers.rising;
      row = λ n m.
          let f = front n (risers.among n m) in
          subst (CrossesRow r.0 p.y) (f.is any) (crosses_own swept r.0 (get_or group f.place any) (h.own f.place any f.inside) p.y
          (ap (λ (z : Point). z.y) (h.at f.place any f.inside)) (first.before f.place any f.early));
      at = λ n m.
          let f = front n (risers.among n m) in
          subst (HasLow r p) (f.is any)
          (low_of swept r.0 (get_or group f.place any) (h.own f.place any f.inside) p (h.at f.place any f.inside));
      all = λ n cross low_is.
          let m = number_of group n (h.all n cross.0 low_is) in
          ⊎_elim
          (λ (early : m.index < index). risers.all n (in_front n m early))
          (λ (late : index ≤ m.index).
          let own = h.own m.index any m.inside in
          let flat = flat_of swept r.0 (get_or group m.index any) own (level_from m.index late m.inside) in
          let flat_n : (upward (edge_at r n)).1.y ≤ℤ (upward (edge_at r n)).0.y =
          subst (λ k. (upward (edge_at r k)).1.y ≤ℤ (upward (edge_at r k)).0.y) (m.is any) flat in
          let s = spans_of p.y (edge_at r n) (cross.1 nowhere) in
          absurd (omega (arith, linear, flat_n, s.low, s.high)))
          (cases_lt m.index index);
    };
    levels = λ n m.
        let f = number_of (slice_range group index (length group)) n m in
        let lt : f.index < length group - index =
        omega (arith, f.inside, range_length group index (length group) first.bound (omega arith)) in
        let inside : index + f.index < length group = omega arith in
        let b = get_or group (index + f.index) any in
        let same : begin_number b ≡ n =
        sym (ap begin_number (get_or-slice_range group index (length group) f.index any lt)) ∙ f.is any in
        let own = h.own (index + f.index) any inside in
        subst (IsLevelFrom r p) same (level_own b own (h.at (index + f.index) any inside)
        (level_from (index + f.index) (omega arith) inside));
    all_levels = λ n l.
        let m = number_of group n (h.all n l.given l.begins) in
        ⊎_elim
        (λ (early : m.index < index).
        let up = rises_of swept r.0 (get_or group m.index any) (h.own m.index any m.inside) (first.before m.index any early) in
        let up_n : (upward (edge_at r n)).0.y <ℤ (upward (edge_at r n)).1.y =
        subst (λ k. (upward (edge_at r k)).0.y <ℤ (upward (edge_at r k)).1.y) (m.is any) up in
        let flat = l.level in
        let low : (upward (edge_at r n)).0.y ≡ p.y = ap (λ (z : Point). z.y) l.begins in
        absurd (omega (arith, linear, up_n, flat, low)))
        (λ (late : index ≤ m.index).
        let k = m.index - index in
        let lt : k < length group - index = omega (arith, m.inside) in
        let back : index + k ≡ m.index = omega arith in
        number_in (slice_range group index (length group)) n k any
        (omega (arith, range_length group index (length group) first.bound (omega arith)))
        (ap begin_number (get_or-slice_range group index (length group) k any lt ∙ ap (λ j. get_or group j any) back) ∙ m.is any))
        (cases_lt m.index index);
  };
}
  where
    levels : List ℕ
    levels = begin_numbers (slice_range group index (length group))

    level_from : (k : ℕ) → index ≤ k → k < length group → is_level (get_or group k any) ≡ true
    level_from k le inside = h.levels index k any le inside (first.here any (omega arith))

    level_own : (b : Begin) → IsBeginOf swept r.0 b → point_at swept (begin_place b) ≡ p → is_level b ≡ true
        → IsLevelFrom r p (begin_number b)
    level_own b own at level =
        let e = edge_at r (begin_number b) in
        let low : (upward e).0.y ≡ p.y = ap (λ (z : Point). z.y) (low_of swept r.0 b own p at) in
        let flat = flat_of swept r.0 b own level in
        let up = up_rises e in
        record { given = own.given; begins = low_of swept r.0 b own p at; level = omega (arith, ints, low, flat, up) }

    front : (n : ℕ) → Contains (begin_numbers (slice_range group 0 index)) n → IsFront group index n
    front n m =
        let f = number_of (slice_range group 0 index) n m in
        let early : f.index < index = omega (arith, f.inside, range_length group 0 index (omega arith) first.bound) in
        let zero_more : 0 + f.index ≡ f.index = omega arith in
        record {
          place = f.index;
          early = early;
          inside = omega (arith, first.bound);
          is = λ d. ap (λ k. begin_number (get_or group k d)) (sym zero_more)
              ∙ sym (ap begin_number (get_or-slice_range group 0 index f.index d (omega arith))) ∙ f.is d;
        }

    in_front : (n : ℕ) (m : IsNumberOf group n) → m.index < index → Contains (begin_numbers (slice_range group 0 index)) n
    in_front n m early =
        let zero_more : 0 + m.index ≡ m.index = omega arith in
        number_in (slice_range group 0 index) n m.index any (omega (arith, range_length group 0 index (omega arith) first.bound))
        (ap begin_number (get_or-slice_range group 0 index m.index any (omega arith))
        ∙ ap (λ k. begin_number (get_or group k any)) zero_more
        ∙ m.is any)

-- ---- edges that rise from one point, from left to right
pub few_risers : (es : List (Point × Point)) (row : ℤ) (group : List Begin) (old new : List ℕ) → length group < 2
    → new ≡ old ++ begin_numbers group → IsWithRisers es row group old new
few_risers es row group old new few is = record {
  added = begin_numbers group;
  is = is;
  rising = at_most_one group few;
  among = λ n m. m;
  all = λ n m. m;
}
  where
    at_most_one : (xs : List Begin) → length xs < 2 → IsRising (IsLeftOf es row) (begin_numbers xs)
    at_most_one [] less = tt
    at_most_one (b ∷ []) less = tt
    at_most_one (b ∷ c ∷ xs) less = absurd (omega arith)

pub crossing_all : (swept : List Point) (es : List (Point × Point)) (row : ℤ) (group : List Begin) → AreRisers swept es row group
    → (k : ℕ) (d : Begin) → k < length group → CrossesRow es row (begin_number (get_or group k d))
crossing_all swept es row group h k d less =
    crosses_own swept es (get_or group k d) (h.own k d less) row (h.at k d less) (h.rising k d less)

-- where one edge more crosses the row
pub crossing_push : (swept : List Point) (es : List (Point × Point)) (row : ℤ) (group : List Begin) (i : ℕ) (d : Begin)
    (old : List Crossing) (c : Crossing) (e : Point × Point) → i < length group → AreRisers swept es row group
    → e ≡ get_or es (begin_number (get_or group i d)) e
    → c.number ≡ begin_number (get_or group i d) → c.x ≡ crossing row e → c.rise ≡ rise e
    → map (λ z. z.number) old ≡ begin_numbers (take i group) → All (IsCrossingOf es row) old
    → (map (λ z. z.number) (old ++ c ∷ []) ≡ begin_numbers (take (i + 1) group)) × All (IsCrossingOf es row) (old ++ c ∷ [])
crossing_push swept es row group i d old c e less risers is_e number x up numbers places =
    let n = begin_number (get_or group i d) in
    let cross = crossing_all swept es row group risers i d less in
    let any : (f : Point × Point) → e ≡ get_or es n f = λ f. is_e ∙ get_or_default es n e f cross.0 in (
      map-append (λ (z : Crossing). z.number) old (c ∷ []) ∙ (λ k. numbers k ++ number k ∷ [])
          ∙ sym (map_more begin_number group i d less),
      All-push (IsCrossingOf es row) old c places (record {
        given = subst (λ m. m < length es) (sym number) cross.0;
        crosses = subst (λ m. (f : Point × Point) → crosses_row row (get_or es m f) ≡ true) (sym number) cross.1;
        x = λ f. x ∙ ap (crossing row) (any f) ∙ ap (λ m. crossing row (get_or es m f)) (sym number);
        rise = λ f. up ∙ ap rise (any f) ∙ ap (λ m. rise (get_or es m f)) (sym number);
      }),
    )

module _ (es : List (Point × Point)) (row : ℤ) (rising : IsRising IsEdgeBefore es) (clean : AreClean es) where
  all_rising : (cs : List Crossing) → AllByRecursion (IsCrossingOf es row) cs → IsDistinct nat_eq (map (λ c. c.number) cs)
      → ((k : ℕ) (d : Crossing) → suc k < length cs → is_left (get_or cs (suc k) d) (get_or cs k d) ≡ false)
      → IsRising (IsLeftOf es row) (map (λ c. c.number) cs)
  unfolding IsDistinct
  all_rising [] all apart sorted = tt
  all_rising (a ∷ []) all apart sorted = tt
  all_rising (a ∷ b ∷ cs) all apart sorted = (
    left_of es row rising clean a b all.0 all.1.0 apart.0.0 (sorted zero a (omega arith)),
    all_rising (b ∷ cs) all.1 apart.1 (λ k d less. sorted (suc k) d (omega arith)),
  )

  pub many_risers : (group : List Begin) (cs sorted : List Crossing) (old new : List ℕ) → AllPairs (λ m n. m ≢ n) (begin_numbers group)
      → map (λ c. c.number) cs ≡ begin_numbers group → All (IsCrossingOf es row) cs → IsPermutation cs sorted → IsSortedBy is_left sorted
      → new ≡ old ++ map (λ c. c.number) sorted → IsWithRisers es row group old new
  many_risers group cs sorted old new apart numbers places moved order is =
      let all = recursion_from_All (IsCrossingOf es row) sorted (All-permutation (IsCrossingOf es row) cs sorted moved places) in
      let moved_numbers = IsPermutation-map (λ (c : Crossing). c.number) cs sorted moved in
      let distinct : IsDistinct nat_eq (map (λ (c : Crossing). c.number) sorted) =
      IsDistinct-IsPermutation nat_eq flips (map (λ (c : Crossing). c.number) cs) (map (λ (c : Crossing). c.number) sorted) moved_numbers
      (subst (IsDistinct nat_eq) (sym numbers) (IsDistinct-from_AllPairs Decides-eqb (begin_numbers group) apart)) in
      record {
        added = map (λ (c : Crossing). c.number) sorted;
        is = is;
        rising = all_rising sorted all distinct (λ k d less.
            subst (λ m. is_left (get_or sorted m d) (get_or sorted k d) ≡ false) (add-one k) (order k d (omega arith) (omega arith)));
        among = λ n m. subst (λ ns. Contains ns n) numbers
            (Contains-permutation (map (λ (c : Crossing). c.number) sorted) (map (λ (c : Crossing). c.number) cs) n
            (IsPermutation-sym (map (λ (c : Crossing). c.number) cs) (map (λ (c : Crossing). c.number) sorted) moved_numbers) m);
        all = λ n m. Contains-permutation (map (λ (c : Crossing). c.number) cs) (map (λ (c : Crossing). c.number) sorted) n moved_numbers
            (subst (λ ns. Contains ns n) (sym numbers) m);
      }

-- ---- the stops so far
begins_inside : (swept : List Point) (es : List (Point × Point)) (begins : List Begin) → AreBegins swept es begins
    → AreInside swept (begin_places begins)
begins_inside swept es begins h k d less =
    let inside : k < length begins = omega (arith, less, length-map begins begin_place) in
    subst (λ (q : Place). q.key < length swept) (sym (get_or-map begin_place begins k any d inside)) (h.own k any inside).inside

-- the points of the places before the index are among those so far, and all those come before the places from it on
pub record IsJoined (swept : List Point) (places : List Place) (points : List Point) (i : ℕ) : Type 0 where
  pub had : (k : ℕ) (d : Place) → k < i → k < length places → Contains points (point_at swept (get_or places k d))
  pub ahead : (q : Point) (k : ℕ) (d : Place) → Contains points q → i ≤ k → k < length places
      → IsAfter q (point_at swept (get_or places k d))

only : {A : Type 0} (x y : A) → Contains (x ∷ []) y → x ≡ y
only x y m = ⊎_elim (λ (same : x ≡ y). same) (λ none. absurd none) (has (x ∷ []) y m)

joined_more : (swept : List Point) (places : List Place) (points : List Point) (i j : ℕ) (p : Place) → IsRising IsAfter swept
    → AreInside swept places → IsJoined swept places points i → IsPlaceRun places i j p
    → IsJoined swept places (points ++ point_at swept p ∷ []) j
joined_more swept places points i j p rising all_inside h run = record {
  had = λ k d less inside. ⊎_elim
      (λ (before : k < i). Contains-append_left points (here ∷ []) (point_at swept (get_or places k d)) (h.had k d before inside))
      (λ (ge : i ≤ k). subst (λ (z : Place). Contains (points ++ here ∷ []) (point_at swept z)) (sym (run.same k d ge less))
      (Contains-append_right points (here ∷ []) here (contains (here ∷ []) here (inl refl))))
      (cases_lt k i);
  ahead = λ q k d m le inside. ⊎_elim
      (λ (old : Contains points q). h.ahead q k d old (omega (arith, run.order)) inside)
      (λ (new : Contains (here ∷ []) q). subst (λ z. IsAfter z (point_at swept (get_or places k d))) (only here q new)
      (sooner_after swept rising p (get_or places k d) (all_inside k d inside) (run.behind k d le inside)))
      (Contains-append_cases points (here ∷ []) q m);
}
  where
    here : Point
    here = point_at swept p

abbrev pub points_of : List Stop → List Point
points_of = map (λ s. s.point)

-- the edges that begin at the stop
pub record IsSweepStop (r : Owned) (begun : List ℕ) (s : Stop) : Type 0 where
  pub order : s.from ≤ s.to
  pub bound : s.to ≤ length begun
  pub begun_at : BeginAt r s.point (slice_range begun s.from s.to)

pub record AreStopsTo (swept : List Point) (r : Owned) (lows tops : List Place) (low top : ℕ) (list : List Stop) (begun : List ℕ)
    : Type 0 where
  pub low_bound : low ≤ length lows
  pub top_bound : top ≤ length tops
  pub rising : IsRising IsAfter (points_of list)
  pub some : (p : Point) → Contains (points_of list) p → IsEndPoint r p
  pub low_joined : IsJoined swept lows (points_of list) low
  pub top_joined : IsJoined swept tops (points_of list) top
  pub own : All (IsSweepStop r begun) list

-- the next place is among the points
pub place_inside : (swept : List Point) (es : List (Point × Point)) (begins : List Begin) (tops : List Place) (low top : ℕ) (p : Place)
    → AreBegins swept es begins → AreTops swept es tops → IsNextPlace (begin_places begins) low tops top p → p.key < length swept
place_inside swept es begins tops low top p begin_facts top_facts next = ⊎_elim
    (λ (l : IsHead (begin_places begins) low p).
    subst (λ (q : Place). q.key < length swept) (l.1 p) (begins_inside swept es begins begin_facts low p l.0))
    (λ (t : IsHead tops top p). subst (λ (q : Place). q.key < length swept) (t.1 p) (top_facts.own top p t.0).inside)
    next.one

-- it is after all points so far
pub passed_all : (swept : List Point) (r : Owned) (lows tops : List Place) (low top : ℕ) (list : List Stop) (begun : List ℕ) (p : Place)
    → AreStopsTo swept r lows tops low top list begun → IsNextPlace lows low tops top p → (q : Point) → Contains (points_of list) q
    → IsAfter q (point_at swept p)
passed_all swept r lows tops low top list begun p h next q m = ⊎_elim
    (λ (l : IsHead lows low p).
    subst (λ (z : Place). IsAfter q (point_at swept z)) (l.1 p) (h.low_joined.ahead q low p m (omega arith) l.0))
    (λ (t : IsHead tops top p).
    subst (λ (z : Place). IsAfter q (point_at swept z)) (t.1 p) (h.top_joined.ahead q top p m (omega arith) t.0))
    next.one

-- and an edge begins or ends there
end_point : (swept : List Point) (r : Owned) (begins : List Begin) (tops : List Place) (low top : ℕ) (p : Place)
    → AreBegins swept r.0 begins → AreTops swept r.0 tops → IsNextPlace (begin_places begins) low tops top p
    → IsEndPoint r (point_at swept p)
end_point swept r begins tops low top p begin_facts top_facts next = ⊎_elim
    (λ (l : IsHead (begin_places begins) low p).
    let inside : low < length begins = omega (arith, l.0, length-map begins begin_place) in
    let b = get_or begins low any in
    let own = begin_facts.own low any inside in
    let at : point_at swept (begin_place b) ≡ point_at swept p =
    ap (point_at swept) (sym (get_or-map begin_place begins low any p inside) ∙ l.1 p) in
    record { number = begin_number b; given = own.given; at = inl (low_of swept r.0 b own (point_at swept p) at) })
    (λ (t : IsHead tops top p).
    let own = top_facts.own top p t.0 in
    record {
      number = own.number;
      given = own.given;
      at = inr (sym own.point ∙ ap (point_at swept) (t.1 p));
    })
    next.one

range_kept : (begun added : List ℕ) (a b : ℕ) → a ≤ b → b ≤ length begun → slice_range (begun ++ added) a b ≡ slice_range begun a b
range_kept begun added a b le bound =
    ap (take (b - a)) (drop-append-le a begun added (omega arith))
    ∙ take-append-le (b - a) (drop a begun) added (omega (arith, length-drop a begun))

range_added : (begun added : List ℕ) → slice_range (begun ++ added) (length begun) (length (begun ++ added)) ≡ added
range_added begun added =
    ap (take (length (begun ++ added) - length begun)) (drop-append_seam begun added)
    ∙ take_all (length (begun ++ added) - length begun) added (omega (arith, length-append begun added))

stop_kept : (r : Owned) (begun added : List ℕ) (s : Stop) → IsSweepStop r begun s → IsSweepStop r (begun ++ added) s
stop_kept r begun added s h = record {
  order = h.order;
  bound = omega (arith, h.bound, length-append begun added);
  begun_at = subst (BeginAt r s.point) (sym (range_kept begun added s.from s.to h.order h.bound)) h.begun_at;
}

pub stops_more : (swept : List Point) (r : Owned) (begins : List Begin) (tops : List Place) (low top after over : ℕ) (list more : List Stop)
    (old new : List ℕ) (p : Place) (s : Stop) → IsRising IsAfter swept → AreBegins swept r.0 begins → AreTops swept r.0 tops
    → AreStopsTo swept r (begin_places begins) tops low top list old → IsNextPlace (begin_places begins) low tops top p
    → IsPlaceRun (begin_places begins) low after p → IsPlaceRun tops top over p → IsExtended r (point_at swept p) old new
    → s.point ≡ point_at swept p → s.from ≡ length old → s.to ≡ length new → more ≡ list ++ s ∷ []
    → AreStopsTo swept r (begin_places begins) tops after over more new
stops_more swept r begins tops low top after over list more old new p s rising begin_facts top_facts h next run_low run_top extended
    at from to is =
    let points : points_of more ≡ points_of list ++ here ∷ [] =
    ap points_of is ∙ map-append (λ (z : Stop). z.point) list (s ∷ []) ∙ ap (λ q. points_of list ++ q ∷ []) at in
    let all : new ≡ old ++ extended.added = extended.is in
    let passed = passed_all swept r (begin_places begins) tops low top list old p h next in
    let stop : IsSweepStop r new s = record {
      order = omega (arith, from, to, ap length all, length-append old extended.added);
      bound = omega (arith, to);
      begun_at = coe 1 0 (z. BeginAt r (at z) (slice_range (all z) (from z) (to_all z)))
          (subst (BeginAt r here) (sym (range_added old extended.added)) extended.begun);
    } in
    record {
      low_bound = run_low.bound;
      top_bound = run_top.bound;
      rising = subst (IsRising IsAfter) (sym points)
          (rising_push IsAfter (points_of list) here h.rising (λ q m. passed q (contains (points_of list) q m)));
      some = λ q m. ⊎_elim
          (λ (before : Contains (points_of list) q). h.some q before)
          (λ (new_one : Contains (here ∷ []) q).
          subst (IsEndPoint r) (only here q new_one) (end_point swept r begins tops low top p begin_facts top_facts next))
          (Contains-append_cases (points_of list) (here ∷ []) q (subst (λ ps. Contains ps q) points m));
      low_joined = subst (λ ps. IsJoined swept (begin_places begins) ps after) (sym points)
          (joined_more swept (begin_places begins) (points_of list) low after p rising (begins_inside swept r.0 begins begin_facts)
          h.low_joined run_low);
      top_joined = subst (λ ps. IsJoined swept tops ps over) (sym points)
          (joined_more swept tops (points_of list) top over p rising (λ k d less. (top_facts.own k d less).inside) h.top_joined run_top);
      own = subst (All (IsSweepStop r new)) (sym is) (All-push (IsSweepStop r new) list s
          (λ k d less. subst (λ b. IsSweepStop r b (get_or list k d)) (sym all)
          (stop_kept r old extended.added (get_or list k d) (h.own k d less)))
          stop);
    }
  where
    here : Point
    here = point_at swept p

    to_all : s.to ≡ length (old ++ extended.added)
    to_all = to ∙ ap length extended.is

pub stops_done : (swept : List Point) (r : Owned) (begins : List Begin) (tops : List Place) (low top : ℕ) (stops : Stops)
    → AreBegins swept r.0 begins → AreTops swept r.0 tops
    → AreStopsTo swept r (begin_places begins) tops low top stops.list.items stops.begun.items
    → length (begin_places begins) ≤ low → length tops ≤ top → AreStops r stops
stops_done swept r begins tops low top stops begin_facts top_facts h all_low all_top = record {
  points = record {
    rising = h.rising;
    all = λ p e. ⊎_elim
        (λ (low_is : HasLow r p e.number).
        let m = number_of begins e.number (begin_facts.all e.number e.given) in
        let b = get_or begins m.index any in
        let own = begin_facts.own m.index any m.inside in
        let at = get_or-map begin_place begins m.index any (begin_place b) m.inside in
        let inside : m.index < length (begin_places begins) = omega (arith, m.inside, length-map begins begin_place) in
        let low : point_at swept (begin_place b) ≡ p =
        own.point ∙ ap (λ k. (upward (edge_at r k)).0) (m.is any) ∙ low_is in
        subst (Contains (points_of stops.list.items)) (ap (point_at swept) at ∙ low)
        (h.low_joined.had m.index (begin_place b) (omega (arith, inside, all_low)) inside))
        (λ (high_is : HasHigh r p e.number).
        let t = top_facts.all e.number e.given in
        let m = t.1 in
        subst (Contains (points_of stops.list.items)) (ap (point_at swept) m.2 ∙ t.2 ∙ high_is)
        (h.top_joined.had m.0 t.0 (omega (arith, m.1)) m.1))
        e.at;
    some = h.some;
  };
  order = λ k d less. (h.own k d less).order;
  bound = λ k d less. (h.own k d less).bound;
  begun = λ k d less. (h.own k d less).begun_at;
}

-- ---- rows by halving
module _ (list : List Stop) (rising : IsRising IsAfter (points_of list)) where
  -- a stop is in no later row than those behind it
  pub rows_upward : (i j : ℕ) (d : Stop) → i ≤ j → j < length list → (get_or list i d).point.y ≤ℤ (get_or list j d).point.y
  rows_upward i j d le less = ⊎_elim
      (λ (lt : i < j).
      let inside : j < length (points_of list) = omega (arith, length-map list (λ (s : Stop). s.point)) in
      let at_i = get_or-map (λ (s : Stop). s.point) list i d d.point (omega arith) in
      let at_j = get_or-map (λ (s : Stop). s.point) list j d d.point less in
      coe 0 1 (z. (at_i z).y ≤ℤ (at_j z).y)
      (upto (before_by_number IsAfter after_is_strict (points_of list) i j d.point rising lt inside)))
      (λ (ge : j ≤ i).
      let same : i ≡ j = omega arith in
      subst (λ k. (get_or list i d).point.y ≤ℤ (get_or list k d).point.y) same (omega (arith, linear)))
      (cases_lt i j)
    where
      upto : IsAfter (get_or (points_of list) i d.point) (get_or (points_of list) j d.point)
          → (get_or (points_of list) i d.point).y ≤ℤ (get_or (points_of list) j d.point).y
      upto (inl h) = omega (arith, linear, h.0)
      upto (inr h) = omega (arith, linear, h)

  -- no stop that is below a row comes after one that isn't
  pub below_parted : (row : ℤ) → IsPartitionedBy (λ s. int_lt s.point.y row) list
  below_parted row i j d le less below =
      let up = rows_upward i j d le less in
      let there = lt_true (get_or list j d).point.y row below in
      true_lt (get_or list i d).point.y row (omega (arith, linear, up, there))

-- Passes over boxes by their lower sides: who touches a later one is in the tree of an open one that does.
use Rattle.std.proofs.Common.{◌≡◌, ◌⊎◌, inl, inr, ℕ, ◌+◌, ◌<◌, ◌≤◌, Bool, true, false, List, [], ◌∷◌, ◌++◌, length, take}
use Rattle.std.proofs.Common.{get_or, ℤ, ◌≤ℤ◌, refl, sym, ap, subst, ◌∙◌, ⊎_elim, arith}
use Rattle.std.specs.Prelude.{Contains, All, int_le}
use Rattle.std.proofs.lemmas.Bool.{and_from, and_parts, cases_lt, false≢true}
use Rattle.std.proofs.lemmas.List.{get_or-take, get_or_default, length-take, take_more}
use Rattle.std.specs.Int.{int_max, int_min}
use Rattle.std.proofs.lemmas.Int.{clamps, ints}
use Rattle.lay_point.proofs.Members.{Has, contains, has, has-append}
use Rattle.lay_point.proofs.Tests.{le_true, true_le}
use Rattle.lay_point.specs.declared.rect.Rect.{Rect}
use Rattle.lay_point.specs.Rects.{is_up_to, touch}
use Rattle.face_ring_laws.specs.Parts.{AreJoined}
use Rattle.face_ring_laws.proofs.PartLemmas.{joined_by_boxes}
use Rattle.face_rings.specs.declared.stretch.Stretch.{Stretch}
use Rattle.face_rings.specs.Forest.{root_of}
use Rattle.face_rings.specs.Joining.{AreByBottom, AreCoversJoined, AreJoinedDown, AreJoinedUp, Grows, HasHeight, IsHighestOf}
use Rattle.face_rings.specs.Joining.{IsStretchOf, numbered_box, covers}
use Rattle.face_rings.proofs.JoinLemmas.{all_inside, grows_on, has_more, index_in_first, joined_back, more_has, nowhere}

-- ---- numbers of a list
pub index_in : (numbers : List ℕ) (k : ℕ) → Contains numbers k → (m : ℕ) × (m < length numbers) × (get_or numbers m 0 ≡ k)
index_in numbers k (m, lt, same) = (m, lt, get_or_default numbers m 0 k lt ∙ same)

pub number_in : (numbers : List ℕ) (m : ℕ) → m < length numbers → Contains numbers (get_or numbers m 0)
number_in numbers m lt = (m, lt, get_or_default numbers m (get_or numbers m 0) 0 lt)

first_has : (numbers : List ℕ) (i m : ℕ) → m < i → m < length numbers → Contains (take i numbers) (get_or numbers m 0)
first_has numbers i m first inside =
    let short : m < length (take i numbers) = omega (arith, length-take i numbers) in
    (m, short, get_or-take i numbers m (get_or numbers m 0) first ∙ get_or_default numbers m (get_or numbers m 0) 0 inside)

whole_has : (numbers : List ℕ) (i k : ℕ) → Contains (take i numbers) k → Contains numbers k
whole_has numbers i k m =
    let at = index_in_first numbers i k m in
    (at.0, at.2, get_or_default numbers at.0 k 0 at.2 ∙ at.3)

taken_has : (numbers : List ℕ) (i : ℕ) → i < length numbers → (k : ℕ) → Contains (take i numbers) k ⊎ (get_or numbers i 0 ≡ k)
    → Contains (take (i + 1) numbers) k
taken_has numbers i lt k m = subst (λ l. Contains l k) (sym (take_more numbers i 0 lt)) (more_has (take i numbers) (get_or numbers i 0) k m)

one_has : (numbers : List ℕ) (n k : ℕ) → numbers ≡ n ∷ [] → Contains numbers k → n ≡ k
one_has numbers n k alone m = ⊎_elim (λ (same : n ≡ k). same) (λ (none : ⊥). absurd none)
    (subst (λ l. Has l k) alone (has numbers k m))

has_one : (numbers : List ℕ) (n : ℕ) → numbers ≡ n ∷ [] → Contains numbers n
has_one numbers n alone = subst (λ l. Contains l n) (sym alone) (contains (n ∷ []) n (inl refl))

-- ---- boxes that touch
touch_from : (b c : Rect) → b.low.x ≤ℤ c.high.x → b.low.y ≤ℤ c.high.y → c.low.x ≤ℤ b.high.x → c.low.y ≤ℤ b.high.y → touch b c ≡ true
touch_from b c bx by cx cy = and_from (is_up_to b.low c.high) (is_up_to c.low b.high)
    (and_from (int_le b.low.x c.high.x) (int_le b.low.y c.high.y) (true_le b.low.x c.high.x bx) (true_le b.low.y c.high.y by))
    (and_from (int_le c.low.x b.high.x) (int_le c.low.y b.high.y) (true_le c.low.x b.high.x cx) (true_le c.low.y b.high.y cy))

rows_of : (boxes : List Rect) (i j : ℕ) → AreJoined boxes i j
    → ((numbered_box boxes i).low.y ≤ℤ (numbered_box boxes j).high.y) × ((numbered_box boxes j).low.y ≤ℤ (numbered_box boxes i).high.y)
rows_of boxes i j joined =
    let b = numbered_box boxes i in
    let c = numbered_box boxes j in
    let halves = and_parts (is_up_to b.low c.high) (is_up_to c.low b.high) (joined.2 nowhere) in (
      le_true b.low.y c.high.y (and_parts (int_le b.low.x c.high.x) (int_le b.low.y c.high.y) halves.0).1,
      le_true c.low.y b.high.y (and_parts (int_le c.low.x b.high.x) (int_le c.low.y b.high.y) halves.1).1,
    )

pub read_box : (boxes : List Rect) (n : ℕ) (b : Rect) → n < length boxes → b ≡ get_or boxes n b → b ≡ numbered_box boxes n
read_box boxes n b inside is_b = is_b ∙ get_or_default boxes n b nowhere inside

-- ---- the stretch of one box more
pub stretch_more : (boxes : List Rect) (numbers : List ℕ) (i : ℕ) → i < length numbers → get_or numbers i 0 < length boxes → (b : Rect)
    → b ≡ get_or boxes (get_or numbers i 0) b → (s more : Stretch)
    → more ≡ record { first_end = int_min s.first_end b.high.x; last_start = int_max s.last_start b.low.x }
    → IsStretchOf boxes (take i numbers) s → IsStretchOf boxes (take (i + 1) numbers) more
stretch_more boxes numbers i lt inside b is_b s more is h k m = ⊎_elim
    (λ (early : Contains (take i numbers) k).
    let at = h k early in
    (omega (arith, ints, clamps, at.0, first), omega (arith, ints, clamps, at.1, last)))
    (λ (same : get_or numbers i 0 ≡ k).
    let at : b ≡ numbered_box boxes k = read_box boxes (get_or numbers i 0) b inside is_b ∙ ap (numbered_box boxes) same in
    subst (λ z. (more.first_end ≤ℤ z.high.x) × (z.low.x ≤ℤ more.last_start)) at
    (omega (arith, ints, clamps, first), omega (arith, ints, clamps, last)))
    (has_more numbers i lt k m)
  where
    first : more.first_end ≡ int_min s.first_end b.high.x
    first = ap (λ (z : Stretch). z.first_end) is

    last : more.last_start ≡ int_max s.last_start b.low.x
    last = ap (λ (z : Stretch). z.last_start) is

-- ---- the highest of one box more
abbrev pub IsTopOf : List Rect → List ℕ → ℕ → ℕ → ℕ → Type 0
IsTopOf boxes numbers one i top = (top < length boxes) × ((top ≡ one) ⊎ Contains (take i numbers) top)
    × ((numbered_box boxes one).high.y ≤ℤ (numbered_box boxes top).high.y)
    × ((k : ℕ) → Contains (take i numbers) k → (numbered_box boxes k).high.y ≤ℤ (numbered_box boxes top).high.y)

pub highest_more : (boxes : List Rect) (numbers : List ℕ) (one i top next : ℕ) → i < length numbers → get_or numbers i 0 < length boxes
    → (next ≡ top) ⊎ (next ≡ get_or numbers i 0) → (numbered_box boxes top).high.y ≤ℤ (numbered_box boxes next).high.y
    → (numbered_box boxes (get_or numbers i 0)).high.y ≤ℤ (numbered_box boxes next).high.y → IsTopOf boxes numbers one i top
    → IsTopOf boxes numbers one (i + 1) next
highest_more boxes numbers one i top next lt inside either old this h = (
  ⊎_elim (λ (same : next ≡ top). subst (λ z. z < length boxes) (sym same) h.0)
      (λ (same : next ≡ get_or numbers i 0). subst (λ z. z < length boxes) (sym same) inside) either,
  ⊎_elim
      (λ (same : next ≡ top). subst (λ z. (z ≡ one) ⊎ Contains (take (i + 1) numbers) z) (sym same)
      (⊎_elim (λ (at : top ≡ one). inl at) (λ (m : Contains (take i numbers) top). inr (taken_has numbers i lt top (inl m))) h.1))
      (λ (same : next ≡ get_or numbers i 0). inr (taken_has numbers i lt next (inr (sym same)))) either,
  omega (arith, ints, h.2, old),
  (λ k m. ⊎_elim (λ (early : Contains (take i numbers) k). let below = h.3 k early in omega (arith, ints, below, old))
      (λ (same : get_or numbers i 0 ≡ k). subst (λ z. (numbered_box boxes z).high.y ≤ℤ (numbered_box boxes next).high.y) same this)
      (has_more numbers i lt k m)),
)

-- ---- a pass: each of one kind is to be in one tree with those of another kind behind it that it is joined to
pub record IsPass (boxes : List Rect) (numbers : List ℕ) (from to : ℕ → Bool) (start now : List ℕ) (i : ℕ) (opened : List ℕ) : Type 0 where
  pub grows : Grows boxes start now
  pub among : (k : ℕ) → Contains opened k → Contains (take i numbers) k
  pub only : (k : ℕ) → Contains opened k → from k ≡ true
  pub reached : (c j : ℕ) → Contains (take i numbers) c → i ≤ j → j < length numbers → from c ≡ true → to (get_or numbers j 0) ≡ true
      → AreJoined boxes c (get_or numbers j 0)
      → (o : ℕ) × Contains opened o × (root_of now o ≡ root_of now c) × AreJoined boxes o (get_or numbers j 0)
  pub joined : (k j : ℕ) → k < j → j < i → j < length numbers → from (get_or numbers k 0) ≡ true → to (get_or numbers j 0) ≡ true
      → AreJoined boxes (get_or numbers k 0) (get_or numbers j 0)
      → root_of now (get_or numbers k 0) ≡ root_of now (get_or numbers j 0)

pub opened_inside : (boxes : List Rect) (numbers : List ℕ) (from to : ℕ → Bool) (start now : List ℕ) (i : ℕ) (opened : List ℕ)
    → All (λ k. k < length boxes) numbers → IsPass boxes numbers from to start now i opened → All (λ k. k < length boxes) opened
opened_inside boxes numbers from to start now i opened inside h = all_inside opened (length boxes) (λ k m.
    let at = index_in_first numbers i k (h.among k m) in subst (λ z. z < length boxes) at.3 (inside at.0 0 at.2))

module _ (boxes : List Rect) (numbers : List ℕ) (s : Stretch) (height : All HasHeight boxes) (inside : All (λ k. k < length boxes) numbers)
    (by_bottom : AreByBottom boxes numbers) (stretch : IsStretchOf boxes numbers s) where
  abbrev n : ℕ → ℕ
  n i = get_or numbers i 0

  abbrev low : ℕ → ℤ
  low k = (numbered_box boxes k).low.y

  abbrev high : ℕ → ℤ
  high k = (numbered_box boxes k).high.y

  within : (k : ℕ) → Contains numbers k → k < length boxes
  within k m = let at = index_in numbers k m in subst (λ z. z < length boxes) at.2 (inside at.0 0 at.1)

  upright : (k : ℕ) → Contains numbers k → low k ≤ℤ high k
  upright k m = height k nowhere (within k m)

  -- one that covers the stretch is joined to each that it meets in a row
  meets : (a b : ℕ) → Contains numbers a → Contains numbers b → covers s (numbered_box boxes a) ≡ true → low a ≤ℤ high b → low b ≤ℤ high a
      → AreJoined boxes a b
  meets a b ma mb over h g =
      let p = numbered_box boxes a in
      let q = numbered_box boxes b in
      let ends = and_parts (int_le p.low.x s.first_end) (int_le s.last_start p.high.x) over in
      let start : p.low.x ≤ℤ s.first_end = le_true p.low.x s.first_end ends.0 in
      let end : s.last_start ≤ℤ p.high.x = le_true s.last_start p.high.x ends.1 in
      let by = stretch b mb in
      joined_by_boxes boxes a b p q (within a ma) (within b mb) (get_or_default boxes a nowhere p (within a ma))
      (get_or_default boxes b nowhere q (within b mb))
      (touch_from p q (omega (arith, ints, start, by.0)) h (omega (arith, ints, end, by.1)) g)

  module _ (from to : ℕ → Bool)
      (one_covers : (a b : ℕ) → from a ≡ true → to b ≡ true → (covers s (numbered_box boxes a) ≡ true)
      ⊎ (covers s (numbered_box boxes b) ≡ true))
      (start now : List ℕ) (i : ℕ) (opened : List ℕ) (each : length start ≡ length boxes) (lt : i < length numbers)
      (h : IsPass boxes numbers from to start now i opened) where
    whole : length now ≡ length boxes
    whole = h.grows.each ∙ each

    meet : (a b : ℕ) → Contains numbers a → Contains numbers b → from a ≡ true → to b ≡ true → low a ≤ℤ high b → low b ≤ℤ high a
        → AreJoined boxes a b
    meet a b ma mb f t below above = ⊎_elim (λ (over : covers s (numbered_box boxes a) ≡ true). meets a b ma mb over below above)
        (λ (over : covers s (numbered_box boxes b) ≡ true). joined_back boxes b a (meets b a mb ma over above below)) (one_covers a b f t)

    -- the box of this turn is joined to the open ones
    module _ (new : List ℕ) (more : Grows boxes now new)
        (taken : (k : ℕ) → Contains opened k → AreJoined boxes (n i) k → root_of new (n i) ≡ root_of new k) where
      still : (j k : ℕ) → j < length boxes → k < length boxes → root_of now j ≡ root_of now k → root_of new j ≡ root_of new k
      still j k lj lk e = more.kept j k (omega (arith, whole, lj)) (omega (arith, whole, lk)) e

      open_inside : (o : ℕ) → Contains opened o → o < length boxes
      open_inside o mo = within o (whole_has numbers i o (h.among o mo))

      this_joined : (k : ℕ) → k < i → from (n k) ≡ true → to (n i) ≡ true → AreJoined boxes (n k) (n i)
          → root_of new (n k) ≡ root_of new (n i)
      this_joined k before f t g =
          let r = h.reached (n k) i (first_has numbers i k before (omega (arith, lt))) (omega arith) lt f t g in
          sym (still r.0 (n k) (open_inside r.0 r.1) g.0 r.2) ∙ sym (taken r.0 r.1 (joined_back boxes r.0 (n i) r.3))

      all_joined : (k j : ℕ) → k < j → j < i + 1 → j < length numbers → from (n k) ≡ true → to (n j) ≡ true
          → AreJoined boxes (n k) (n j) → root_of new (n k) ≡ root_of new (n j)
      all_joined k j before first far f t g = ⊎_elim
          (λ (early : j < i). still (n k) (n j) g.0 g.1 (h.joined k j before early far f t g))
          (λ (late : i ≤ j).
          let same : i ≡ j = omega arith in
          subst (λ z. root_of new (n k) ≡ root_of new (n z)) same (this_joined k (omega arith) f
          (subst (λ z. to (n z) ≡ true) (sym same) t) (subst (λ z. AreJoined boxes (n k) (n z)) (sym same) g)))
          (cases_lt j i)

      -- it isn't to be joined to later ones
      pub pass_stays : from (n i) ≡ false → IsPass boxes numbers from to start new (i + 1) opened
      pass_stays passes_not = record {
        grows = grows_on boxes start now new h.grows more;
        among = λ k m. taken_has numbers i lt k (inl (h.among k m));
        only = h.only;
        reached = λ c j m le far f t g. ⊎_elim
            (λ (early : Contains (take i numbers) c).
            let r = h.reached c j early (omega (arith, le)) far f t g in
            (r.0, r.1, still r.0 c (open_inside r.0 r.1) g.0 r.2, r.3))
            (λ (same : n i ≡ c). absurd (false≢true (sym passes_not ∙ ap from same ∙ f)))
            (has_more numbers i lt c m);
        joined = all_joined;
      }

      -- it covers the stretch
      module _ (over : covers s (numbered_box boxes (n i)) ≡ true) (passes : from (n i) ≡ true) (left : List ℕ)
          (top : IsHighestOf boxes (n i) opened left) where
        this_in : Contains numbers (n i)
        this_in = number_in numbers i lt

        top_taken : Contains (take (i + 1) numbers) top.number
        top_taken = taken_has numbers i lt top.number (⊎_elim (λ (same : top.number ≡ n i). inr (sym same))
            (λ (m : Contains opened top.number). inl (h.among top.number m)) top.among)

        top_in : Contains numbers top.number
        top_in = whole_has numbers (i + 1) top.number top_taken

        top_passes : from top.number ≡ true
        top_passes = ⊎_elim (λ (same : top.number ≡ n i). ap from same ∙ passes)
            (λ (m : Contains opened top.number). h.only top.number m) top.among

        low_le : (k : ℕ) → Contains (take (i + 1) numbers) k → low k ≤ℤ low (n i)
        low_le k m =
            let at = index_in_first numbers (i + 1) k m in
            subst (λ z. low z ≤ℤ low (n i)) at.3 (by_bottom at.0 i (omega (arith, at.1)) lt)

        this_upright : low (n i) ≤ℤ high (n i)
        this_upright = upright (n i) this_in

        top_root : root_of new top.number ≡ root_of new (n i)
        top_root = ⊎_elim (λ (same : top.number ≡ n i). ap (root_of new) same)
            (λ (m : Contains opened top.number).
            let below = low_le top.number top_taken in
            sym (taken top.number m (meets (n i) top.number this_in top_in over (omega (arith, ints, this_upright, top.above))
            (omega (arith, ints, below, this_upright)))))
            top.among

        -- whom a high enough one of those so far would touch, the highest touches
        top_meets : (j : ℕ) → i + 1 ≤ j → j < length numbers → to (n j) ≡ true → low (n j) ≤ℤ high top.number
            → AreJoined boxes top.number (n j)
        top_meets j le far t reach =
            let below = low_le top.number top_taken in
            let later = by_bottom i j (omega arith) far in
            let up = upright (n j) (number_in numbers j far) in
            meet top.number (n j) top_in (number_in numbers j far) top_passes t (omega (arith, ints, below, later, up)) reach

        covered_reached : (c j : ℕ) → Contains (take (i + 1) numbers) c → i + 1 ≤ j → j < length numbers → from c ≡ true → to (n j) ≡ true
            → AreJoined boxes c (n j) → (root_of new top.number ≡ root_of new c) × AreJoined boxes top.number (n j)
        covered_reached c j m le far f t g = ⊎_elim
            (λ (early : Contains (take i numbers) c).
            let r = h.reached c j early (omega (arith, le)) far f t g in
            let rows = rows_of boxes r.0 (n j) r.3 in
            let below = low_le r.0 (taken_has numbers i lt r.0 (inl (h.among r.0 r.1))) in
            let later = by_bottom i j (omega arith) far in
            let pair = meets (n i) r.0 this_in (whole_has numbers i r.0 (h.among r.0 r.1)) over (omega (arith, ints, later, rows.1))
            (omega (arith, ints, below, this_upright)) in
            let higher = top.highest r.0 r.1 in (
              top_root ∙ taken r.0 r.1 pair ∙ still r.0 c (open_inside r.0 r.1) g.0 r.2,
              top_meets j le far t (omega (arith, ints, rows.1, higher)),
            ))
            (λ (same : n i ≡ c).
            let rows = rows_of boxes c (n j) g in
            let higher = subst (λ z. high z ≤ℤ high top.number) same top.above in (
              top_root ∙ ap (root_of new) same,
              top_meets j le far t (omega (arith, ints, rows.1, higher)),
            ))
            (has_more numbers i lt c m)

        pub pass_covered : IsPass boxes numbers from to start new (i + 1) left
        pass_covered = record {
          grows = grows_on boxes start now new h.grows more;
          among = λ k m. subst (λ z. Contains (take (i + 1) numbers) z) (one_has left top.number k top.alone m) top_taken;
          only = λ k m. subst (λ z. from z ≡ true) (one_has left top.number k top.alone m) top_passes;
          reached = λ c j m le far f t g.
              let r = covered_reached c j m le far f t g in (top.number, has_one left top.number top.alone, r.0, r.1);
          joined = all_joined;
        }

    -- it isn't to be joined to earlier ones
    pub pass_opens : from (n i) ≡ true → to (n i) ≡ false → (left : List ℕ) → left ≡ opened ++ n i ∷ []
        → IsPass boxes numbers from to start now (i + 1) left
    pass_opens passes to_not left pushed = record {
      grows = h.grows;
      among = λ k m. ⊎_elim (λ (early : Has opened k). taken_has numbers i lt k (inl (h.among k (contains opened k early))))
          (λ (here : Has (n i ∷ []) k). taken_has numbers i lt k (inr (one_has (n i ∷ []) (n i) k refl (contains (n i ∷ []) k here))))
          (has-append opened (n i ∷ []) k (subst (λ l. Has l k) pushed (has left k m)));
      only = λ k m. ⊎_elim (λ (early : Has opened k). h.only k (contains opened k early))
          (λ (here : Has (n i ∷ []) k).
          subst (λ z. from z ≡ true) (one_has (n i ∷ []) (n i) k refl (contains (n i ∷ []) k here)) passes)
          (has-append opened (n i ∷ []) k (subst (λ l. Has l k) pushed (has left k m)));
      reached = λ c j m le far f t g. ⊎_elim
          (λ (early : Contains (take i numbers) c).
          let r = h.reached c j early (omega (arith, le)) far f t g in
          (r.0, subst (λ l. Contains l r.0) (sym pushed) (more_has opened (n i) r.0 (inl r.1)), r.2, r.3))
          (λ (same : n i ≡ c).
          (c, subst (λ l. Contains l c) (sym pushed) (more_has opened (n i) c (inr same)), refl, g))
          (has_more numbers i lt c m);
      joined = λ k j before first far f t g. ⊎_elim (λ (early : j < i). h.joined k j before early far f t g)
          (λ (late : i ≤ j).
          let same : i ≡ j = omega arith in
          absurd (false≢true (sym to_not ∙ ap (λ z. to (n z)) same ∙ t))) (cases_lt j i);
    }

-- ---- both passes
pub covers_joined : (boxes : List Rect) (s : Stretch) (numbers mid new : List ℕ) → length mid ≡ length boxes → Grows boxes mid new
    → AreJoinedDown boxes s numbers mid → AreJoinedUp boxes s numbers new → AreCoversJoined boxes s numbers new
covers_joined boxes s numbers mid new each more down up a b ma mb over g =
    let at = index_in numbers a ma in
    let bt = index_in numbers b mb in
    coe 0 1 (k. root_of new (at.2 k) ≡ root_of new (bt.2 k)) (by_index at.0 bt.0 at.1 bt.1
    (subst (λ z. covers s (numbered_box boxes z) ≡ true) (sym at.2) over)
    (coe 1 0 (k. AreJoined boxes (at.2 k) (bt.2 k)) g))
  where
    by_index : (i j : ℕ) → i < length numbers → j < length numbers → covers s (numbered_box boxes (get_or numbers i 0)) ≡ true
        → AreJoined boxes (get_or numbers i 0) (get_or numbers j 0)
        → root_of new (get_or numbers i 0) ≡ root_of new (get_or numbers j 0)
    by_index i j li lj c g = ⊎_elim (λ (before : i < j). up i j before lj c g)
        (λ (behind : j ≤ i). ⊎_elim
        (λ (before : j < i). sym (more.kept (get_or numbers j 0) (get_or numbers i 0) (omega (arith, each, g.1)) (omega (arith, each, g.0))
        (down j i before li c (joined_back boxes (get_or numbers i 0) (get_or numbers j 0) g))))
        (λ (same : i ≤ j). let e : i ≡ j = omega arith in ap (λ z. root_of new (get_or numbers z 0)) e) (cases_lt j i))
        (cases_lt i j)

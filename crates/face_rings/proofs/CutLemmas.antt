-- Lists of boxes divided by a column: two that touch are both on one side of it, or one of them covers the stretch.
use Rattle.std.proofs.Common.{◌≡◌, ◌⊎◌, inl, inr, ℕ, ◌+◌, ◌<◌, ◌≤◌, Bool, true, false, ◌||◌, List, [], ◌∷◌, ◌++◌, length, take}
use Rattle.std.proofs.Common.{get_or, ℤ, ◌<ℤ◌, ◌≤ℤ◌, refl, sym, ap, subst, ◌∙◌, ⊎_elim, arith, length-append}
use Rattle.std.specs.Prelude.{Contains, All, not, int_le, int_lt}
use Rattle.std.proofs.lemmas.Bool.{and_from, and_parts, cases_lt, false≢true, or_left, or_right}
use Rattle.std.proofs.lemmas.List.{get_or_append_left, get_or_default, get_or_push, take_more}
use Rattle.std.proofs.lemmas.Int.{ints}
use Rattle.lay_point.proofs.Members.{Has, contains, has, has-append}
use Rattle.lay_point.proofs.Tests.{le_true, true_lt}
use Rattle.lay_point.specs.declared.rect.Rect.{Rect}
use Rattle.lay_point.specs.Rects.{is_up_to, touch}
use Rattle.face_ring_laws.specs.Parts.{AreJoined}
use Rattle.face_rings.specs.declared.cut.Cut.{Cut}
use Rattle.face_rings.specs.Forest.{root_of}
use Rattle.face_rings.specs.Joining.{AreByBottom, AreCoversJoined, Grows, IsPartOf, Joins, numbered_box, box_reaches_high, box_reaches_low}
use Rattle.face_rings.specs.Joining.{covers}
use Rattle.face_rings.proofs.JoinLemmas.{grows_on, has_more, index_in_first, joined_back, more_has, nowhere}

-- ---- two that touch both reach one side of a line
-- along one axis, of boxes from a to b and from c to d
one_side : (at a b c d : ℤ) → int_le a d ≡ true → int_le c b ≡ true
    → (((int_le a at || int_le b at) ≡ true) × ((int_le c at || int_le d at) ≡ true))
    ⊎ (((int_lt at a || int_lt at b) ≡ true) × ((int_lt at c || int_lt at d) ≡ true))
one_side at a b c d h g = by_tests (int_le a at || int_le b at) (int_le c at || int_le d at) refl refl
  where
    above : (a b : ℤ) → (int_le a at || int_le b at) ≡ false → (at <ℤ a) × (at <ℤ b)
    above a b h = (grind (arith, ints), grind (arith, ints))

    by_tests : (s t : Bool) → (int_le a at || int_le b at) ≡ s → (int_le c at || int_le d at) ≡ t
        → (((int_le a at || int_le b at) ≡ true) × ((int_le c at || int_le d at) ≡ true))
        ⊎ (((int_lt at a || int_lt at b) ≡ true) × ((int_lt at c || int_lt at d) ≡ true))
    by_tests true true e f = inl (e, f)
    by_tests false t e f =
        let over = above a b e in
        let reach = le_true a d h in
        inr (
          or_left (int_lt at a) (int_lt at b) (true_lt at a over.0),
          or_right (int_lt at c) (int_lt at d)
              (true_lt at d (omega (arith, ints, over.0, reach))),
        )
    by_tests true false e f =
        let over = above c d f in
        let reach = le_true c b g in
        inr (
          or_right (int_lt at a) (int_lt at b) (true_lt at b (omega (arith, ints, over.0, reach))),
          or_left (int_lt at c) (int_lt at d)
              (true_lt at c over.0),
        )

module _ (b c : Rect) (h : touch b c ≡ true) where
  halves : (is_up_to b.low c.high ≡ true) × (is_up_to c.low b.high ≡ true)
  halves = and_parts (is_up_to b.low c.high) (is_up_to c.low b.high) h

  first : (int_le b.low.x c.high.x ≡ true) × (int_le b.low.y c.high.y ≡ true)
  first = and_parts (int_le b.low.x c.high.x) (int_le b.low.y c.high.y) halves.0

  second : (int_le c.low.x b.high.x ≡ true) × (int_le c.low.y b.high.y ≡ true)
  second = and_parts (int_le c.low.x b.high.x) (int_le c.low.y b.high.y) halves.1

  both_reach : (cut : Cut) → covers cut.stretch b ≡ false → covers cut.stretch c ≡ false
      → ((box_reaches_low cut b ≡ true) × (box_reaches_low cut c ≡ true))
      ⊎ ((box_reaches_high cut b ≡ true) × (box_reaches_high cut c ≡ true))
  both_reach cut b_not c_not = ⊎_elim
      (λ (both : ((int_le b.low.x at || int_le b.high.x at) ≡ true) × ((int_le c.low.x at || int_le c.high.x at) ≡ true)).
      inl (and_from (not (covers cut.stretch b)) _ (ap not b_not) both.0, and_from (not (covers cut.stretch c)) _ (ap not c_not) both.1))
      (λ (both : ((int_lt at b.low.x || int_lt at b.high.x) ≡ true) × ((int_lt at c.low.x || int_lt at c.high.x) ≡ true)).
      inr (and_from (not (covers cut.stretch b)) _ (ap not b_not) both.0, and_from (not (covers cut.stretch c)) _ (ap not c_not) both.1))
      (one_side at b.low.x b.high.x c.low.x c.high.x first.0 second.0)
    where
      at : ℤ
      at = cut.column

-- those that cover the stretch, and the lists of the two sides
module _ (boxes : List Rect) (cut : Cut) (numbers low high old first mid new : List ℕ) (each : length old ≡ length boxes)
    (more : Grows boxes old first) (over : AreCoversJoined boxes cut.stretch numbers first)
    (is_low : IsPartOf (box_reaches_low cut) boxes numbers low) (is_high : IsPartOf (box_reaches_high cut) boxes numbers high)
    (l : Joins boxes low first mid) (h : Joins boxes high mid new) where
  to_end : Grows boxes first new
  to_end = grows_on boxes first mid new l.grows h.grows

  by_cover : (i j : ℕ) → Contains numbers i → Contains numbers j → AreJoined boxes i j → covers cut.stretch (numbered_box boxes i) ≡ true
      → root_of new i ≡ root_of new j
  by_cover i j mi mj g c =
      to_end.kept i j (omega (arith, g.0, each, more.each)) (omega (arith, g.1, each, more.each)) (over i j mi mj c g)

  by_sides : (i j : ℕ) → Contains numbers i → Contains numbers j → AreJoined boxes i j → covers cut.stretch (numbered_box boxes i) ≡ false
      → covers cut.stretch (numbered_box boxes j) ≡ false → root_of new i ≡ root_of new j
  by_sides i j mi mj g ci cj = ⊎_elim
      (λ (both : (box_reaches_low cut (numbered_box boxes i) ≡ true) × (box_reaches_low cut (numbered_box boxes j) ≡ true)).
      h.grows.kept i j (omega (arith, g.0, each, more.each, l.grows.each)) (omega (arith, g.1, each, more.each, l.grows.each))
      (l.joined i j (is_low.all i nowhere mi both.0) (is_low.all j nowhere mj both.1) g))
      (λ (both : (box_reaches_high cut (numbered_box boxes i) ≡ true) × (box_reaches_high cut (numbered_box boxes j) ≡ true)).
      h.joined i j (is_high.all i nowhere mi both.0) (is_high.all j nowhere mj both.1) g)
      (both_reach (numbered_box boxes i) (numbered_box boxes j) (g.2 nowhere) cut ci cj)

  by_tests : (i j : ℕ) → Contains numbers i → Contains numbers j → AreJoined boxes i j → (s t : Bool)
      → covers cut.stretch (numbered_box boxes i) ≡ s → covers cut.stretch (numbered_box boxes j) ≡ t → root_of new i ≡ root_of new j
  by_tests i j mi mj g true t ci cj = by_cover i j mi mj g ci
  by_tests i j mi mj g false true ci cj = sym (by_cover j i mj mi (joined_back boxes i j g) cj)
  by_tests i j mi mj g false false ci cj = by_sides i j mi mj g ci cj

  pub joined_by_sides : Joins boxes numbers old new
  joined_by_sides = record {
    grows = grows_on boxes old first new more to_end;
    joined = λ i j mi mj g. by_tests i j mi mj g (covers cut.stretch (numbered_box boxes i)) (covers cut.stretch (numbered_box boxes j))
        refl refl;
  }

-- ---- parts of a list
abbrev low_side : List Rect → ℕ → ℤ
low_side boxes k = (numbered_box boxes k).low.y

-- what is pushed lies no lower than the others
pushed_by_bottom : (boxes : List Rect) (part : List ℕ) (n : ℕ) → AreByBottom boxes part
    → ((k : ℕ) → Contains part k → (numbered_box boxes k).low.y ≤ℤ (numbered_box boxes n).low.y) → AreByBottom boxes (part ++ n ∷ [])
pushed_by_bottom boxes part n h above i j le lt = ⊎_elim
    (λ (early : j < length part). coe 1 0 (t. low_side boxes (get_or_append_left part (n ∷ []) 0 i (omega arith) t) ≤ℤ low_side boxes
    (get_or_append_left part (n ∷ []) 0 j early t)) (h i j le early))
    (λ (late : length part ≤ j).
    let last : j ≡ length part = omega (arith, length-append part (n ∷ [])) in
    coe 1 0 (t. low_side boxes (get_or (part ++ n ∷ []) i 0) ≤ℤ low_side boxes (get_or_push part n 0 j (sym last) t))
    (to_last i (omega arith)))
    (cases_lt j (length part))
  where
    to_last : (i : ℕ) → i ≤ length part → low_side boxes (get_or (part ++ n ∷ []) i 0) ≤ℤ low_side boxes n
    to_last i le = ⊎_elim
        (λ (early : i < length part). coe 1 0 (t. low_side boxes (get_or_append_left part (n ∷ []) 0 i early t) ≤ℤ low_side boxes n)
        (above (get_or part i 0) (i, early, get_or_default part i (get_or part i 0) 0 early)))
        (λ (late : length part ≤ i).
        let last : i ≡ length part = omega arith in
        coe 1 0 (t. low_side boxes (get_or_push part n 0 i (sym last) t) ≤ℤ low_side boxes n) (omega (arith, ints)))
        (cases_lt i (length part))

before_by_bottom : (boxes : List Rect) (numbers : List ℕ) (i k : ℕ) → AreByBottom boxes numbers → i < length numbers
    → Contains (take i numbers) k → (numbered_box boxes k).low.y ≤ℤ (numbered_box boxes (get_or numbers i 0)).low.y
before_by_bottom boxes numbers i k h lt m =
    let at = index_in_first numbers i k m in
    subst (λ z. (numbered_box boxes z).low.y ≤ℤ (numbered_box boxes (get_or numbers i 0)).low.y) at.3 (h at.0 i (omega (arith, at.1)) lt)

module _ (test : Rect → Bool) (boxes : List Rect) (numbers part : List ℕ) (i : ℕ) (b : Rect) (lt : i < length numbers)
    (inside : get_or numbers i 0 < length boxes) (is_b : b ≡ get_or boxes (get_or numbers i 0) b) (by_bottom : AreByBottom boxes numbers)
    (h : IsPartOf test boxes (take i numbers) part) where
  abbrev n : ℕ
  n = get_or numbers i 0

  grown : (k : ℕ) → Contains (take i numbers) k ⊎ (n ≡ k) → Contains (take (i + 1) numbers) k
  grown k m = subst (λ l. Contains l k) (sym (take_more numbers i 0 lt)) (more_has (take i numbers) n k m)

  pub part_takes : (part' : List ℕ) → part' ≡ part ++ n ∷ [] → IsPartOf test boxes (take (i + 1) numbers) part'
  part_takes part' pushed = record {
    among = λ k m. ⊎_elim (λ (early : Has part k). grown k (inl (h.among k (contains part k early))))
        (λ (here : Has (n ∷ []) k). ⊎_elim (λ (same : n ≡ k). grown k (inr same)) (λ (none : ⊥). absurd none) here)
        (has-append part (n ∷ []) k (subst (λ l. Has l k) pushed (has part' k m)));
    all = λ k d m passes. subst (λ l. Contains l k) (sym pushed)
        (more_has part n k (⊎_elim (λ (early : Contains (take i numbers) k). inl (h.all k d early passes))
        (λ (same : n ≡ k). inr same) (has_more numbers i lt k m)));
    by_bottom = subst (AreByBottom boxes) (sym pushed) (pushed_by_bottom boxes part n h.by_bottom
        (λ k m. before_by_bottom boxes numbers i k by_bottom lt (h.among k m)));
  }

  pub part_skips : test b ≡ false → IsPartOf test boxes (take (i + 1) numbers) part
  part_skips fails = record {
    among = λ k m. grown k (inl (h.among k m));
    all = λ k d m passes. ⊎_elim (λ (early : Contains (take i numbers) k). h.all k d early passes)
        (λ (same : n ≡ k).
        let at : b ≡ get_or boxes k d = is_b ∙ get_or_default boxes n b d inside ∙ ap (λ z. get_or boxes z d) same in
        absurd (false≢true (sym fails ∙ ap test at ∙ passes)))
        (has_more numbers i lt k m);
    by_bottom = h.by_bottom;
  }

pub inside_part : (test : Rect → Bool) (boxes : List Rect) (numbers part : List ℕ) → All (λ k. k < length boxes) numbers
    → IsPartOf test boxes numbers part → (k : ℕ) → Contains part k → k < length boxes
inside_part test boxes numbers part inside h k m = at (h.among k m)
  where
    at : Contains numbers k → k < length boxes
    at (i, lt, same) = subst (λ z. z < length boxes) (get_or_default numbers i 0 k lt ∙ same) (inside i 0 lt)

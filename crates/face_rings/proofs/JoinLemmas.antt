-- How joining goes on: pair by pair, and from one list to the next.
use Rattle.std.proofs.Common.{◌≡◌, ◌≢◌, ◌⊎◌, inl, inr, ℕ, ◌+◌, ◌<◌, ◌≤◌, true, false, List, [], ◌∷◌, ◌++◌, length, take}
use Rattle.std.proofs.Common.{get_or, Result, Ok, Err}
use Rattle.std.proofs.Common.{pos, sym, ap, subst, ◌∙◌, ⊎_elim, arith}
use Rattle.std.specs.Prelude.{Contains, All, OnOk, max, min}
use Rattle.std.proofs.lemmas.Bool.{and_from, and_parts, cases_lt, false≢true}
use Rattle.std.proofs.lemmas.List.{get_or-take, get_or_default, length-take, take_more}
use Rattle.lay_point.proofs.Members.{Has, contains, has, has-append, has-append_left, has-append_right}
use Rattle.lay_point.specs.declared.rect.Rect.{Rect}
use Rattle.lay_point.specs.Rects.{is_up_to, touch}
use Rattle.face_ring_laws.specs.Parts.{AreJoined}
use Rattle.face_ring_laws.specs.Heads.{IsFinest}
use Rattle.face_ring_laws.proofs.PartLemmas.{joined_by_boxes}
use Rattle.face_rings.specs.Forest.{IsForest, root_of, united}
use Rattle.face_rings.specs.Joining.{AreOnlyJoined, Grows, Joins}
use Rattle.face_rings.proofs.ForestLemmas.{root_ends, root_le, root_of_own, united_cases}

-- ---- trees that grow
pub grows_on : (boxes : List Rect) (a b c : List ℕ) → Grows boxes a b → Grows boxes b c → Grows boxes a c
grows_on boxes a b c g h = record {
  each = h.each ∙ g.each;
  forest = h.forest;
  only = λ o. h.only (g.only o);
  kept = λ i j li lj e. h.kept i j (omega (arith, li, g.each)) (omega (arith, lj, g.each)) (g.kept i j li lj e);
}

-- the trees of two that are joined are united
module _ (boxes : List Rect) (old new : List ℕ) (i j : ℕ) (joined : AreJoined boxes i j) (each : length old ≡ length boxes)
    (same : length new ≡ length old) (forest : IsForest new)
    (roots : (k : ℕ) → k < length old → root_of new k ≡ united (root_of old i) (root_of old j) (root_of old k)) where
  abbrev p : ℕ
  p = root_of old i

  abbrev q : ℕ
  q = root_of old j

  abbrev goes : ℕ → Type 0
  goes r = (r ≡ max p q) × (united p q r ≡ min p q)

  abbrev stays : ℕ → Type 0
  stays r = (r ≢ max p q) × (united p q r ≡ r)

  module _ (o : AreOnlyJoined boxes old) (other : ℕ → ℕ) (respects : (a b : ℕ) → AreJoined boxes a b → other a ≡ other b) where
    together : (a b : ℕ) → a < length boxes → b < length boxes → root_of old a ≡ root_of old b → other a ≡ other b
    together = o other respects

    -- one whose root goes, and one whose root is the one that stays
    across : (a b : ℕ) → a < length boxes → b < length boxes → root_of old a ≡ max p q → root_of old b ≡ min p q → other a ≡ other b
    across a b la lb ra rb = ⊎_elim
        (λ (e : (min p q ≡ p) × (max p q ≡ q)).
        together a j la joined.1 (ra ∙ e.1) ∙ sym (respects i j joined) ∙ together i b joined.0 lb (sym (rb ∙ e.0)))
        (λ (e : (min p q ≡ q) × (max p q ≡ p)).
        together a i la joined.0 (ra ∙ e.1) ∙ respects i j joined ∙ together j b joined.1 lb (sym (rb ∙ e.0)))
        (lesser_greater p q)
      where
        lesser_greater : (a b : ℕ) → ((min a b ≡ a) × (max a b ≡ b)) ⊎ ((min a b ≡ b) × (max a b ≡ a))
        lesser_greater a b = ⊎_elim (λ (less : a < b). inl (omega arith, omega arith)) (λ (le : b ≤ a). inr (omega arith, omega arith))
            (cases_lt a b)

    still_together : (a b : ℕ) → a < length boxes → b < length boxes → root_of new a ≡ root_of new b → other a ≡ other b
    still_together a b la lb e =
        let f = sym (roots a (omega (arith, la))) ∙ e ∙ roots b (omega (arith, lb)) in
        ⊎_elim
        (λ (ga : goes (root_of old a)). ⊎_elim (λ (gb : goes (root_of old b)). together a b la lb (ga.0 ∙ sym gb.0))
        (λ (sb : stays (root_of old b)). across a b la lb ga.0 (sym sb.1 ∙ sym f ∙ ga.1)) (united_cases p q (root_of old b)))
        (λ (sa : stays (root_of old a)). ⊎_elim (λ (gb : goes (root_of old b)). sym (across b a lb la gb.0 (sym sa.1 ∙ f ∙ gb.1)))
        (λ (sb : stays (root_of old b)). together a b la lb (sym sa.1 ∙ f ∙ sb.1)) (united_cases p q (root_of old b)))
        (united_cases p q (root_of old a))

  pub grows_united : Grows boxes old new
  grows_united = record {
    each = same;
    forest = forest;
    only = λ o other respects a b la lb e. still_together o other respects a b la lb e;
    kept = λ a b la lb e. roots a la ∙ ap (united p q) e ∙ sym (roots b lb);
  }

  pub now_together : root_of new i ≡ root_of new j
  now_together = roots i (omega (arith, joined.0)) ∙ left ∙ sym right ∙ sym (roots j (omega (arith, joined.1)))
    where
      left : united p q p ≡ min p q
      left = ⊎_elim (λ (g : goes p). g.1) (λ (s : stays p). s.1 ∙ omega (arith, s.0)) (united_cases p q p)

      right : united p q q ≡ min p q
      right = ⊎_elim (λ (g : goes q). g.1) (λ (s : stays q). s.1 ∙ omega (arith, s.0)) (united_cases p q q)

-- ---- boxes that touch
abbrev pub nowhere : Rect
nowhere = record { low = record { x = pos 0; y = pos 0 }; high = record { x = pos 0; y = pos 0 } }

pub joined_back : (boxes : List Rect) (i j : ℕ) → AreJoined boxes i j → AreJoined boxes j i
joined_back boxes i j g = (
  g.1,
  g.0,
  (λ d.
      let b = get_or boxes i d in
      let c = get_or boxes j d in
      let both = and_parts (is_up_to b.low c.high) (is_up_to c.low b.high) (g.2 d) in
      and_from (is_up_to c.low b.high) (is_up_to b.low c.high) both.1 both.0),
)

-- ---- lists, number by number
pub index_in_first : (numbers : List ℕ) (i k : ℕ) → Contains (take i numbers) k
    → (m : ℕ) × (m < i) × (m < length numbers) × (get_or numbers m 0 ≡ k)
index_in_first numbers i k (m, lt, same) =
    let short : m < min i (length numbers) = omega (arith, lt, length-take i numbers) in
    let first : m < i = omega (arith, short) in
    let inside : m < length numbers = omega (arith, short) in
    (m, first, inside, get_or_default numbers m 0 k inside ∙ sym (get_or-take i numbers m k first) ∙ same)

pub has_more : (numbers : List ℕ) (i : ℕ) → i < length numbers → (k : ℕ) → Contains (take (i + 1) numbers) k
    → Contains (take i numbers) k ⊎ (get_or numbers i 0 ≡ k)
has_more numbers i lt k m = ⊎_elim (λ (early : Has (take i numbers) k). inl (contains (take i numbers) k early))
    (λ (here : Has (get_or numbers i 0 ∷ []) k). ⊎_elim (λ (same : get_or numbers i 0 ≡ k). inr same) (λ (none : ⊥). absurd none) here)
    (has-append (take i numbers) (get_or numbers i 0 ∷ []) k
    (subst (λ l. Has l k) (take_more numbers i 0 lt) (has (take (i + 1) numbers) k m)))

pub more_has : (xs : List ℕ) (n k : ℕ) → Contains xs k ⊎ (n ≡ k) → Contains (xs ++ n ∷ []) k
more_has xs n k (inl m) = contains (xs ++ n ∷ []) k (has-append_left xs (n ∷ []) k (has xs k m))
more_has xs n k (inr same) = contains (xs ++ n ∷ []) k (has-append_right xs (n ∷ []) k (inl same))

-- ---- those that are joined to one
-- those of the first i numbers that are joined to it are in its tree
pub record IsJoining (boxes : List Rect) (start now : List ℕ) (one : ℕ) (numbers : List ℕ) (i : ℕ) : Type 0 where
  pub grows : Grows boxes start now
  pub inside : (k : ℕ) → Contains (take i numbers) k → k < length boxes
  pub joined : (k : ℕ) → Contains (take i numbers) k → AreJoined boxes one k → root_of now one ≡ root_of now k

module _ (boxes : List Rect) (start now : List ℕ) (one : ℕ) (numbers : List ℕ) (i : ℕ) (b c : Rect)
    (h : IsJoining boxes start now one numbers i) (each : length start ≡ length boxes) (lt : i < length numbers)
    (one_inside : one < length boxes) (inside : get_or numbers i 0 < length boxes) (is_b : b ≡ get_or boxes one b)
    (is_c : c ≡ get_or boxes (get_or numbers i 0) c) where
  next_inside : (k : ℕ) → Contains (take (i + 1) numbers) k → k < length boxes
  next_inside k m = ⊎_elim (λ (early : Contains (take i numbers) k). h.inside k early)
      (λ (same : get_or numbers i 0 ≡ k). subst (λ z. z < length boxes) same inside) (has_more numbers i lt k m)

  pub joining_takes : (new : List ℕ) → touch b c ≡ true → length new ≡ length now → IsForest new
      → ((k : ℕ) → k < length now → root_of new k ≡ united (root_of now one) (root_of now (get_or numbers i 0)) (root_of now k))
      → IsJoining boxes start new one numbers (i + 1)
  joining_takes new touching same forest roots = record {
    grows = grows_on boxes start now new h.grows more;
    inside = next_inside;
    joined = λ k m g. ⊎_elim (λ (early : Contains (take i numbers) k). still k (h.inside k early) (h.joined k early g))
        (λ (e : get_or numbers i 0 ≡ k). subst (λ z. root_of new one ≡ root_of new z) e here) (has_more numbers i lt k m);
  }
    where
      whole : length now ≡ length boxes
      whole = h.grows.each ∙ each

      pair : AreJoined boxes one (get_or numbers i 0)
      pair = joined_by_boxes boxes one (get_or numbers i 0) b c one_inside inside is_b is_c touching

      more : Grows boxes now new
      more = grows_united boxes now new one (get_or numbers i 0) pair whole same forest roots

      here : root_of new one ≡ root_of new (get_or numbers i 0)
      here = now_together boxes now new one (get_or numbers i 0) pair whole same forest roots

      still : (k : ℕ) → k < length boxes → root_of now one ≡ root_of now k → root_of new one ≡ root_of new k
      still k lt e = more.kept one k (omega (arith, whole, one_inside)) (omega (arith, whole)) e

  pub joining_skips : touch b c ≡ false → IsJoining boxes start now one numbers (i + 1)
  joining_skips apart = record {
    grows = h.grows;
    inside = next_inside;
    joined = λ k m g. ⊎_elim (λ (early : Contains (take i numbers) k). h.joined k early g)
        (λ (e : get_or numbers i 0 ≡ k).
        let at_one : b ≡ get_or boxes one c = is_b ∙ get_or_default boxes one b c one_inside in
        let at_k : c ≡ get_or boxes k c = is_c ∙ ap (λ z. get_or boxes z c) e in
        let touching : touch b c ≡ true = (λ t. touch (at_one t) (at_k t)) ∙ g.2 c in
        absurd (false≢true (sym apart ∙ touching)))
        (has_more numbers i lt k m);
  }

-- ---- those that are joined pair by pair
pub record IsPairing (boxes : List Rect) (start now numbers : List ℕ) (n : ℕ) : Type 0 where
  pub grows : Grows boxes start now
  pub joined : (i j : ℕ) → Contains (take n numbers) i → Contains numbers j → AreJoined boxes i j → root_of now i ≡ root_of now j

pub pairing_next : (boxes : List Rect) (start now new numbers : List ℕ) (n : ℕ) → IsPairing boxes start now numbers n
    → length start ≡ length boxes → n < length numbers → Grows boxes now new
    → ((k : ℕ) → Contains numbers k → AreJoined boxes (get_or numbers n 0) k → root_of new (get_or numbers n 0) ≡ root_of new k)
    → IsPairing boxes start new numbers (n + 1)
pairing_next boxes start now new numbers n h each lt more joined = record {
  grows = grows_on boxes start now new h.grows more;
  joined = λ i j m m' g. ⊎_elim
      (λ (early : Contains (take n numbers) i).
      more.kept i j (omega (arith, each, h.grows.each, g.0)) (omega (arith, each, h.grows.each, g.1)) (h.joined i j early m' g))
      (λ (e : get_or numbers n 0 ≡ i).
      subst (λ z. root_of new z ≡ root_of new j) e (joined j m' (subst (λ z. AreJoined boxes z j) (sym e) g)))
      (has_more numbers n lt i m);
}

-- ---- from one list to the next
pub on_ok : {A E : Type 0} (r : Result A E) (P Q : Type 0) → (P → Q) → OnOk r P → OnOk r Q
on_ok (Ok x) P Q f h = f h
on_ok (Err e) P Q f h = tt

pub on_both : {A E : Type 0} (r : Result A E) (P Q R : Type 0) → (P → Q → R) → OnOk r P → OnOk r Q → OnOk r R
on_both (Ok x) P Q R f h g = f h g
on_both (Err e) P Q R f h g = tt

pub all_inside : (numbers : List ℕ) (n : ℕ) → ((k : ℕ) → Contains numbers k → k < n) → All (λ k. k < n) numbers
all_inside numbers n h i d lt = h (get_or numbers i d) (i, lt, sym (get_or_default numbers i d (get_or numbers i d) lt))

-- ---- in the end
pub finest_of_roots : (boxes : List Rect) (start ps heads : List ℕ) → length start ≡ length boxes
    → ((k : ℕ) → k < length boxes → get_or start k 0 ≡ k) → (numbers : List ℕ) → ((k : ℕ) → k < length boxes → Contains numbers k)
    → Joins boxes numbers start ps → length heads ≡ length ps → ((k : ℕ) → k < length ps → get_or heads k 0 ≡ root_of ps k)
    → IsFinest (AreJoined boxes) (length boxes) heads
finest_of_roots boxes start ps heads each lone numbers all h same roots = record {
  each = same ∙ h.grows.each ∙ each;
  first = first;
  joined = λ i j touching. at i touching.0 ∙ h.joined i j (all i touching.0) (all j touching.1) touching ∙ sym (at j touching.1);
  finest = λ other respects i j li lj e. h.grows.only alone other respects i j li lj (sym (at i li) ∙ e ∙ at j lj);
}
  where
    inside : (k : ℕ) → k < length boxes → k < length ps
    inside k lt = omega (arith, h.grows.each, each)

    at : (k : ℕ) → k < length boxes → get_or heads k 0 ≡ root_of ps k
    at k lt = roots k (inside k lt)

    first : (k : ℕ) → k < length heads → (get_or heads k 0 ≤ k) × (get_or heads (get_or heads k 0) 0 ≡ get_or heads k 0)
    first k lt =
        let l : k < length ps = omega (arith, same) in
        let le = root_le ps h.grows.forest k l in
        let is_root = roots k l in (
          omega (arith, is_root, le),
          ap (λ z. get_or heads z 0) is_root ∙ roots (root_of ps k) (omega (arith, le))
              ∙ root_of_own ps (root_of ps k) (root_ends ps h.grows.forest k l) ∙ sym is_root,
        )

    alone : AreOnlyJoined boxes start
    alone other respects i j li lj e =
        ap other (sym (root_of_own start i (lone i li)) ∙ e ∙ root_of_own start j (lone j lj))

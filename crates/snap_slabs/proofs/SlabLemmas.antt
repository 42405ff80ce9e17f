-- Slabs: the one of the quotient of an index holds the centre at that index.
use Rattle.std.proofs.Common.{◌≡◌, ◌↔◌, ◌⊎◌, ⊎_elim, inl, inr, ℕ, zero, suc, ◌+◌, ◌-◌, ◌*◌, ◌/◌, ◌%◌, ◌<◌, ◌≤◌}
use Rattle.std.proofs.Common.{List, [], ◌∷◌, ◌++◌, length, get_or, take, drop, refl, sym, ap, ◌∙◌, subst, arith, Contains}
use Rattle.std.specs.Prelude.{flat_map, slice_range}
use Rattle.std.proofs.lemmas.Nat.{div-add-mod', mod_below}
use Rattle.std.proofs.lemmas.List.{drop-drop, get_or-drop, get_or-take, length-drop, length-take, take_more}
use Rattle.std.proofs.lemmas.List.Elements.{Contains-append_cases, Contains-append_left, Contains-append_right}
use native.Mathlib.Nat.{suc-mul}
use Rattle.lay_point.specs.declared.point.Point.{Point}
use Rattle.snap_pixels.specs.Order.{AreTransposed, transposed}
use Rattle.snap_pixels.specs.Segments.{Meets}
use Rattle.snap_pixels.proofs.StripLemmas.{div_mono}
use Rattle.lay_point.proofs.Members.{Has, has, contains, has-append}
use Rattle.lay_point.proofs.ListLaws.{get_or-slice_range}
use Rattle.snap_slabs.specs.Columns.{HoldMet}
use Rattle.snap_slabs.specs.Slabs.{AreSlabs, HoldPlaces, points_in}
use Rattle.snap_slabs.proofs.ColumnLemmas.{meets_turned}
use Rattle.snap_slabs.proofs.OwnedLemmas.{Contains-flat_map}
use Rattle.snap_slabs.proofs.Sorted.{ArePassed}

-- ---- cutting
-- the centres behind so many slabs
abbrev pub behind : ℕ → List Point → List (List Point) → List Point
behind size cs [] = cs
behind size cs (s ∷ slabs) = behind size (drop size cs) slabs

pub one_slab_more : (size : ℕ) (cs rest : List Point) (slabs : List (List Point)) (s : List Point) → AreSlabs size cs slabs
    → rest ≡ behind size cs slabs → AreTransposed (take size rest) s → AreSlabs size cs (slabs ++ s ∷ [])
one_slab_more size cs rest [] s h e turn = (subst (λ l. AreTransposed (take size l) s) e turn, tt)
one_slab_more size cs rest (t ∷ slabs) s h e turn = (h.0, one_slab_more size (drop size cs) rest slabs s h.1 e turn)

pub behind-push : (size : ℕ) (cs rest : List Point) (slabs : List (List Point)) (s : List Point) → rest ≡ behind size cs slabs
    → drop size rest ≡ behind size cs (slabs ++ s ∷ [])
behind-push size cs rest [] s e = ap (drop size) e
behind-push size cs rest (t ∷ slabs) s e = behind-push size (drop size cs) rest slabs s e

-- ---- finding
slab_at : (size : ℕ) (cs : List Point) (slabs : List (List Point)) → AreSlabs size cs slabs → (k : ℕ) (d : List Point)
    → k < length slabs → AreTransposed (take size (drop (k * size) cs)) (get_or slabs k d)
slab_at size cs [] h k d lt = absurd (omega arith)
slab_at size cs (s ∷ slabs) h zero d lt =
    let none : zero ≡ zero * size = omega arith in
    subst (λ n. AreTransposed (take size (drop n cs)) s) none h.0
slab_at size cs (s ∷ slabs) h (suc k) d lt =
    let later = slab_at size (drop size cs) slabs h.1 k d (omega arith) in
    let place : size + k * size ≡ suc k * size = omega (arith, suc-mul k size) in
    let same = drop-drop (k * size) size cs ∙ ap (λ n. drop n cs) place in
    subst (λ l. AreTransposed (take size l) (get_or slabs k d)) same later

pub in_whole : (size n : ℕ) (cs : List Point) (c : Point) → Contains (take size (drop n cs)) c → Contains cs c
in_whole size n cs c (k, lt, at) =
    let few : k < size = omega (arith, lt, length-take size (drop n cs)) in
    let inside : n + k < length cs = omega (arith, lt, length-take size (drop n cs), length-drop n cs) in
    (n + k, inside, sym (get_or-take size (drop n cs) k c few ∙ get_or-drop n cs k c) ∙ at)

slab_inside : (size : ℕ) (cs : List Point) (slabs : List (List Point)) → AreSlabs size cs slabs → (k : ℕ) (d : List Point)
    → k < length slabs → (c : Point) → Contains (get_or slabs k d) c → Contains cs (transposed c)
slab_inside size cs slabs h k d lt c m = in_whole size (k * size) cs (transposed c) ((slab_at size cs slabs h k d lt (transposed c)).0 m)

slab_has : (size : ℕ) (cs : List Point) (slabs : List (List Point)) → AreSlabs size cs slabs → 0 < size → (i : ℕ) (c : Point)
    → i < length cs → get_or cs i c ≡ c → (d : List Point) → i / size < length slabs
    → Contains (get_or slabs (i / size) d) (transposed c)
slab_has size cs slabs h pos i c lt at d few =
    let k = i / size in
    let r = i % size in
    let whole : k * size + r ≡ i = div-add-mod' i size in
    let small : r < size = mod_below i size pos in
    let there : Contains (take size (drop (k * size) cs)) c = (
      r,
      omega (arith, lt, whole, small, length-take size (drop (k * size) cs), length-drop (k * size) cs),
      get_or-take size (drop (k * size) cs) r c small ∙ get_or-drop (k * size) cs r c ∙ ap (λ j. get_or cs j c) whole ∙ at,
    ) in
    (slab_at size cs slabs h k d few c).1 there

-- ---- slabs that are neighbours
Has-flat_map : {A B : Type 0} (f : A → List B) (xs : List A) (y : B) → Has (flat_map f xs) y
    → (k : ℕ) × (x : A) × (k < length xs) × (get_or xs k x ≡ x) × Contains (f x) y
Has-flat_map f [] y m = absurd m
Has-flat_map f (x ∷ xs) y m = ⊎_elim
    (λ here. (zero, x, omega arith, refl, contains (f x) y here))
    (λ later. let r = Has-flat_map f xs y later in (suc r.0, r.1, omega (arith, r.2), r.3, r.4))
    (has-append (f x) (flat_map f xs) y m)

element : {A : Type 0} (xs : List A) (k : ℕ) → k < length xs → (x : A) × (get_or xs k x ≡ x)
element [] k lt = absurd (omega arith)
element (x ∷ xs) zero lt = (x, refl)
element (x ∷ xs) (suc k) lt = element xs k (omega arith)

length-range : {A : Type 0} (xs : List A) (from to : ℕ) → to ≤ length xs → length (slice_range xs from to) ≡ to - from
length-range xs from to le = omega (arith, le, length-take (to - from) (drop from xs), length-drop from xs)

module _ (size : ℕ) (cs : List Point) (slabs : List (List Point)) (are : AreSlabs size cs slabs) (first end : ℕ)
    (inside : end ≤ length slabs) where
  pub range_inside : (c : Point) → Contains (points_in (slice_range slabs first end)) c → Contains cs (transposed c)
  range_inside c m =
      let found = Has-flat_map (λ (s : List Point). s) (slice_range slabs first end) c
      (has (points_in (slice_range slabs first end)) c m) in
      let k = found.0 in
      let s = found.1 in
      let few : k < end - first = omega (arith, found.2, length-range slabs first end inside) in
      let here : get_or slabs (first + k) s ≡ s = sym (get_or-slice_range slabs first end k s few) ∙ found.3 in
      slab_inside size cs slabs are (first + k) s (omega (arith, few, inside)) c
      (subst (λ (v : List Point). Contains v c) (sym here) found.4)

  pub range_holds : 0 < size → (from to : ℕ) → first ≡ from / size → end ≡ to / size + 1
      → HoldPlaces cs from to (slice_range slabs first end)
  range_holds pos from to is_first is_end i c ge lt below at =
      let k = i / size in
      let low : first ≤ k = omega (arith, is_first, div_mono from i size pos ge) in
      let high : k < end = omega (arith, is_end, div_mono i to size pos (omega (arith, lt))) in
      let few : k - first < end - first = omega (arith, low, high) in
      let back : first + (k - first) ≡ k = omega (arith, low) in
      let there = element slabs k (omega (arith, high, inside)) in
      let s = there.0 in
      let here : get_or (slice_range slabs first end) (k - first) s ≡ s =
      get_or-slice_range slabs first end (k - first) s few ∙ ap (λ j. get_or slabs j s) back ∙ there.1 in
      let held = subst (λ (v : List Point). Contains v (transposed c)) there.1
      (slab_has size cs slabs are pos i c below at s (omega (arith, high, inside))) in
      Contains-flat_map (λ (v : List Point). v) (slice_range slabs first end) (k - first) s
      (points_in (slice_range slabs first end))
      (omega (arith, few, length-range slabs first end inside)) (sym here) refl (transposed c) held

-- ---- what is met in slabs
-- what passes in one more list
pub gathered : {A B : Type 0} (f : A → List B) (P Q : B → Type 0) (g : B → B) (xs : List A) (i : ℕ) (x : A) (part near old new : List B)
    → i < length xs
    → x ≡ get_or xs i x → part ≡ f x → ((c : B) → Contains near c → Contains part c) → ((c : B) → Contains part c → P c → Contains near c)
    → ArePassed P Q g (flat_map f (take i xs)) old → ArePassed P (Contains old) g near new
    → ArePassed P Q g (flat_map f (take (i + 1) xs)) new
gathered {A = A} {B = B} f P Q g xs i x part near old new lt at is inside all so_far added c = (
  (λ m. ⊎_elim
      (λ was. ⊎_elim (λ (begun : Q c). inl begun)
      (λ h. inr (subst (λ l. Contains l (g c)) (sym more) (Contains-append_left _ _ (g c) h.0), h.1))
      ((so_far c).0 was))
      (λ h. inr (
        subst (λ l. Contains l (g c)) (sym more) (Contains-append_right (flat_map f (take i xs)) (f x) (g c)
            (subst (λ l. Contains l (g c)) is (inside (g c) h.0))),
        h.1,
      ))
      ((added c).0 m)),
  (λ h. ⊎_elim
      (λ (begun : Q c). (added c).1 (inl ((so_far c).1 (inl begun))))
      (λ m. ⊎_elim
      (λ was. (added c).1 (inl ((so_far c).1 (inr (was, m.1)))))
      (λ here. (added c).1 (inr (all (g c) (subst (λ l. Contains l (g c)) (sym is) here) m.1, m.1)))
      (Contains-append_cases (flat_map f (take i xs)) (f x) (g c) (subst (λ l. Contains l (g c)) more m.0)))
      h),
) where
  flat_push : (ys : List A) (y : A) → flat_map f (ys ++ y ∷ []) ≡ flat_map f ys ++ f y
  flat_push [] y = nothing (f y)
    where
      nothing : (l : List B) → l ++ [] ≡ l
      nothing [] = refl
      nothing (b ∷ l) = ap (λ r. b ∷ r) (nothing l)
  flat_push (z ∷ ys) y = ap (λ l. f z ++ l) (flat_push ys y) ∙ sym (assoc (f z) (flat_map f ys) (f y))
    where
      assoc : (a b c : List B) → (a ++ b) ++ c ≡ a ++ (b ++ c)
      assoc [] b c = refl
      assoc (u ∷ a) b c = ap (λ r. u ∷ r) (assoc a b c)

  more : flat_map f (take (i + 1) xs) ≡ flat_map f (take i xs) ++ f x
  more = ap (flat_map f) (take_more xs i x lt ∙ ap (λ v. take i xs ++ v ∷ []) (sym at)) ∙ flat_push (take i xs) x

-- of the centres in slabs those that are met, turned back
pub met_in_slabs : (hot old new : List Point) (slabs : List (List Point)) (a b : Point) (from to : ℕ) → HoldMet hot a b (from, to)
    → ((c : Point) → Contains (points_in slabs) c → Contains hot (transposed c)) → HoldPlaces hot from to slabs
    → ArePassed (Meets (transposed a) (transposed b)) (Contains old) transposed (points_in slabs) new
    → (c : Point) → Contains new c ↔ (Contains old c ⊎ (Contains hot c × Meets a b c))
met_in_slabs hot old new slabs a b from to held inside holds are_met c = (
  (λ m. ⊎_elim
      (λ (was : Contains old c). inl was)
      (λ there. inr (inside (transposed c) there.0, meets_turned (transposed a) (transposed b) (transposed c) there.1))
      ((are_met c).0 m)),
  (λ h. ⊎_elim
      (λ (was : Contains old c). (are_met c).1 (inl was))
      (λ m.
      let across = meets_turned a b c m.1 in
      let k = m.0.0 in
      let place = held k c m.0.1 m.0.2 m.1 in
      let there = holds k c place.0 place.1 m.0.1 m.0.2 in
      (are_met c).1 (inr (there, across)))
      h),
)

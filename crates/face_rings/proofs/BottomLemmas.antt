-- Lower sides in order, and the heights of boxes.
use Rattle.std.proofs.Common.{◌≡◌, ℕ, ◌<◌, ◌≤◌, false, List, [], ◌∷◌, length, map, get_or, ℤ, ◌≤ℤ◌, ◌<ℤ◌}
use Rattle.std.proofs.Common.{IfOk, Result, Ok, Err, pos, refl, sym, ap, subst, ◌∙◌, arith}
use Rattle.std.specs.declared.cmp.Ordering.{Ordering}
use Rattle.std.specs.Cmp.{IsTotalOrder}
use Rattle.std.specs.List.Sorted.{IsPermutation, IsSorted}
use Rattle.std.specs.Prelude.{All, Contains}
use Rattle.std.specs.Ordering.{int_cmp, is_lt}
use Rattle.std.proofs.lemmas.Bool.{false≢true}
use Rattle.std.proofs.lemmas.Cmp.{by_ranked, int_cmp_total, int_ranked, nat_cmp_total, on_total, then_total}
use Rattle.std.proofs.lemmas.Int.{clamps, ints}
use Rattle.std.proofs.lemmas.List.{get_or-map, get_or_default, length-map}
use Rattle.std.proofs.lemmas.List.Sorted.{Contains-permutation, IsPermutation-sym, ranks_by, sorted_far}
use Rattle.lay_point.specs.declared.point.Point.{Point}
use Rattle.lay_point.specs.declared.rect.Rect.{Rect}
use Rattle.lay_point.specs.Rects.{grown}
use Rattle.face_ring_laws.specs.Parts.{bounding_box, grown_by}
use Rattle.face_rings.specs.declared.bottoms.Bottom.{Bottom}
use Rattle.face_rings.specs.Bottoms.{AreBottomsOf, IsBottomOf, bottom_cmp}
use Rattle.face_rings.specs.Joining.{AreByBottom, HasHeight, numbered_box}
use Rattle.face_rings.proofs.IncidenceLemmas.{first_not_less}

-- ---- the order
bottom_cmp_total : IsTotalOrder bottom_cmp
bottom_cmp_total = then_total (on_total (λ (b : Bottom). b.y) int_cmp_total) (on_total (λ (b : Bottom). b.number) nat_cmp_total)

le_by_cmp : (x y : ℤ) (o : Ordering) → o ≡ int_cmp x y → is_lt o ≡ false → y ≤ℤ x
le_by_cmp x y o e h = by_ranked (x <ℤ y) (x ≡ y) (y <ℤ x) o (int_ranked x y o e)
    (λ same less. absurd (false≢true (sym h ∙ ap is_lt same))) (λ same equal. omega (arith, ints, equal))
    (λ same more. omega (arith, ints, more))

rise : (bottoms : List Bottom) → IsSorted bottom_cmp bottoms → (i j : ℕ) (d : Bottom) → i ≤ j → j < length bottoms
    → (get_or bottoms i d).y ≤ℤ (get_or bottoms j d).y
rise bottoms h i j d le lt =
    let far = sorted_far (λ x y. is_lt (bottom_cmp x y)) (ranks_by bottom_cmp_total (λ x. x)) bottoms h i j d le lt in
    le_by_cmp (get_or bottoms j d).y (get_or bottoms i d).y _ refl
    (first_not_less (int_cmp (get_or bottoms j d).y (get_or bottoms i d).y) _ far)

-- ---- the lower sides of all boxes
abbrev pub bottom_at : List Rect → ℕ → Bottom
bottom_at boxes k = record { y = (numbered_box boxes k).low.y; number = k }

pub are_bottoms : (boxes : List Rect) (all sorted : List Bottom) → length all ≡ length boxes
    → ((k : ℕ) (d : Bottom) → k < length boxes → get_or all k d ≡ bottom_at boxes k) → IsPermutation all sorted → IsSorted bottom_cmp sorted
    → AreBottomsOf boxes sorted
are_bottoms boxes all sorted each at moved order = record {
  sorted = order;
  exact = λ b. (
    (λ m.
        let c = Contains-permutation sorted all b (IsPermutation-sym all sorted moved) m in
        let lt : c.0 < length boxes = omega (arith, c.1, each) in
        let is : b ≡ bottom_at boxes c.0 = sym c.2 ∙ at c.0 b lt in
        subst (IsBottomOf boxes) (sym is) (lt, refl)),
    (λ h.
        Contains-permutation all sorted b moved
        (b.number, omega (arith, each, h.0), at b.number b h.0 ∙ (λ t. record { y = sym h.1 t; number = b.number }))),
  );
}

-- ---- their numbers
module _ (boxes : List Rect) (bottoms : List Bottom) (numbers : List ℕ) (h : AreBottomsOf boxes bottoms)
    (is : numbers ≡ map (λ b. b.number) bottoms) where
  each : length numbers ≡ length bottoms
  each = ap length is ∙ length-map bottoms (λ (b : Bottom). b.number)

  abbrev none : Bottom
  none = record { y = pos 0; number = 0 }

  number_at : (i d : ℕ) → i < length numbers → get_or numbers i d ≡ (get_or bottoms i none).number
  number_at i d lt = ap (λ l. get_or l i d) is ∙ get_or-map (λ (b : Bottom). b.number) bottoms i none d (omega (arith, each))

  own : (i : ℕ) → i < length bottoms → IsBottomOf boxes (get_or bottoms i none)
  own i lt = (h.exact (get_or bottoms i none)).0 (i, lt, get_or_default bottoms i (get_or bottoms i none) none lt)

  pub numbers_inside : All (λ k. k < length boxes) numbers
  numbers_inside i d lt = subst (λ z. z < length boxes) (sym (number_at i d lt)) (own i (omega (arith, each))).0

  pub has_all : (k : ℕ) → k < length boxes → Contains numbers k
  has_all k lt =
      let c = (h.exact (bottom_at boxes k)).1 (lt, refl) in
      let less : c.0 < length numbers = omega (arith, c.1, each) in
      (c.0, less, number_at c.0 k less ∙ ap (λ (b : Bottom). b.number) (get_or_default bottoms c.0 none (bottom_at boxes k) c.1 ∙ c.2))

  bottom_of : (i : ℕ) → i < length numbers → (get_or bottoms i none).y ≡ (numbered_box boxes (get_or numbers i 0)).low.y
  bottom_of i lt = (own i (omega (arith, each))).1 ∙ ap (λ z. (numbered_box boxes z).low.y) (sym (number_at i 0 lt))

  pub numbers_by_bottom : AreByBottom boxes numbers
  numbers_by_bottom i j le lt =
      coe 0 1 (t. bottom_of i (omega arith) t ≤ℤ bottom_of j lt t) (rise bottoms h.sorted i j none le (omega (arith, each)))

-- ---- boxes have a height
height_grown : (b : Rect) (ps : List Point) → HasHeight b → HasHeight (grown_by b ps)
height_grown b [] h = h
height_grown b (p ∷ ps) h = height_grown (grown b p) ps (omega (arith, ints, clamps, h))

height_box : (ps : List Point) → HasHeight (bounding_box ps)
height_box [] = omega (arith, ints)
height_box (p ∷ ps) = height_grown (record { low = p; high = p }) ps (omega (arith, ints))

pub boxes_have_height : (boxes : List Rect) (rings : List (List Point)) → boxes ≡ map bounding_box rings → All HasHeight boxes
boxes_have_height boxes rings is i d lt =
    let less : i < length rings = omega (arith, ap length is, length-map rings bounding_box) in
    let at : get_or boxes i d ≡ bounding_box (get_or rings i []) = ap (λ l. get_or l i d) is ∙ get_or-map bounding_box rings i [] d less in
    subst HasHeight (sym at) (height_box (get_or rings i []))

pub if_ok : {A E : Type 0} (r : Result A E) (P Q : A → Type 0) → ((x : A) → P x → Q x) → IfOk r P → IfOk r Q
if_ok (Ok x) P Q f h = f x h
if_ok (Err e) P Q f h = tt

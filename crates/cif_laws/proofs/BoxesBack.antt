-- A box that is written is read as the ring that it stands for, begun at its lower left corner.
use Rattle.std.proofs.Common.{◌≡◌, ◌⊎◌, ℕ, ◌/◌, ◌%◌, ◌≤◌, Bool, true, false, cond, not, List, [], ◌∷◌, ◌++◌, Option, None, Some}
use Rattle.std.proofs.Common.{Ok, Err, refl, sym, ap, ◌∙◌, subst, arith, inl, inr, take, drop, reverse, option_and_then, ◌||◌}
use Rattle.std.proofs.Common.{ℤ, pos, negsuc, ◌+ℤ◌, ◌-ℤ◌, ◌*ℤ◌, ◌≤ℤ◌, unsigned_abs, int_lt}
use Rattle.std.specs.Int.{int_min}
use Rattle.std.specs.List.{list_all}
use Rattle.std.proofs.lemmas.Bool.{and_from, and_parts}
use Rattle.std.proofs.lemmas.Bool.Decides.{nat_tests}
use Rattle.std.proofs.lemmas.Int.{ints}
use Rattle.std.proofs.lemmas.Option.{cond_some}
use Rattle.lay_point.specs.declared.point.Point.{Point}
use Rattle.lay_point.specs.Points.{is_coordinate, is_in_range, point_eq}
use Rattle.lay_point.specs.Rings.{rectangle}
use Rattle.lay_point.proofs.RingLemmas.{point_eq-true}
use Rattle.cif_grammar.specs.declared.boxes.BoxNumbers.{BoxNumbers}
use Rattle.cif_grammar.specs.declared.number.TheConstants.{MAX_MAGNITUDE}
use Rattle.cif_read.specs.declared.fault.FaultKind.TheVariants.{OffGrid, TooBig}
use Rattle.cif_read.specs.Boxes.{box_at, high_coordinate, high_corner, is_big_box, is_flat, is_whole_side, low_coordinate, low_corner}
use Rattle.cif_read.specs.Boxes as reads
use Rattle.cif_read.specs.Polygons.{is_above_written}
use Rattle.cif_read.specs.Scales.{doubled, is_whole, scaled, value_of}
use Rattle.cif_write.specs.declared.boxes.UprightBox.{UprightBox}
use Rattle.cif_write.specs.Boxes.{are_corners, box_across, corner_box, goes_round, is_side, side_between}
use Rattle.cif_laws.specs.SameRings.{IsSameRing}
use Rattle.cif_laws.proofs.ScaledBack.{scaled_back, small_point, whole}
use Rattle.cif_laws.proofs.WrittenLines.{half}
use Rattle.cif_laws.proofs.WrittenNumbers.{number_of, vertex_of}

-- ---- sides

value_again : (z : ℤ) → value_of (number_of z) ≡ z
value_again (pos n) = refl
value_again (negsuc n) = refl

doubled_again : (z : ℤ) → doubled (number_of z) ≡ pos 2 *ℤ z
doubled_again z = ap (λ v. pos 2 *ℤ v) (value_again z)

-- a side of this length and middle, and its ends
pub record HasEnds (length : ℕ) (middle low high : ℤ) : Type 0 where
  pub some : 1 ≤ length
  pub few : length ≤ MAX_MAGNITUDE
  pub lesser : low_coordinate (number_of middle) length ≡ doubled (number_of low)
  pub greater : high_coordinate (number_of middle) length ≡ doubled (number_of high)
  pub above : low ≤ℤ middle
  pub below : middle ≤ℤ high

-- the side between two places, in whichever order
pub record IsSideOf (a b : ℤ) (side : ℤ × ℤ) : Type 0 where
  pub length : ℕ
  pub length_is : side.0 ≡ pos length
  pub ends : HasEnds length side.1 a b ⊎ HasEnds length side.1 b a

record IsShort (n : ℕ) : Type 0 where
  some : 1 ≤ n
  even : n % 2 ≡ 0
  few : n ≤ MAX_MAGNITUDE

short_side : (n : ℕ) → is_side n ≡ true → IsShort n
short_side n h = record { some = grind (arith, nat_tests); even = grind (arith, nat_tests); few = grind (arith, nat_tests) }

lesser_half : (low : ℤ) (n : ℕ) → n % 2 ≡ 0 → (pos 2 *ℤ (low +ℤ pos (n / 2))) -ℤ pos n ≡ pos 2 *ℤ low
lesser_half low n even = omega (arith, ints)

greater_half : (low high : ℤ) (n : ℕ) → low +ℤ pos n ≡ high → n % 2 ≡ 0 → (pos 2 *ℤ (low +ℤ pos (n / 2))) +ℤ pos n ≡ pos 2 *ℤ high
greater_half low high n e even = omega (arith, ints)

ends_at : (low high : ℤ) (n : ℕ) → low +ℤ pos n ≡ high → IsShort n → HasEnds n (low +ℤ pos (n / 2)) low high
ends_at low high n e short =
    let middle = low +ℤ pos (n / 2) in
    record {
      some = short.some;
      few = short.few;
      lesser = ap (λ z. z -ℤ pos n) (doubled_again middle) ∙ lesser_half low n short.even ∙ sym (doubled_again low);
      greater = ap (λ z. z +ℤ pos n) (doubled_again middle) ∙ greater_half low high n e short.even ∙ sym (doubled_again high);
      above = omega (arith, ints);
      below = omega (arith, ints, e);
    }

rising : (a b : ℤ) → int_lt b a ≡ false → a +ℤ pos (unsigned_abs (a -ℤ b)) ≡ b
rising a b h = grind (arith, ints)

falling : (a b : ℤ) → int_lt b a ≡ true → b +ℤ pos (unsigned_abs (a -ℤ b)) ≡ a
falling a b h = grind (arith, ints)

side_ends : (a b : ℤ) (n : ℕ) → n ≡ unsigned_abs (a -ℤ b) → IsShort n
    → HasEnds n (int_min a b +ℤ pos (n / 2)) a b ⊎ HasEnds n (int_min a b +ℤ pos (n / 2)) b a
side_ends a b n is short = by (int_lt b a) refl where
  by : (t : Bool) → int_lt b a ≡ t
      → HasEnds n (cond t b a +ℤ pos (n / 2)) a b ⊎ HasEnds n (cond t b a +ℤ pos (n / 2)) b a
  by true h = inr (ends_at b a n (ap (λ m. b +ℤ pos m) is ∙ falling a b h) short)
  by false h = inl (ends_at a b n (ap (λ m. a +ℤ pos m) is ∙ rising a b h) short)

side_of : (a b : ℤ) (side : ℤ × ℤ) → side_between a b ≡ Some side → IsSideOf a b side
side_of a b side h =
    let n = unsigned_abs (a -ℤ b) in
    let is = cond_some (is_side n) (pos n, int_min a b +ℤ pos (n / 2)) side h in
    record {
      length = n;
      length_is = sym (ap (λ (s : ℤ × ℤ). s.0) is.1);
      ends = subst (λ (s : ℤ × ℤ). HasEnds n s.1 a b ⊎ HasEnds n s.1 b a) is.1
          (side_ends a b n refl (short_side n is.0));
    }

-- ---- boxes

abbrev at : ℤ → ℤ → Point
at x y = record { x = x; y = y }

-- the box of a ring, with the corners that are read of it
pub record IsBoxOfRing (ring : List Point) (b : UprightBox) : Type 0 where
  pub length : ℕ
  pub width : ℕ
  pub low : Point
  pub high : Point
  pub length_is : b.length ≡ pos length
  pub width_is : b.width ≡ pos width
  pub along : HasEnds length b.centre.x low.x high.x
  pub across : HasEnds width b.centre.y low.y high.y
  pub low_in : is_in_range low ≡ true
  pub high_in : is_in_range high ≡ true
  pub same : IsSameRing ring (rectangle low high)

-- begun behind this many points
behind : (k : ℕ) (ring other : List Point) → ring ≡ take k ring ++ drop k ring → other ≡ drop k ring ++ take k ring → IsSameRing ring other
behind k ring other parts turned = inl (take k ring, drop k ring, parts, turned)

-- run the other way
back : (k : ℕ) (ring other : List Point) → reverse ring ≡ take k (reverse ring) ++ drop k (reverse ring)
    → other ≡ drop k (reverse ring) ++ take k (reverse ring) → IsSameRing ring other
back k ring other parts turned = inr (take k (reverse ring), drop k (reverse ring), parts, turned)

-- along the x axis first
abbrev first_along : ℤ → ℤ → ℤ → ℤ → List Point
first_along x y u v = at x y ∷ at u y ∷ at u v ∷ at x v ∷ []

-- along the y axis first
abbrev first_up : ℤ → ℤ → ℤ → ℤ → List Point
first_up x y u v = at x y ∷ at x v ∷ at u v ∷ at u y ∷ []

-- the opposite corners p and r of a box of these sides, by which of them is less
module _ (b : UprightBox) (n m : ℕ) (n_is : b.length ≡ pos n) (m_is : b.width ≡ pos m) (p r : Point)
    (p_in : is_in_range p ≡ true) (r_in : is_in_range r ≡ true) where
  both_in : (x y : ℤ) → is_coordinate x ≡ true → is_coordinate y ≡ true → is_in_range (at x y) ≡ true
  both_in x y h k = and_from (is_coordinate x) (is_coordinate y) h k

  p_parts : (is_coordinate p.x ≡ true) × (is_coordinate p.y ≡ true)
  p_parts = and_parts (is_coordinate p.x) (is_coordinate p.y) p_in

  r_parts : (is_coordinate r.x ≡ true) × (is_coordinate r.y ≡ true)
  r_parts = and_parts (is_coordinate r.x) (is_coordinate r.y) r_in

  between : (ring : List Point) (low high : Point) → HasEnds n b.centre.x low.x high.x → HasEnds m b.centre.y low.y high.y
      → is_in_range low ≡ true → is_in_range high ≡ true → IsSameRing ring (rectangle low high) → IsBoxOfRing ring b
  between ring low high along across low_in high_in same = record {
    length = n;
    width = m;
    low = low;
    high = high;
    length_is = n_is;
    width_is = m_is;
    along = along;
    across = across;
    low_in = low_in;
    high_in = high_in;
    same = same;
  }

  along_first : HasEnds n b.centre.x p.x r.x ⊎ HasEnds n b.centre.x r.x p.x → HasEnds m b.centre.y p.y r.y ⊎ HasEnds m b.centre.y r.y p.y
      → IsBoxOfRing (first_along p.x p.y r.x r.y) b
  along_first (inl x) (inl y) =
      let ring = first_along p.x p.y r.x r.y in
      between ring (at p.x p.y) (at r.x r.y) x y p_in r_in (behind 0 ring _ refl refl)
  along_first (inl x) (inr y) =
      let ring = first_along p.x p.y r.x r.y in
      between ring (at p.x r.y) (at r.x p.y) x y (both_in p.x r.y p_parts.0 r_parts.1) (both_in r.x p.y r_parts.0 p_parts.1)
      (back 0 ring _ refl refl)
  along_first (inr x) (inl y) =
      let ring = first_along p.x p.y r.x r.y in
      between ring (at r.x p.y) (at p.x r.y) x y (both_in r.x p.y r_parts.0 p_parts.1) (both_in p.x r.y p_parts.0 r_parts.1)
      (back 2 ring _ refl refl)
  along_first (inr x) (inr y) =
      let ring = first_along p.x p.y r.x r.y in
      between ring (at r.x r.y) (at p.x p.y) x y r_in p_in (behind 2 ring _ refl refl)

  up_first : HasEnds n b.centre.x p.x r.x ⊎ HasEnds n b.centre.x r.x p.x → HasEnds m b.centre.y p.y r.y ⊎ HasEnds m b.centre.y r.y p.y
      → IsBoxOfRing (first_up p.x p.y r.x r.y) b
  up_first (inl x) (inl y) =
      let ring = first_up p.x p.y r.x r.y in
      between ring (at p.x p.y) (at r.x r.y) x y p_in r_in (back 3 ring _ refl refl)
  up_first (inl x) (inr y) =
      let ring = first_up p.x p.y r.x r.y in
      between ring (at p.x r.y) (at r.x p.y) x y (both_in p.x r.y p_parts.0 r_parts.1) (both_in r.x p.y r_parts.0 p_parts.1)
      (behind 1 ring _ refl refl)
  up_first (inr x) (inl y) =
      let ring = first_up p.x p.y r.x r.y in
      between ring (at r.x p.y) (at p.x r.y) x y (both_in r.x p.y r_parts.0 p_parts.1) (both_in p.x r.y p_parts.0 r_parts.1)
      (behind 3 ring _ refl refl)
  up_first (inr x) (inr y) =
      let ring = first_up p.x p.y r.x r.y in
      between ring (at r.x r.y) (at p.x p.y) x y r_in p_in (back 1 ring _ refl refl)

-- the corners between two opposite ones
corners_along : (p q r s : Point) → goes_round p q r s ≡ true → p ∷ q ∷ r ∷ s ∷ [] ≡ first_along p.x p.y r.x r.y
corners_along p q r s h =
    let both = and_parts (point_eq q (at r.x p.y)) (point_eq s (at p.x r.y)) h in
    λ i. p ∷ point_eq-true q (at r.x p.y) both.0 i ∷ r ∷ point_eq-true s (at p.x r.y) both.1 i ∷ []

corners_up : (p q r s : Point) → goes_round p s r q ≡ true → p ∷ q ∷ r ∷ s ∷ [] ≡ first_up p.x p.y r.x r.y
corners_up p q r s h =
    let both = and_parts (point_eq s (at r.x p.y)) (point_eq q (at p.x r.y)) h in
    λ i. p ∷ point_eq-true q (at p.x r.y) both.1 i ∷ r ∷ point_eq-true s (at r.x p.y) both.0 i ∷ []

-- the box of two sides
abbrev boxed : ℤ × ℤ → ℤ × ℤ → UprightBox
boxed x y = record { length = x.0; width = y.0; centre = at x.1 y.1 }

-- the sides of a box
record HasSides (a c : Point) (b : UprightBox) : Type 0 where
  along : ℤ × ℤ
  across : ℤ × ℤ
  along_is : side_between a.x c.x ≡ Some along
  across_is : side_between a.y c.y ≡ Some across
  box_is : boxed along across ≡ b

sides_of : (a c : Point) (b : UprightBox) → box_across a c ≡ Some b → HasSides a c b
unfolding box_across
sides_of a c b h = by (side_between a.x c.x) (side_between a.y c.y) refl refl h where
  by : (x y : Option (ℤ × ℤ)) → side_between a.x c.x ≡ x → side_between a.y c.y ≡ y
      → option_and_then (λ s. option_and_then (λ t. Some (boxed s t)) y) x ≡ Some b → HasSides a c b
  by None y e f g = absurd (let no : ◌≡◌ {A = Option UprightBox} None (Some b) = g in cc)
  by (Some s) None e f g = absurd (let no : ◌≡◌ {A = Option UprightBox} None (Some b) = g in cc)
  by (Some s) (Some t) e f g =
      let same : boxed s t ≡ b = cc in record { along = s; across = t; along_is = e; across_is = f; box_is = same }

-- whichever way the corners go round
either_way : (p q r s : Point) (b : UprightBox) → are_corners p q r s ≡ true → IsBoxOfRing (first_along p.x p.y r.x r.y) b
    → IsBoxOfRing (first_up p.x p.y r.x r.y) b → IsBoxOfRing (p ∷ q ∷ r ∷ s ∷ []) b
either_way p q r s b corners along up = by (goes_round p q r s) refl corners where
  by : (t : Bool) → goes_round p q r s ≡ t → (t || goes_round p s r q) ≡ true → IsBoxOfRing (p ∷ q ∷ r ∷ s ∷ []) b
  by true is e = subst (λ (ring : List Point). IsBoxOfRing ring b) (sym (corners_along p q r s is)) along
  by false is e = subst (λ (ring : List Point). IsBoxOfRing ring b) (sym (corners_up p q r s e)) up

box_of_corners : (p q r s : Point) (b : UprightBox) → is_in_range p ≡ true → is_in_range r ≡ true → are_corners p q r s ≡ true
    → box_across p r ≡ Some b → IsBoxOfRing (p ∷ q ∷ r ∷ s ∷ []) b
box_of_corners p q r s b p_in r_in corners h =
    let sides = sides_of p r b h in
    let x = side_of p.x r.x sides.along sides.along_is in
    let y = side_of p.y r.y sides.across sides.across_is in
    let n_is : b.length ≡ pos x.length = sym (ap (λ c. c.length) sides.box_is) ∙ x.length_is in
    let m_is : b.width ≡ pos y.length = sym (ap (λ c. c.width) sides.box_is) ∙ y.length_is in
    let xs = subst (λ (c : UprightBox). HasEnds x.length c.centre.x p.x r.x ⊎ HasEnds x.length c.centre.x r.x p.x) sides.box_is x.ends in
    let ys = subst (λ (c : UprightBox). HasEnds y.length c.centre.y p.y r.y ⊎ HasEnds y.length c.centre.y r.y p.y) sides.box_is y.ends in
    either_way p q r s b corners (along_first b x.length y.length n_is m_is p r p_in r_in xs ys)
    (up_first b x.length y.length n_is m_is p r p_in r_in xs ys)

pub box_of_ring : (ring : List Point) (b : UprightBox) → list_all is_in_range ring ≡ true → corner_box ring ≡ Some b → IsBoxOfRing ring b
unfolding corner_box
box_of_ring [] b within h = absurd cc
box_of_ring (p ∷ []) b within h = absurd cc
box_of_ring (p ∷ q ∷ []) b within h = absurd cc
box_of_ring (p ∷ q ∷ r ∷ []) b within h = absurd cc
box_of_ring (p ∷ q ∷ r ∷ s ∷ []) b within h = by (are_corners p q r s) refl h where
  by : (t : Bool) → are_corners p q r s ≡ t → cond t (box_across p r) None ≡ Some b → IsBoxOfRing (p ∷ q ∷ r ∷ s ∷ []) b
  by true is e =
      let first = and_parts (is_in_range p) (list_all is_in_range (q ∷ r ∷ s ∷ [])) within in
      let second = and_parts (is_in_range q) (list_all is_in_range (r ∷ s ∷ [])) first.1 in
      let third = and_parts (is_in_range r) (list_all is_in_range (s ∷ [])) second.1 in
      box_of_corners p q r s b first.0 third.0 is e
  by false is e = absurd (let no : ◌≡◌ {A = Option UprightBox} None (Some b) = e in cc)
box_of_ring (p ∷ q ∷ r ∷ s ∷ t ∷ ring) b within h = absurd cc

-- ---- what is read

-- the numbers of a box as it is written
abbrev pub numbers_of : UprightBox → BoxNumbers
numbers_of b =
    record { length = unsigned_abs b.length; width = unsigned_abs b.width; centre = vertex_of b.centre; direction = None }

whole_side : (n : ℕ) (middle low high : ℤ) → HasEnds n middle low high → is_whole_side half (number_of middle) n ≡ true
whole_side n middle low high is =
    and_from (is_whole half (low_coordinate (number_of middle) n)) (is_whole half (high_coordinate (number_of middle) n))
    (ap (is_whole half) is.lesser ∙ whole low) (ap (is_whole half) is.greater ∙ whole high)

-- a box of these sides
abbrev pub numbers : ℕ → ℕ → Point → BoxNumbers
numbers n m centre = record { length = n; width = m; centre = vertex_of centre; direction = None }

low_at : (n m : ℕ) (centre low high : Point) → HasEnds n centre.x low.x high.x → HasEnds m centre.y low.y high.y
    → low_corner half (numbers n m centre) ≡ low
low_at n m centre low high along across = λ i. record {
  x = (ap (scaled half) along.lesser ∙ scaled_back low.x) i;
  y = (ap (scaled half) across.lesser ∙ scaled_back low.y) i;
}

high_at : (n m : ℕ) (centre low high : Point) → HasEnds n centre.x low.x high.x → HasEnds m centre.y low.y high.y
    → high_corner half (numbers n m centre) ≡ high
high_at n m centre low high along across = λ i. record {
  x = (ap (scaled half) along.greater ∙ scaled_back high.x) i;
  y = (ap (scaled half) across.greater ∙ scaled_back high.y) i;
}

box_at-between : (n m : ℕ) (centre low high : Point) → HasEnds n centre.x low.x high.x → HasEnds m centre.y low.y high.y
    → is_in_range low ≡ true → is_in_range high ≡ true → box_at half (numbers n m centre) ≡ Ok (Some (rectangle low high))
unfolding box_at
box_at-between n m centre low high along across low_in high_in =
    let b = numbers n m centre in
    let sides = and_from (is_whole_side half (number_of centre.x) n) (is_whole_side half (number_of centre.y) m)
    (whole_side n centre.x low.x high.x along) (whole_side m centre.y low.y high.y across) in
    let flat : is_flat b ≡ false = grind (arith, nat_tests, along.some, across.some) in
    ap (λ t. cond (not t) (Err OffGrid) (reads.box_between (is_flat b) (low_corner half b) (high_corner half b))) sides
    ∙ (λ i. reads.box_between (flat i) (low_at n m centre low high along across i) (high_at n m centre low high along across i))
    ∙ ap (λ t. cond t (Ok (Some (rectangle low high))) (Err TooBig)) (and_from (is_in_range low) (is_in_range high) low_in high_in)

pub numbers_is : (ring : List Point) (b : UprightBox) (is : IsBoxOfRing ring b) → numbers_of b ≡ numbers is.length is.width b.centre
numbers_is ring b is = λ i. record {
  length = ap unsigned_abs is.length_is i;
  width = ap unsigned_abs is.width_is i;
  centre = vertex_of b.centre;
  direction = None;
}

pub low_is : (ring : List Point) (b : UprightBox) (is : IsBoxOfRing ring b) → low_corner half (numbers_of b) ≡ is.low
low_is ring b is =
    ap (low_corner half) (numbers_is ring b is) ∙ low_at is.length is.width b.centre is.low is.high is.along is.across

pub high_is : (ring : List Point) (b : UprightBox) (is : IsBoxOfRing ring b) → high_corner half (numbers_of b) ≡ is.high
high_is ring b is =
    ap (high_corner half) (numbers_is ring b is) ∙ high_at is.length is.width b.centre is.low is.high is.along is.across

pub box_back : (ring : List Point) (b : UprightBox) (is : IsBoxOfRing ring b)
    → box_at half (numbers_of b) ≡ Ok (Some (rectangle is.low is.high))
box_back ring b is =
    ap (box_at half) (numbers_is ring b is)
    ∙ box_at-between is.length is.width b.centre is.low is.high is.along is.across is.low_in is.high_in

between_in : (a m c : ℤ) → is_coordinate a ≡ true → is_coordinate c ≡ true → a ≤ℤ m → m ≤ℤ c → is_coordinate m ≡ true
between_in a m c low high above below = grind (arith, ints, nat_tests)

pub centre_in : (ring : List Point) (b : UprightBox) → IsBoxOfRing ring b → is_in_range b.centre ≡ true
centre_in ring b is =
    let low = and_parts (is_coordinate is.low.x) (is_coordinate is.low.y) is.low_in in
    let high = and_parts (is_coordinate is.high.x) (is_coordinate is.high.y) is.high_in in
    and_from (is_coordinate b.centre.x) (is_coordinate b.centre.y)
    (between_in is.low.x b.centre.x is.high.x low.0 high.0 is.along.above is.along.below)
    (between_in is.low.y b.centre.y is.high.y low.1 high.1 is.across.above is.across.below)

not_above : (n : ℕ) → n ≤ MAX_MAGNITUDE → is_above_written n ≡ false
not_above n h = grind (arith, nat_tests)

small_numbers : (n m : ℕ) (centre : Point) → n ≤ MAX_MAGNITUDE → m ≤ MAX_MAGNITUDE → is_in_range centre ≡ true
    → is_big_box (numbers n m centre) ≡ false
unfolding is_big_box
small_numbers n m centre long wide within = rw (not_above n long, not_above m wide, small_point centre within) refl

pub small_box : (ring : List Point) (b : UprightBox) → IsBoxOfRing ring b → is_big_box (numbers_of b) ≡ false
small_box ring b is =
    ap is_big_box (numbers_is ring b is)
    ∙ small_numbers is.length is.width b.centre is.along.few is.across.few (centre_in ring b is)

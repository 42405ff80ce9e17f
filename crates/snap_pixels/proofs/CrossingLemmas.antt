-- Common points of two segments from a to b and from c to d. They are at n / k and m / k of the way, where k is the
-- cross product of the two directions, n that of the way from a to c and the second, and m that of this way and the first.
use Rattle.std.proofs.Common.{◌≡◌, ◌↔◌, ◌^◌, List, Option, Some, None, [], ◌∷◌, ℤ, pos, neg_ℤ, subst, ◌+ℤ◌, ◌-ℤ◌, ◌*ℤ◌, ◌≤ℤ◌}
use Rattle.std.proofs.Common.{◌<ℤ◌, refl, sym, ◌∙◌, arith}
use Rattle.std.proofs.lemmas.Int.{ints, to_z-of_z}
use mir.Syntax.{w128}
use mir.Val.{to_z, of_z, SFits}
use Rattle.lay_point.proofs.Polynomials.{Expr, #, lit, ◌⊕◌, ◌⊖◌, ◌⊗◌, ⊝, identity}
use Rattle.lay_point.proofs.Signs.{linear, nonnegative_product, times_le, cancel_le, cancel_nonnegative}
use Rattle.lay_point.specs.declared.point.Point.{Point}
use Rattle.snap_pixels.specs.Pixels.{IsRoundedTo}
use Rattle.snap_pixels.specs.Segments.{AreParallel, Crosses, IsCommon, IsFraction, along, cross}
use Rattle.snap_pixels.proofs.RoundLemmas.{IsRoundedTo-one, IsRoundedTo-same}

-- ---- `cross` and `along` as expressions, the coordinates of a, b, c and d being the variables 0 to 7
abbrev cross_of : Expr → Expr → Expr → Expr → Expr → Expr → Expr → Expr → Expr
cross_of ax ay bx by cx cy dx dy = (bx ⊖ ax) ⊗ (dy ⊖ cy) ⊖ (by ⊖ ay) ⊗ (dx ⊖ cx)

abbrev along_of : Expr → Expr → Expr → Expr → Expr
along_of k t a b = a ⊗ (k ⊖ t) ⊕ b ⊗ t

abbrev scale : Expr
scale = cross_of (# 0) (# 1) (# 2) (# 3) (# 4) (# 5) (# 6) (# 7)

abbrev on_first : Expr
on_first = cross_of (# 0) (# 1) (# 4) (# 5) (# 4) (# 5) (# 6) (# 7)

abbrev on_second : Expr
on_second = cross_of (# 0) (# 1) (# 4) (# 5) (# 0) (# 1) (# 2) (# 3)

module _ (a b c d : Point) where
  abbrev coordinates : List ℤ
  coordinates = a.x ∷ a.y ∷ b.x ∷ b.y ∷ c.x ∷ c.y ∷ d.x ∷ d.y ∷ []

  same_column : along (cross a b c d) (cross a c c d) a.x b.x ≡ along (cross a b c d) (cross a c a b) c.x d.x
  same_column = identity coordinates (along_of scale on_first (# 0) (# 2)) (along_of scale on_second (# 4) (# 6)) refl

  same_row : along (cross a b c d) (cross a c c d) a.y b.y ≡ along (cross a b c d) (cross a c a b) c.y d.y
  same_row = identity coordinates (along_of scale on_first (# 1) (# 3)) (along_of scale on_second (# 5) (# 7)) refl

  -- two points of the segments, and how far they are apart, crossed with a direction
  apart_second : (k t t' : ℤ)
      → t' *ℤ cross a b c d ≡ k *ℤ cross a c a b +ℤ ((along k t a.x b.x -ℤ along k t' c.x d.x) *ℤ (b.y -ℤ a.y)
      -ℤ (along k t a.y b.y -ℤ along k t' c.y d.y) *ℤ (b.x -ℤ a.x))
  apart_second k t t' =
      identity (a.x ∷ a.y ∷ b.x ∷ b.y ∷ c.x ∷ c.y ∷ d.x ∷ d.y ∷ k ∷ t ∷ t' ∷ []) (# 10 ⊗ scale)
      (# 8 ⊗ on_second ⊕ ((along_of (# 8) (# 9) (# 0) (# 2) ⊖ along_of (# 8) (# 10) (# 4) (# 6)) ⊗ (# 3 ⊖ # 1)
      ⊖ (along_of (# 8) (# 9) (# 1) (# 3) ⊖ along_of (# 8) (# 10) (# 5) (# 7)) ⊗ (# 2 ⊖ # 0))) refl

  apart_first : (k t t' : ℤ)
      → t *ℤ cross a b c d ≡ k *ℤ cross a c c d +ℤ ((along k t a.x b.x -ℤ along k t' c.x d.x) *ℤ (d.y -ℤ c.y)
      -ℤ (along k t a.y b.y -ℤ along k t' c.y d.y) *ℤ (d.x -ℤ c.x))
  apart_first k t t' =
      identity (a.x ∷ a.y ∷ b.x ∷ b.y ∷ c.x ∷ c.y ∷ d.x ∷ d.y ∷ k ∷ t ∷ t' ∷ []) (# 9 ⊗ scale)
      (# 8 ⊗ on_first ⊕ ((along_of (# 8) (# 9) (# 0) (# 2) ⊖ along_of (# 8) (# 10) (# 4) (# 6)) ⊗ (# 7 ⊖ # 5)
      ⊖ (along_of (# 8) (# 9) (# 1) (# 3) ⊖ along_of (# 8) (# 10) (# 5) (# 7)) ⊗ (# 6 ⊖ # 4))) refl

  vanish : (x x' y y' u v w : ℤ) → x ≡ x' → y ≡ y' → w +ℤ ((x -ℤ x') *ℤ u -ℤ (y -ℤ y') *ℤ v) ≡ w
  vanish x x' y y' u v w e f =
      (λ i. w +ℤ ((e i -ℤ x') *ℤ u -ℤ (f i -ℤ y') *ℤ v))
      ∙ identity (x' ∷ y' ∷ u ∷ v ∷ w ∷ []) (# 4 ⊕ ((# 0 ⊖ # 0) ⊗ # 2 ⊖ (# 1 ⊖ # 1) ⊗ # 3)) (# 4) refl

  -- a common point is at n / k of the first segment and at m / k of the second
  only_first : (k t t' : ℤ) → IsCommon a b c d k t t' → t *ℤ cross a b c d ≡ k *ℤ cross a c c d
  only_first k t t' h = apart_first k t t' ∙ vanish _ _ _ _ _ _ _ h.column h.row

  only_second : (k t t' : ℤ) → IsCommon a b c d k t t' → t' *ℤ cross a b c d ≡ k *ℤ cross a c a b
  only_second k t t' h = apart_second k t t' ∙ vanish _ _ _ _ _ _ _ h.column h.row

-- a multiple of one fraction that is one of another, too
IsFraction-multiple : (k t l n : ℤ) → IsFraction t k → pos 0 <ℤ l → t *ℤ l ≡ k *ℤ n → IsFraction n l
IsFraction-multiple k t l n f positive e =
    let one = f.scale in
    let swapped = identity (k ∷ t ∷ l ∷ []) (# 1 ⊗ # 2) (# 2 ⊗ # 1) refl in
    let turned = identity (k ∷ l ∷ []) (# 0 ⊗ # 1) (# 1 ⊗ # 0) refl in
    let p = nonnegative_product l t (omega (arith, linear)) f.low in
    let q = times_le l t k (omega (arith, linear)) f.high in
    record {
      scale = omega (arith, linear);
      low = cancel_nonnegative k n (omega (arith, linear)) (omega (arith, linear));
      high = cancel_le k n l (omega (arith, linear)) (omega (arith, linear));
    }

-- the same point of a segment, at two scales
along-multiple : (k t l n a b : ℤ) → t *ℤ l ≡ k *ℤ n → l *ℤ along k t a b ≡ k *ℤ along l n a b
along-multiple k t l n a b e =
    let f = identity (k ∷ t ∷ l ∷ n ∷ a ∷ b ∷ [])
    (# 2 ⊗ along_of (# 0) (# 1) (# 4) (# 5)) (# 0 ⊗ along_of (# 2) (# 3) (# 4) (# 5) ⊕ (# 1 ⊗ # 2 ⊖ # 0 ⊗ # 3) ⊗ (# 5 ⊖ # 4)) refl in
    f ∙ (λ i. k *ℤ along l n a b +ℤ (e i -ℤ k *ℤ n) *ℤ (b -ℤ a))
    ∙ identity ((k *ℤ along l n a b) ∷ (k *ℤ n) ∷ a ∷ b ∷ []) (# 0 ⊕ (# 1 ⊖ # 1) ⊗ (# 3 ⊖ # 2)) (# 0) refl

-- an area as code passes it
area_passed : (r x : ℤ) → r ≡ x → neg_ℤ (pos (2 ^ 65)) ≤ℤ r → r ≤ℤ pos (2 ^ 65) → to_z w128 (of_z w128 r) ≡ x
area_passed r x e low high =
    let fits : SFits w128 r = omega (arith, ints) in
    to_z-of_z w128 r fits ∙ e

-- ---- where the second segment turns left from the first
module _ (a b c d : Point) (left : pos 0 <ℤ cross a b c d) where
  -- the common point of the two lines is on both segments and in the pixel of p
  pub record IsFound (p : Point) : Type 0 where
    pub first : IsFraction (cross a c c d) (cross a b c d)
    pub second : IsFraction (cross a c a b) (cross a b c d)
    pub column : IsRoundedTo p.x (cross a b c d) (along (cross a b c d) (cross a c c d) a.x b.x)
    pub row : IsRoundedTo p.y (cross a b c d) (along (cross a b c d) (cross a c c d) a.y b.y)

  pub Crosses-found : (p : Point) → IsFound p → Crosses a b c d p
  Crosses-found p f = (
    (λ parallel. omega (arith, linear)),
    cross a b c d,
    cross a c c d,
    cross a c a b,
    record { first = f.first; second = f.second; column = same_column a b c d; row = same_row a b c d },
    record { column = f.column; row = f.row },
  )

  pub found-Crosses : (p : Point) → Crosses a b c d p → IsFound p
  found-Crosses p (apart, k, t, t', h, place) =
      let on_first = only_first a b c d k t t' h in
      let on_second = only_second a b c d k t t' h in
      let one : pos 1 ≤ℤ cross a b c d = omega (arith, linear) in
      record {
        first = IsFraction-multiple k t (cross a b c d) (cross a c c d) h.first left on_first;
        second = IsFraction-multiple k t' (cross a b c d) (cross a c a b) h.second left on_second;
        column = IsRoundedTo-same p.x k _ (cross a b c d) _ h.first.scale one (along-multiple k t _ _ a.x b.x on_first) place.column;
        row = IsRoundedTo-same p.y k _ (cross a b c d) _ h.first.scale one (along-multiple k t _ _ a.y b.y on_first) place.row;
      }

  pub Crosses-some : (q : Point) → IsFound q → (p : Point) → Crosses a b c d p ↔ (Some q ≡ Some p)
  Crosses-some q f p = (
    (λ h.
        let g = found-Crosses p h in
        let one : pos 1 ≤ℤ cross a b c d = f.first.scale in
        let column = IsRoundedTo-one q.x p.x (cross a b c d) (along (cross a b c d) (cross a c c d) a.x b.x) one f.column g.column in
        let row = IsRoundedTo-one q.y p.y (cross a b c d) (along (cross a b c d) (cross a c c d) a.y b.y) one f.row g.row in
        λ i. Some (record { x = column i; y = row i })),
    (λ e. let same : q ≡ p = cc in Crosses-found p (subst IsFound same f)),
  )

  pub Crosses-none : ((p : Point) → IsFound p → ⊥) → (p : Point) → Crosses a b c d p ↔ (None ≡ Some p)
  Crosses-none out p = ((λ h. absurd (out p (found-Crosses p h))), (λ e. cc))

  -- the scale k, and where the lines' common point is on the first segment and on the second
  pub record AreAreas (k n m : ℤ) : Type 0 where
    pub scale : k ≡ cross a b c d
    pub first : n ≡ cross a c c d
    pub second : m ≡ cross a c a b

  pub AreAreas-passed : (k n m : ℤ)
      → k ≡ cross a b c d → neg_ℤ (pos (2 ^ 65)) ≤ℤ k → k ≤ℤ pos (2 ^ 65)
      → n ≡ cross a c c d → neg_ℤ (pos (2 ^ 65)) ≤ℤ n → n ≤ℤ pos (2 ^ 65)
      → m ≡ cross a c a b → neg_ℤ (pos (2 ^ 65)) ≤ℤ m → m ≤ℤ pos (2 ^ 65)
      → AreAreas (to_z w128 (of_z w128 k)) (to_z w128 (of_z w128 n)) (to_z w128 (of_z w128 m))
  AreAreas-passed k n m ek lk hk en ln hn em lm hm =
      record { scale = area_passed k _ ek lk hk; first = area_passed n _ en ln hn; second = area_passed m _ em lm hm }

  module _ (k n m : ℤ) (e : AreAreas k n m) where
    pub IsFraction-tested : (t : ℤ) → (pos 0 ≤ℤ t) × (t ≤ℤ k) → IsFraction t k
    IsFraction-tested t h = let positive = e.scale in record { scale = omega (arith, linear); low = h.0; high = h.1 }

    pub first_out : ((pos 0 ≤ℤ n) × (n ≤ℤ k) → ⊥) → (p : Point) → IsFound p → ⊥
    first_out out p f = out (coe 1 0 (i. (pos 0 ≤ℤ e.first i) × (e.first i ≤ℤ e.scale i)) (f.first.low, f.first.high))

    pub second_out : ((pos 0 ≤ℤ m) × (m ≤ℤ k) → ⊥) → (p : Point) → IsFound p → ⊥
    second_out out p f = out (coe 1 0 (i. (pos 0 ≤ℤ e.second i) × (e.second i ≤ℤ e.scale i)) (f.second.low, f.second.high))

    pub IsFound-rounded : (q : Point) (ax bx ay by x y : ℤ) → (pos 0 ≤ℤ n) × (n ≤ℤ k) → (pos 0 ≤ℤ m) × (m ≤ℤ k)
        → IsRoundedTo x k (along k n ax bx) → IsRoundedTo y k (along k n ay by)
        → x ≡ q.x → y ≡ q.y → ax ≡ a.x → bx ≡ b.x → ay ≡ a.y → by ≡ b.y → IsFound q
    IsFound-rounded q ax bx ay by x y hn hm hx hy ex ey eax ebx eay eby =
        record {
          first = coe 0 1 (i. IsFraction (e.first i) (e.scale i)) (IsFraction-tested n hn);
          second = coe 0 1 (i. IsFraction (e.second i) (e.scale i)) (IsFraction-tested m hm);
          column = coe 0 1 (i. IsRoundedTo (ex i) (e.scale i) (along (e.scale i) (e.first i) (eax i) (ebx i))) hx;
          row = coe 0 1 (i. IsRoundedTo (ey i) (e.scale i) (along (e.scale i) (e.first i) (eay i) (eby i))) hy;
        }

-- ---- the second segment the other way round
cross-turned : (a b c d : Point) → cross a b d c ≡ neg_ℤ (cross a b c d)
cross-turned a b c d = identity (coordinates a b c d) (cross_of (# 0) (# 1) (# 2) (# 3) (# 6) (# 7) (# 4) (# 5)) (⊝ scale) refl

pub along_back : (k t c d : ℤ) → along k t c d ≡ along k (k -ℤ t) d c
along_back k t c d = identity (k ∷ t ∷ c ∷ d ∷ []) (along_of (# 0) (# 1) (# 2) (# 3)) (along_of (# 0) (# 0 ⊖ # 1) (# 3) (# 2)) refl

Crosses-turn : (a b c d p : Point) → Crosses a b c d p → Crosses a b d c p
Crosses-turn a b c d p (apart, k, t, t', h, place) =
    let e = cross-turned a b c d in
    let f = h.second in (
      (λ parallel. apart (omega (arith, linear))),
      k,
      t,
      k -ℤ t',
      record {
        first = h.first;
        second = record { scale = f.scale; low = omega (arith, linear, f.high); high = omega (arith, linear, f.low) };
        column = h.column ∙ along_back k t' c.x d.x;
        row = h.row ∙ along_back k t' c.y d.y;
      },
      place,
    )

pub turned_left : (a b c d : Point) → cross a b c d <ℤ pos 0 → pos 0 <ℤ cross a b d c
turned_left a b c d h = let e = cross-turned a b c d in omega (arith, linear)

-- ---- the first segment with the second is the second with the first
cross-swapped : (a b c d : Point) → cross c d a b ≡ neg_ℤ (cross a b c d)
cross-swapped a b c d = identity (coordinates a b c d) (cross_of (# 4) (# 5) (# 6) (# 7) (# 0) (# 1) (# 2) (# 3)) (⊝ scale) refl

pub Crosses-swapped : (a b c d p : Point) → Crosses a b c d p → Crosses c d a b p
Crosses-swapped a b c d p (apart, k, t, t', h, place) =
    let e = cross-swapped a b c d in (
      (λ parallel. apart (omega (arith, linear))),
      k,
      t',
      t,
      record { first = h.second; second = h.first; column = sym h.column; row = sym h.row },
      record { column = subst (λ x. IsRoundedTo p.x k x) h.column place.column; row = subst (λ y. IsRoundedTo p.y k y) h.row place.row },
    )

pub Crosses-exchanged : (a b c d : Point) (r : Option Point) → ((p : Point) → Crosses c d a b p ↔ (r ≡ Some p))
    → (p : Point) → Crosses a b c d p ↔ (r ≡ Some p)
Crosses-exchanged a b c d r h p =
    ((λ x. (h p).0 (Crosses-swapped a b c d p x)), (λ e. Crosses-swapped c d a b p ((h p).1 e)))

pub cross-itself : (a b : Point) → cross a b a b ≡ pos 0
cross-itself a b = identity (a.x ∷ a.y ∷ b.x ∷ b.y ∷ []) (cross_of (# 0) (# 1) (# 2) (# 3) (# 0) (# 1) (# 2) (# 3)) (lit (pos 0)) refl

pub Crosses-parallel : (a b c d : Point) → AreParallel a b c d → (p : Point) → Crosses a b c d p ↔ (None ≡ Some p)
Crosses-parallel a b c d parallel p = ((λ h. absurd (h.0 parallel)), (λ e. cc))

-- what is so of r and the segments' ends is so of points that are the ends
pub Crosses-same : (a b c d a' b' c' d' : Point) (r : Option Point) → a ≡ a' → b ≡ b' → c ≡ c' → d ≡ d'
    → ((p : Point) → Crosses a b c d p ↔ (r ≡ Some p)) → (p : Point) → Crosses a' b' c' d' p ↔ (r ≡ Some p)
Crosses-same a b c d a' b' c' d' r ea eb ec ed h = coe 0 1 (i. (p : Point) → Crosses (ea i) (eb i) (ec i) (ed i) p ↔ (r ≡ Some p)) h

pub Crosses-same_turned : (a b c d a' b' c' d' : Point) (r : Option Point) → a ≡ a' → b ≡ b' → c ≡ c' → d ≡ d'
    → ((p : Point) → Crosses a b d c p ↔ (r ≡ Some p)) → (p : Point) → Crosses a' b' c' d' p ↔ (r ≡ Some p)
Crosses-same_turned a b c d a' b' c' d' r ea eb ec ed h =
    Crosses-same a b c d a' b' c' d' r ea eb ec ed
    (λ p. ((λ x. (h p).0 (Crosses-turn a b c d p x)), (λ e. Crosses-turn a b d c p ((h p).1 e))))

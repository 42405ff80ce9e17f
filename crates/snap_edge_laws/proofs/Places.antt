-- Places on edges. A place that is on an edge's line and in its bounding box is a fraction of the way from one end to the other.
use Rattle.std.proofs.Common.{◌≡◌, ◌⊎◌, inl, inr, [], ◌∷◌, ℤ, pos, ◌-ℤ◌, ◌*ℤ◌, ◌≤ℤ◌, ◌<ℤ◌, refl, sym, ap, ◌∙◌, arith, ⊎_elim}
use Rattle.lay_point.specs.declared.point.Point.{Point}
use Rattle.snap_pixels.specs.Segments.{along, IsFraction}
use Rattle.snap_pixels.proofs.CrossingLemmas.{along_back}
use Rattle.snap_edge_laws.specs.Edges.{IsOn}
use Rattle.lay_point.proofs.Polynomials.{#, ◌⊕◌, ◌⊖◌, ◌⊗◌, identity}
use Rattle.lay_point.proofs.Signs.{linear, nonnegative_product, positive_product, times_lt}
use Rattle.lay_point.proofs.EdgeOrder.{apart_or_same, same_point}
use Rattle.snap_edge_laws.proofs.Areas.{flipped}

-- the place (x, y) at scale k is l / m of the way from c to d
pub record IsAlong (c d : Point) (k x y m l : ℤ) : Type 0 where
  pub part : IsFraction l m
  pub column : m *ℤ x ≡ k *ℤ along m l c.x d.x
  pub row : m *ℤ y ≡ k *ℤ along m l c.y d.y

pub record IsSomewhere (c d : Point) (k x y : ℤ) : Type 0 where
  pub m : ℤ
  pub l : ℤ
  pub is_along : IsAlong c d k x y m l

pub turned_along : (c d : Point) (k x y m l : ℤ) → IsAlong c d k x y m l → IsAlong d c k x y m (m -ℤ l)
turned_along c d k x y m l h = record {
  part = record { scale = h.part.scale; low = omega (arith, linear, h.part.high); high = omega (arith, linear, h.part.low) };
  column = h.column ∙ ap (λ (z : ℤ). k *ℤ z) (along_back m l c.x d.x);
  row = h.row ∙ ap (λ (z : ℤ). k *ℤ z) (along_back m l c.y d.y);
}

pub turned_on : (c d : Point) (k x y : ℤ) → IsOn c d k x y → IsOn d c k x y
turned_on c d k x y h =
    let e = identity (c.x ∷ c.y ∷ d.x ∷ d.y ∷ k ∷ x ∷ y ∷ [])
    ((# 5 ⊖ # 4 ⊗ # 2) ⊗ (# 1 ⊖ # 3) ⊕ (# 5 ⊖ # 4 ⊗ # 0) ⊗ (# 3 ⊖ # 1))
    ((# 6 ⊖ # 4 ⊗ # 3) ⊗ (# 0 ⊖ # 2) ⊕ (# 6 ⊖ # 4 ⊗ # 1) ⊗ (# 2 ⊖ # 0)) refl in
    record { line = omega (arith, linear, h.line); column = ⊎_elim inr inl h.column; row = ⊎_elim inr inl h.row }

-- the edge goes to the right, so x alone tells how far the place is
rightwards : (c d : Point) (k x y : ℤ) → pos 1 ≤ℤ k → c.x <ℤ d.x → IsOn c d k x y → IsSomewhere c d k x y
rightwards c d k x y scale right h =
    let vs = c.x ∷ c.y ∷ d.x ∷ d.y ∷ k ∷ x ∷ y ∷ [] in
    let positive = positive_product k (d.x -ℤ c.x) (omega (arith, linear)) (omega (arith, linear)) in
    let wide = identity vs (# 4 ⊗ (# 2 ⊖ # 0)) (# 4 ⊗ # 2 ⊖ # 4 ⊗ # 0) refl in
    let place : ((k *ℤ c.x) ≤ℤ x) × (x ≤ℤ (k *ℤ d.x)) =
    ⊎_elim (λ (z : ((k *ℤ c.x) ≤ℤ x) × (x ≤ℤ (k *ℤ d.x))). z) (λ z. absurd (backwards z)) h.column in
    let lines = ap (λ (z : ℤ). k *ℤ z) h.line in
    let rows = identity vs
    (# 4 ⊗ (# 2 ⊖ # 0) ⊗ # 6 ⊕ # 4 ⊗ ((# 5 ⊖ # 4 ⊗ # 0) ⊗ (# 3 ⊖ # 1)))
    (# 4 ⊗ (# 1 ⊗ (# 4 ⊗ (# 2 ⊖ # 0) ⊖ (# 5 ⊖ # 4 ⊗ # 0)) ⊕ # 3 ⊗ (# 5 ⊖ # 4 ⊗ # 0))
    ⊕ # 4 ⊗ ((# 6 ⊖ # 4 ⊗ # 1) ⊗ (# 2 ⊖ # 0))) refl in
    record {
      m = k *ℤ (d.x -ℤ c.x);
      l = x -ℤ k *ℤ c.x;
      is_along = record {
        part = record { scale = omega (arith, linear); low = omega (arith, linear, place.0); high = omega (arith, linear, place.1) };
        column = identity vs (# 4 ⊗ (# 2 ⊖ # 0) ⊗ # 5)
            (# 4 ⊗ (# 0 ⊗ (# 4 ⊗ (# 2 ⊖ # 0) ⊖ (# 5 ⊖ # 4 ⊗ # 0)) ⊕ # 2 ⊗ (# 5 ⊖ # 4 ⊗ # 0))) refl;
        row = omega (arith, linear);
      };
    }
  where
    backwards : ((k *ℤ d.x) ≤ℤ x) × (x ≤ℤ (k *ℤ c.x)) → ⊥
    backwards z = let less = times_lt k c.x d.x (omega (arith, linear)) right in omega (arith, linear, z.0, z.1)

turned_somewhere : (c d : Point) (k x y : ℤ) → IsSomewhere d c k x y → IsSomewhere c d k x y
turned_somewhere c d k x y h = record { m = h.m; l = h.m -ℤ h.l; is_along = turned_along d c k x y h.m h.l h.is_along }

sideways_somewhere : (c d : Point) (k x y : ℤ) → pos 1 ≤ℤ k → (c.x <ℤ d.x) ⊎ (d.x <ℤ c.x) → IsOn c d k x y → IsSomewhere c d k x y
sideways_somewhere c d k x y scale (inl right) h = rightwards c d k x y scale right h
sideways_somewhere c d k x y scale (inr left) h =
    turned_somewhere c d k x y (rightwards d c k x y scale left (turned_on c d k x y h))

flipped_on : (c d : Point) (k x y : ℤ) → IsOn c d k x y → IsOn (flipped c) (flipped d) k y x
flipped_on c d k x y h = record { line = sym h.line; column = h.row; row = h.column }

flipped_somewhere : (c d : Point) (k x y : ℤ) → IsSomewhere (flipped c) (flipped d) k y x → IsSomewhere c d k x y
flipped_somewhere c d k x y h = record {
  m = h.m;
  l = h.l;
  is_along = record { part = h.is_along.part; column = h.is_along.row; row = h.is_along.column };
}

pub not_same : (a b : ℤ) → (a <ℤ b) ⊎ (b <ℤ a) → a ≡ b → ⊥
not_same a b (inl less) e = omega (arith, linear)
not_same a b (inr less) e = omega (arith, linear)

-- a place on an edge with two different ends
pub somewhere : (c d : Point) (k x y : ℤ) → pos 1 ≤ℤ k → ¬ (c ≡ d) → IsOn c d k x y → IsSomewhere c d k x y
somewhere c d k x y scale differ h = ⊎_elim
    (λ wide. sideways_somewhere c d k x y scale wide h)
    (λ (ex : c.x ≡ d.x). ⊎_elim
    (λ high. flipped_somewhere c d k x y
    (sideways_somewhere (flipped c) (flipped d) k y x scale high (flipped_on c d k x y h)))
    (λ (ey : c.y ≡ d.y). absurd (differ (same_point c d ex ey)))
    (apart_or_same c.y d.y))
    (apart_or_same c.x d.x)

-- at another scale of the fraction
pub along_at_multiple : (c d : Point) (k x y m l n : ℤ) → pos 1 ≤ℤ n → IsAlong c d k x y m l → IsAlong c d k x y (m *ℤ n) (l *ℤ n)
along_at_multiple c d k x y m l n scale h =
    let positive = positive_product m n (omega (arith, linear, h.part.scale)) (omega (arith, linear)) in
    let low = nonnegative_product l n h.part.low (omega (arith, linear)) in
    let high = nonnegative_product (m -ℤ l) n (omega (arith, linear, h.part.high)) (omega (arith, linear)) in
    let e = identity (m ∷ l ∷ n ∷ []) ((# 0 ⊖ # 1) ⊗ # 2) (# 0 ⊗ # 2 ⊖ # 1 ⊗ # 2) refl in
    record {
      part = record { scale = omega (arith, linear); low = low; high = omega (arith, linear) };
      column = stretched m l n k x c.x d.x h.column;
      row = stretched m l n k y c.y d.y h.row;
    }
  where
    stretched : (m l n k x a b : ℤ) → m *ℤ x ≡ k *ℤ along m l a b → (m *ℤ n) *ℤ x ≡ k *ℤ along (m *ℤ n) (l *ℤ n) a b
    stretched m l n k x a b e =
        identity (m ∷ n ∷ x ∷ []) (# 0 ⊗ # 1 ⊗ # 2) (# 1 ⊗ (# 0 ⊗ # 2)) refl ∙ ap (λ (z : ℤ). n *ℤ z) e
        ∙ identity (m ∷ l ∷ n ∷ k ∷ a ∷ b ∷ []) (# 2 ⊗ (# 3 ⊗ (# 4 ⊗ (# 0 ⊖ # 1) ⊕ # 5 ⊗ # 1)))
        (# 3 ⊗ (# 4 ⊗ (# 0 ⊗ # 2 ⊖ # 1 ⊗ # 2) ⊕ # 5 ⊗ (# 1 ⊗ # 2))) refl

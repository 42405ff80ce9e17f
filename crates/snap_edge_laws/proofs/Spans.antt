-- Between: take a point of a segment in each end's pixel of one of its edges. Then each hot centre whose pixel has a point of
-- the segment between the two is an end of the edge. This is all that is used of chains.
use Rattle.std.proofs.Common.{◌≡◌, inl, inr, [], ◌∷◌, ℤ, pos, ◌-ℤ◌, ◌*ℤ◌, ◌≤ℤ◌, ◌<ℤ◌, refl, sym, ap, subst, arith, ⊎_elim}
use Rattle.lay_point.specs.declared.point.Point.{Point}
use Rattle.snap_pixels.specs.declared.segment.Segment.{Segment}
use Rattle.lay_point.specs.Points.{IsBefore}
use Rattle.snap_pixels.specs.Segments.{Meets}
use Rattle.snap_edge_laws.specs.Edges.{key, IsBelow, IsEdgeOf, IsBetween, IsEndpoint}
use Rattle.lay_point.proofs.Polynomials.{#, ◌⊖◌, ◌⊗◌, identity}
use Rattle.lay_point.proofs.Signs.{linear, nonnegative_product, positive_product, times_le, below_or_not, below_or_same}
use Rattle.snap_edge_laws.proofs.Rounding.{rounded_at_multiple}
use Rattle.snap_edge_laws.proofs.Order.{IsSpot, key_le, key_same}

spot_at_multiple : (s : Segment) (c : Point) (k t m : ℤ) → pos 1 ≤ℤ m → IsSpot s c k t → IsSpot s c (k *ℤ m) (t *ℤ m)
spot_at_multiple s c k t m scale h =
    let positive = positive_product k m (omega (arith, linear, h.scale)) (omega (arith, linear)) in
    let low = nonnegative_product t m h.low (omega (arith, linear)) in
    let high = times_le m t k (omega (arith, linear)) h.high in
    let e = identity (k ∷ m ∷ []) (# 0 ⊗ # 1) (# 1 ⊗ # 0) refl in
    let e' = identity (t ∷ m ∷ []) (# 0 ⊗ # 1) (# 1 ⊗ # 0) refl in
    record {
      scale = omega (arith, linear);
      low = low;
      high = omega (arith, linear);
      holds = record {
        column = rounded_at_multiple c.x k t m s.a.x s.b.x scale h.holds.column;
        row = rounded_at_multiple c.y k t m s.a.y s.b.y scale h.holds.row;
      };
    }

pub spot_at : (s : Segment) (c : Point) (k t m k' : ℤ) → pos 1 ≤ℤ m → k *ℤ m ≡ k' → IsSpot s c k t → IsSpot s c k' (t *ℤ m)
spot_at s c k t m k' scale e h = subst (λ (z : ℤ). IsSpot s c z (t *ℤ m)) e (spot_at_multiple s c k t m scale h)

pub not_before_itself : (c d : Point) → d ≡ c → IsBefore c d → ⊥
not_before_itself c d e before =
    let ex : d.x ≡ c.x = ap (λ (p : Point). p.x) e in
    let ey : d.y ≡ c.y = ap (λ (p : Point). p.y) e in omega (arith, linear)

-- the first end of an edge comes first on the segment
first_comes_first : (s : Segment) (c d : Point) (k u w : ℤ) → IsSpot s c k u → IsSpot s d k w → IsBelow s c d → u <ℤ w
first_comes_first s c d k u w h g below = ⊎_elim (λ (less : u <ℤ w). less) (λ (le : w ≤ℤ u). absurd (clash le)) (below_or_not u w)
  where
    clash : w ≤ℤ u → ⊥
    clash le =
        let back = key_le s d c k w u g h le in
        ⊎_elim (λ (less : key s c <ℤ key s d). omega (arith, linear))
        (λ (tie : (key s c ≡ key s d) × IsBefore c d). not_before_itself c d (key_same s d c k w u g h le (sym tie.0)) tie.1) below

between_in_order : (Hot : Point → Type 0) (s : Segment) (c d v : Point) (k u w z : ℤ) → IsEdgeOf Hot s c d
    → IsSpot s c k u → IsSpot s d k w → Hot v → IsSpot s v k z → u ≤ℤ z → z ≤ℤ w → IsEndpoint v c d
between_in_order Hot s c d v k u w z edge hc hd hot hv after before =
    ⊎_elim (λ (above : key s c <ℤ key s v). ⊎_elim
    (λ (under : key s v <ℤ key s d). absurd (edge.none_between v hot met (inl above) (inl under)))
    (λ (e : key s v ≡ key s d). inr (key_same s v d k z w hv hd before e))
    (below_or_same (key s v) (key s d) (key_le s v d k z w hv hd before)))
    (λ (e : key s c ≡ key s v). inl (sym (key_same s c v k u z hc hv after e)))
    (below_or_same (key s c) (key s v) (key_le s c v k u z hc hv after))
  where
    met : Meets s.a s.b v
    met = (k, z, record { scale = hv.scale; low = hv.low; high = hv.high }, hv.holds)

-- an edge of the segment from c to d, and the points of the segment at u / k and w / k, in the pixels of c and d
pub record IsSpan (Hot : Point → Type 0) (s : Segment) (c d : Point) (k u w : ℤ) : Type 0 where
  pub first_hot : Hot c
  pub last_hot : Hot d
  pub first : IsSpot s c k u
  pub last : IsSpot s d k w
  pub between : (v : Point) (m z : ℤ) → pos 1 ≤ℤ m → Hot v → IsSpot s v (k *ℤ m) z → IsBetween (u *ℤ m) z (w *ℤ m) → IsEndpoint v c d

span_at : (Hot : Point → Type 0) (s : Segment) (c d : Point) (k u w : ℤ) → IsEdgeOf Hot s c d
    → IsSpot s c k u → IsSpot s d k w → IsSpan Hot s c d k u w
span_at Hot s c d k u w edge h g = record {
  first_hot = edge.first_hot;
  last_hot = edge.last_hot;
  first = h;
  last = g;
  between = λ v m z scale hot hv place. ⊎_elim
      (λ (i : ((u *ℤ m) ≤ℤ z) × (z ≤ℤ (w *ℤ m))).
      between_in_order Hot s c d v (k *ℤ m) (u *ℤ m) (w *ℤ m) z edge
      (spot_at_multiple s c k u m scale h) (spot_at_multiple s d k w m scale g) hot hv i.0 i.1)
      (λ (i : ((w *ℤ m) ≤ℤ z) × (z ≤ℤ (u *ℤ m))). absurd (clash m z scale i.0 i.1)) place;
}
  where
    forth : u <ℤ w
    forth = first_comes_first s c d k u w h g edge.below

    clash : (m z : ℤ) → pos 1 ≤ℤ m → (w *ℤ m) ≤ℤ z → z ≤ℤ (u *ℤ m) → ⊥
    clash m z scale low high =
        let less = positive_product m (w -ℤ u) (omega (arith, linear)) (omega (arith, linear, forth)) in
        let e = identity (m ∷ w ∷ u ∷ []) (# 0 ⊗ (# 1 ⊖ # 2)) (# 1 ⊗ # 0 ⊖ # 2 ⊗ # 0) refl in omega (arith, linear)

-- the same edge, walked the other way
pub turned_span : (Hot : Point → Type 0) (s : Segment) (c d : Point) (k u w : ℤ) → IsSpan Hot s c d k u w → IsSpan Hot s d c k w u
turned_span Hot s c d k u w h = record {
  first_hot = h.last_hot;
  last_hot = h.first_hot;
  first = h.last;
  last = h.first;
  between = λ v m z scale hot hv place. ⊎_elim inr inl (h.between v m z scale hot hv (⊎_elim inr inl place));
}

-- points of two edges' segments in their ends' pixels, at one scale
pub record AreSpans (Hot : Point → Type 0) (s : Segment) (c d : Point) (s' : Segment) (c' d' : Point) : Type 0 where
  pub k : ℤ
  pub u : ℤ
  pub w : ℤ
  pub u' : ℤ
  pub w' : ℤ
  pub first : IsSpan Hot s c d k u w
  pub second : IsSpan Hot s' c' d' k u' w'

pub spot_of : (s : Segment) (c : Point) → (m : Meets s.a s.b c) → IsSpot s c m.0 m.1
spot_of s c m = record { scale = m.2.scale; low = m.2.low; high = m.2.high; holds = m.3 }

at_least_one : (a b c : ℤ) → pos 1 ≤ℤ a → pos 1 ≤ℤ b → pos 1 ≤ℤ c → pos 1 ≤ℤ (a *ℤ b *ℤ c)
at_least_one a b c ha hb hc =
    let ab = positive_product a b (omega (arith, linear)) (omega (arith, linear)) in
    let abc = positive_product (a *ℤ b) c ab (omega (arith, linear)) in omega (arith, linear)

pub spans_of : (Hot : Point → Type 0) (s s' : Segment) (c d c' d' : Point) → IsEdgeOf Hot s c d → IsEdgeOf Hot s' c' d'
    → AreSpans Hot s c d s' c' d'
spans_of Hot s s' c d c' d' e e' =
    let a = e.first_met.0 in
    let b = e.last_met.0 in
    let a' = e'.first_met.0 in
    let b' = e'.last_met.0 in
    let ha = e.first_met.2.scale in
    let hb = e.last_met.2.scale in
    let ha' = e'.first_met.2.scale in
    let hb' = e'.last_met.2.scale in
    let all = a *ℤ (b *ℤ a' *ℤ b') in
    let vs = a ∷ b ∷ a' ∷ b' ∷ [] in
    record {
      k = all;
      u = e.first_met.1 *ℤ (b *ℤ a' *ℤ b');
      w = e.last_met.1 *ℤ (a *ℤ a' *ℤ b');
      u' = e'.first_met.1 *ℤ (a *ℤ b *ℤ b');
      w' = e'.last_met.1 *ℤ (a *ℤ b *ℤ a');
      first = span_at Hot s c d _ _ _ e
          (spot_at s c a e.first_met.1 (b *ℤ a' *ℤ b') all (at_least_one b a' b' hb ha' hb') refl (spot_of s c e.first_met))
          (spot_at s d b e.last_met.1 (a *ℤ a' *ℤ b') all (at_least_one a a' b' ha ha' hb')
          (identity vs (# 1 ⊗ (# 0 ⊗ # 2 ⊗ # 3)) (# 0 ⊗ (# 1 ⊗ # 2 ⊗ # 3)) refl) (spot_of s d e.last_met));
      second = span_at Hot s' c' d' _ _ _ e'
          (spot_at s' c' a' e'.first_met.1 (a *ℤ b *ℤ b') all (at_least_one a b b' ha hb hb')
          (identity vs (# 2 ⊗ (# 0 ⊗ # 1 ⊗ # 3)) (# 0 ⊗ (# 1 ⊗ # 2 ⊗ # 3)) refl) (spot_of s' c' e'.first_met))
          (spot_at s' d' b' e'.last_met.1 (a *ℤ b *ℤ a') all (at_least_one a b a' ha hb ha')
          (identity vs (# 3 ⊗ (# 0 ⊗ # 1 ⊗ # 2)) (# 0 ⊗ (# 1 ⊗ # 2 ⊗ # 3)) refl) (spot_of s' d' e'.last_met));
    }

-- No hot centre lies inside an edge: were it a mixture of the edge's ends, then the same mixture of points of the segment in their
-- pixels would lie in its own pixel. So two edges that share an end have no other place in common, or they are one edge.
use Rattle.std.proofs.Common.{◌≡◌, ◌⊎◌, inl, inr, [], ◌∷◌, ℤ, pos, ◌*ℤ◌, ◌≤ℤ◌, ◌<ℤ◌, refl, sym, ap, subst, ◌∙◌, arith, ⊎_elim}
use Rattle.lay_point.specs.declared.point.Point.{Point}
use Rattle.snap_pixels.specs.declared.segment.Segment.{Segment}
use Rattle.snap_pixels.specs.Segments.{along}
use Rattle.snap_pixels.proofs.StraightLemmas.{rounded_centre}
use Rattle.snap_edge_laws.specs.Pieces.{IsOnPiece}
use Rattle.snap_edge_laws.specs.Edges.{IsBelow, IsEndpoint}
use Rattle.lay_point.proofs.Polynomials.{#, lit, ◌⊕◌, ◌⊖◌, ◌⊗◌, identity}
use Rattle.lay_point.proofs.Signs.{linear, cancel_same, below_or_not, below_or_same}
use Rattle.snap_edge_laws.proofs.Rounding.{mixed_after}
use Rattle.snap_edge_laws.proofs.Spans.{IsSpan, not_before_itself}
use Rattle.snap_edge_laws.proofs.Ends.{turned_piece}
use Rattle.snap_edge_laws.proofs.Motion.{place, end_by_mixture}
use Rattle.snap_edge_laws.proofs.Places.{IsAlong}

-- an edge's ends differ
pub ends_differ : (s : Segment) (c d : Point) → IsBelow s c d → ¬ (c ≡ d)
ends_differ s c d (inl less) e = absurd (irreflexive (subst (λ (p : Point). IsBelow s p d) e (inl less)))
  where
    irreflexive : IsBelow s d d → ⊥
    irreflexive (inl less') = omega (arith, linear)
    irreflexive (inr tie) = not_before_itself d d refl tie.1
ends_differ s c d (inr tie) e = not_before_itself c d (sym e) tie.1

-- hot ends that differ, and no hot centre on the edge but they
pub record IsClear (Hot : Point → Type 0) (c d : Point) : Type 0 where
  pub first_hot : Hot c
  pub last_hot : Hot d
  pub differ : ¬ (c ≡ d)
  pub only_ends : (v : Point) → Hot v → IsOnPiece v c d → IsEndpoint v c d

-- an equation of a mixture, at scale k
at_scale : (k m l a b v : ℤ) → m *ℤ v ≡ along m l a b → m *ℤ (v *ℤ k) ≡ along m l (a *ℤ k) (b *ℤ k)
at_scale k m l a b v e =
    identity (k ∷ m ∷ v ∷ []) (# 1 ⊗ (# 2 ⊗ # 0)) (# 0 ⊗ (# 1 ⊗ # 2)) refl ∙ ap (λ (z : ℤ). k *ℤ z) e
    ∙ identity (k ∷ m ∷ l ∷ a ∷ b ∷ []) (# 0 ⊗ (# 3 ⊗ (# 1 ⊖ # 2) ⊕ # 4 ⊗ # 2)) ((# 3 ⊗ # 0) ⊗ (# 1 ⊖ # 2) ⊕ (# 4 ⊗ # 0) ⊗ # 2) refl

pub clear_edge : (Hot : Point → Type 0) (s : Segment) (c d : Point) (k u w : ℤ) → ¬ (c ≡ d) → IsSpan Hot s c d k u w → IsClear Hot c d
clear_edge Hot s c d k u w differ span = record {
  first_hot = span.first_hot;
  last_hot = span.last_hot;
  differ = differ;
  only_ends = λ v hot h.
      let m = h.m in
      let l = h.l in
      end_by_mixture Hot s v c d k u w m l span hot h.is_part.part (record {
        column = mixed_after k m l (v.x *ℤ k) (place s k u).x (place s k w).x v.x c.x d.x h.is_part.part
            (rounded_centre v.x k span.first.scale) span.first.holds.column span.last.holds.column
            (at_scale k m l c.x d.x v.x h.is_part.column);
        row = mixed_after k m l (v.y *ℤ k) (place s k u).y (place s k w).y v.y c.y d.y h.is_part.part
            (rounded_centre v.y k span.first.scale) span.first.holds.row span.last.holds.row
            (at_scale k m l c.y d.y v.y h.is_part.row);
      });
}

pub turned_clear : (Hot : Point → Type 0) (c d : Point) → IsClear Hot c d → IsClear Hot d c
turned_clear Hot c d h = record {
  first_hot = h.last_hot;
  last_hot = h.first_hot;
  differ = λ e. h.differ (sym e);
  only_ends = λ v hot g. ⊎_elim inr inl (h.only_ends v hot (turned_piece v d c g));
}

-- ---- two edges from u
-- the place is u
pub record IsPlaceOf (u : Point) (k x y : ℤ) : Type 0 where
  pub column : x ≡ k *ℤ u.x
  pub row : y ≡ k *ℤ u.y

none_of_the_way : (k m l a b x : ℤ) → pos 1 ≤ℤ m → l ≡ pos 0 → m *ℤ x ≡ k *ℤ along m l a b → x ≡ k *ℤ a
none_of_the_way k m l a b x scale none e =
    cancel_same m x (k *ℤ a) (omega (arith, linear)) (e ∙ ap (λ (z : ℤ). k *ℤ along m z a b) none
    ∙ identity (k ∷ m ∷ a ∷ b ∷ []) (# 0 ⊗ (# 2 ⊗ (# 1 ⊖ lit (pos 0)) ⊕ # 3 ⊗ lit (pos 0))) (# 1 ⊗ (# 0 ⊗ # 2)) refl)

pub at_first_end : (c d : Point) (k x y m l : ℤ) → IsAlong c d k x y m l → l ≡ pos 0 → IsPlaceOf c k x y
at_first_end c d k x y m l h none = record {
  column = none_of_the_way k m l c.x d.x x h.part.scale none h.column;
  row = none_of_the_way k m l c.y d.y y h.part.scale none h.row;
}

-- one place i / m of the way from u to w and j / m of the way from u to b: so w is j / i of the way from u to b
part_of_other : (k m i j u w b x : ℤ) → pos 1 ≤ℤ k → m *ℤ x ≡ k *ℤ along m i u w → m *ℤ x ≡ k *ℤ along m j u b
    → i *ℤ w ≡ along i j u b
part_of_other k m i j u w b x scale e g =
    let same = cancel_same k (along m i u w) (along m j u b) (omega (arith, linear)) (sym e ∙ g) in
    let first = identity (m ∷ i ∷ u ∷ w ∷ []) (# 1 ⊗ # 3) ((# 2 ⊗ (# 0 ⊖ # 1) ⊕ # 3 ⊗ # 1) ⊖ # 2 ⊗ (# 0 ⊖ # 1)) refl in
    let second = identity (m ∷ i ∷ j ∷ u ∷ b ∷ [])
    (# 3 ⊗ (# 1 ⊖ # 2) ⊕ # 4 ⊗ # 2) ((# 3 ⊗ (# 0 ⊖ # 2) ⊕ # 4 ⊗ # 2) ⊖ # 3 ⊗ (# 0 ⊖ # 1)) refl in
    omega (arith, linear)

-- w is on the edge from u to b, so it is b
shorter_is_whole : (Hot : Point → Type 0) (u w b : Point) (k x y m i j : ℤ) → pos 1 ≤ℤ k → IsClear Hot u w → IsClear Hot u b
    → IsAlong u w k x y m i → IsAlong u b k x y m j → pos 0 <ℤ i → j ≤ℤ i → w ≡ b
shorter_is_whole Hot u w b k x y m i j scale first second f g some le =
    ⊎_elim (λ (e : w ≡ u). absurd (first.differ (sym e))) (λ (e : w ≡ b). e)
    (second.only_ends w first.last_hot (record {
      m = i;
      l = j;
      is_part = record {
        part = record { scale = omega (arith, linear); low = g.part.low; high = le };
        column = part_of_other k m i j u.x w.x b.x x scale f.column g.column;
        row = part_of_other k m i j u.y w.y b.y y scale f.row g.row;
      };
    }))

pub meet_at_shared_end : (Hot : Point → Type 0) (u w b : Point) (k x y m i j : ℤ) → pos 1 ≤ℤ k → IsClear Hot u w → IsClear Hot u b
    → IsAlong u w k x y m i → IsAlong u b k x y m j → (w ≡ b) ⊎ IsPlaceOf u k x y
meet_at_shared_end Hot u w b k x y m i j scale first second f g = ⊎_elim
    (λ (some : pos 0 <ℤ i). ⊎_elim
    (λ (some' : pos 0 <ℤ j). ⊎_elim
    (λ (less : i <ℤ j). inl (sym (shorter_is_whole Hot u b w k x y m j i scale second first g f some' (omega (arith, linear)))))
    (λ (le : j ≤ℤ i). inl (shorter_is_whole Hot u w b k x y m i j scale first second f g some le))
    (below_or_not i j))
    (λ (none : pos 0 ≡ j). inr (at_first_end u b k x y m j g (sym none)))
    (below_or_same (pos 0) j g.part.low))
    (λ (none : pos 0 ≡ i). inr (at_first_end u w k x y m i f (sym none)))
    (below_or_same (pos 0) i f.part.low)

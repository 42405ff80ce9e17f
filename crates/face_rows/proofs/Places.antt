-- The law of places, for edges from the lower end to the upper one.
use Rattle.std.proofs.Common.{◌≡◌, zero, suc, Bool, true, false, ◌&&◌, List, [], ◌∷◌}
use Rattle.std.proofs.Common.{ℤ, pos, negsuc, ◌+ℤ◌, ◌-ℤ◌, ◌*ℤ◌, ◌≤ℤ◌, ◌<ℤ◌, refl, subst, ⊎_elim, arith}
use Rattle.lay_point.proofs.Signs.{below_or_not, linear}
use Rattle.lay_point.proofs.Polynomials.{#, lit, ◌⊕◌, ◌⊖◌, ◌⊗◌, identity}
use Rattle.lay_point.specs.declared.point.Point.{Point}
use Rattle.lay_point.specs.Edges.{touches}
use Rattle.lay_point.specs.Parity.{parity, is_crossed}
use Rattle.snap_edge_laws.specs.Meeting.{MeetAtEnds}
use Rattle.snap_chains.specs.declared.owner.Owner.{Owner}
use Rattle.snap_chains.specs.Rounded.{is_owner_listed}
use Rattle.face_rows.specs.Labels.{Item, answer_at, differs}
use Rattle.face_rows.proofs.CutLaw.{IsCut, cut_law}
use Rattle.face_rows.proofs.Cuts.{AreDistinct, count_of}
use Rattle.face_side_laws.proofs.Rows.{IsInRow, beside, crossed_spans, right_in_row, spans_crossed}
use Rattle.face_side_laws.proofs.Slide.{AreUpward}

-- ---- the row of a height
times_more : (k r : ℤ) → k *ℤ (r +ℤ pos 1) ≡ k *ℤ r +ℤ k
times_more k r = identity (k ∷ r ∷ []) (# 0 ⊗ (# 1 ⊕ lit (pos 1))) (# 0 ⊗ # 1 ⊕ # 0) refl

times_less : (k r : ℤ) → k *ℤ (r -ℤ pos 1) ≡ k *ℤ r -ℤ k
times_less k r = identity (k ∷ r ∷ []) (# 0 ⊗ (# 1 ⊖ lit (pos 1))) (# 0 ⊗ # 1 ⊖ # 0) refl

times_back : (k r : ℤ) → k *ℤ ((r -ℤ pos 1) +ℤ pos 1) ≡ k *ℤ r
times_back k r = identity (k ∷ r ∷ []) (# 0 ⊗ ((# 1 ⊖ lit (pos 1)) ⊕ lit (pos 1))) (# 0 ⊗ # 1) refl

times_zero : (k : ℤ) → k *ℤ pos 0 ≡ pos 0
times_zero k = identity (k ∷ []) (# 0 ⊗ lit (pos 0)) (lit (pos 0)) refl

row_up : (k y r : ℤ) → IsInRow r k y → (s : ℤ) × IsInRow s k (y +ℤ pos 1)
row_up k y r h = ⊎_elim
    (λ (less : (y +ℤ pos 1) <ℤ (k *ℤ (r +ℤ pos 1))). (r, record { scale = h.scale; low = omega (arith, linear, h.low); high = less }))
    (λ (le : (k *ℤ (r +ℤ pos 1)) ≤ℤ (y +ℤ pos 1)).
    (r +ℤ pos 1, record { scale = h.scale; low = le; high = omega (arith, linear, h.high, h.scale, times_more k (r +ℤ pos 1)) }))
    (below_or_not (y +ℤ pos 1) (k *ℤ (r +ℤ pos 1)))

row_down : (k y r : ℤ) → IsInRow r k y → (s : ℤ) × IsInRow s k (y -ℤ pos 1)
row_down k y r h = ⊎_elim
    (λ (less : (y -ℤ pos 1) <ℤ (k *ℤ r)). (
      r -ℤ pos 1,
      record {
        scale = h.scale;
        low = omega (arith, linear, h.low, h.scale, times_less k r);
        high = omega (arith, linear, less, times_back k r);
      },
    ))
    (λ (le : (k *ℤ r) ≤ℤ (y -ℤ pos 1)). (r, record { scale = h.scale; low = le; high = omega (arith, linear, h.high) }))
    (below_or_not (y -ℤ pos 1) (k *ℤ r))

row_zero : (k : ℤ) → pos 1 ≤ℤ k → IsInRow (pos 0) k (pos 0)
row_zero k scale =
    record {
      scale = scale;
      low = omega (arith, linear, times_zero k);
      high = omega (arith, linear, scale, times_more k (pos 0), times_zero k);
    }

row_of : (k y : ℤ) → pos 1 ≤ℤ k → (r : ℤ) × IsInRow r k y
row_of k (pos zero) scale = (pos 0, row_zero k scale)
row_of k (pos (suc n)) scale =
    let before = row_of k (pos n) scale in
    let next : pos n +ℤ pos 1 ≡ pos (suc n) = omega (arith, linear) in
    let after = row_up k (pos n) before.0 before.1 in
    (after.0, subst (IsInRow after.0 k) next after.1)
row_of k (negsuc zero) scale =
    let next : pos 0 -ℤ pos 1 ≡ negsuc zero = omega (arith, linear) in
    let after = row_down k (pos 0) (pos 0) (row_zero k scale) in
    (after.0, subst (IsInRow after.0 k) next after.1)
row_of k (negsuc (suc n)) scale =
    let before = row_of k (negsuc n) scale in
    let next : negsuc n -ℤ pos 1 ≡ negsuc (suc n) = omega (arith, linear) in
    let after = row_down k (negsuc n) before.0 before.1 in
    (after.0, subst (IsInRow after.0 k) next after.1)

-- ---- the edges to the right of a place are a cut of its row
module _ (items : List Item) (h : AreUpward items) where
  place_cut : (k x y r : ℤ) → IsInRow r k y → IsCut r items (λ p. is_crossed k x y p.0)
  place_cut k x y r q = record {
    spans = λ p given t. (crossed_spans r k x y p.0 q (h.rises p given) t).0;
    closed = λ p s gp gs t span left.
        let c = crossed_spans r k x y p.0 q (h.rises p gp) t in
        ⊎_elim
        (λ (same : p.0 ≡ s.0). subst (λ f. is_crossed k x y f ≡ true) same t)
        (λ (meet : MeetAtEnds p.0 s.0). spans_crossed r k x y s.0 q span
        (right_in_row r p.0 s.0 k x y (beside r k y q) c.0 span meet left c.1))
        (h.meets p s gp gs);
  }

pub place_law : (op : Bool → Bool → Bool) → op false false ≡ false → (items : List Item) → AreUpward items → AreDistinct items
    → ((o : Owner) (v : Point) → parity (λ p. is_owner_listed o p.1 && touches v p.0) items ≡ false)
    → (k x y : ℤ) → pos 1 ≤ℤ k → parity (λ p. differs op items p && is_crossed k x y p.0) items ≡ answer_at op items k x y
unfolding answer_at
place_law op none items h distinct even k x y scale =
    let row = row_of k y scale in
    let n = count_of (λ p. is_crossed k x y p.0) items in
    cut_law op none items h distinct even (suc n) row.0 (λ p. is_crossed k x y p.0) (omega arith) (place_cut items h k x y row.0 row.1)

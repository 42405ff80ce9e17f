-- Ends of a quadrilateral's diagonals that lie on the other diagonal: where one of its areas is 0, and the rest aren't, or where all
-- four are 0, and some point weighed by all four ends is common to the diagonals.
use Rattle.std.proofs.Common.{◌≡◌, [], ◌∷◌, ℤ, pos, ◌+ℤ◌, ◌-ℤ◌, ◌*ℤ◌, ◌≤ℤ◌, ◌<ℤ◌, refl, sym, ap, ◌∙◌, arith, ⊎_elim}
use Rattle.lay_point.specs.declared.point.Point.{Point}
use Rattle.snap_pixels.specs.Segments.{along}
use Rattle.snap_pixels.proofs.CrossingLemmas.{along_back}
use Rattle.snap_edge_laws.specs.Areas.{area}
use Rattle.snap_edge_laws.specs.Pieces.{IsAtFraction, IsOnPiece, HasEnd, first, second, third, fourth}
use Rattle.lay_point.proofs.Polynomials.{#, lit, ◌⊕◌, ◌⊖◌, ◌⊗◌, identity}
use Rattle.lay_point.proofs.Signs.{linear, nonnegative_product, positive_product, below_or_not, below_or_same}
use Rattle.snap_edge_laws.proofs.Areas.{areas_balance, areas_weigh_x, areas_weigh_y, area_off, area-turned, flipped}

pub turned_part : (p q r : Point) (m l : ℤ) → IsAtFraction p q r m l → IsAtFraction p r q m (m -ℤ l)
turned_part p q r m l h = record {
  part = record { scale = h.part.scale; low = omega (arith, linear, h.part.high); high = omega (arith, linear, h.part.low) };
  column = h.column ∙ along_back m l q.x r.x;
  row = h.row ∙ along_back m l q.y r.y;
}

pub turned_piece : (p q r : Point) → IsOnPiece p q r → IsOnPiece p r q
turned_piece p q r h = record { m = h.m; l = h.m -ℤ h.l; is_part = turned_part p q r h.m h.l h.is_part }

pub turned_end : (p q r t : Point) → HasEnd q r t p → HasEnd p q r t
turned_end p q r t (first h) = second h
turned_end p q r t (second h) = third h
turned_end p q r t (third h) = fourth h
turned_end p q r t (fourth h) = first h

-- ---- one area is 0
weighed : (wp wq wr wt p q r t : ℤ) → wp ≡ pos 0 → wp +ℤ wr ≡ wq +ℤ wt → wp *ℤ r +ℤ wr *ℤ p ≡ wq *ℤ t +ℤ wt *ℤ q
    → (wq +ℤ wt) *ℤ p ≡ along (wq +ℤ wt) wt t q
weighed wp wq wr wt p q r t zero sum mixture =
    let all : wr ≡ wq +ℤ wt = omega (arith, linear) in
    let gone = ap (λ (z : ℤ). z *ℤ r) zero in
    let none = identity (r ∷ []) (lit (pos 0) ⊗ # 0) (lit (pos 0)) refl in
    let whole = ap (λ (z : ℤ). z *ℤ p) all in
    let parts = identity (wq ∷ wt ∷ t ∷ q ∷ []) (# 2 ⊗ (# 0 ⊕ # 1 ⊖ # 1) ⊕ # 3 ⊗ # 1) (# 0 ⊗ # 2 ⊕ # 1 ⊗ # 3) refl in
    omega (arith, linear)

-- the area at p is 0, the others are at least 0, and not all are 0: so p is on the other diagonal
pub end_at_zero : (p q r t : Point) → area t p q ≡ pos 0 → pos 0 ≤ℤ area p q r → pos 0 ≤ℤ area r t p
    → pos 0 <ℤ (area t p q +ℤ area q r t) → IsOnPiece p t q
end_at_zero p q r t zero hq ht some =
    let sum = areas_balance p q r t in
    record {
      m = area p q r +ℤ area r t p;
      l = area r t p;
      is_part = record {
        part = record { scale = omega (arith, linear); low = ht; high = omega (arith, linear) };
        column = weighed (area t p q) (area p q r) (area q r t) (area r t p) p.x q.x r.x t.x zero sum (areas_weigh_x p q r t);
        row = weighed (area t p q) (area p q r) (area q r t) (area r t p) p.y q.y r.y t.y zero sum (areas_weigh_y p q r t);
      };
    }

-- ---- all four are 0
-- positive weights of the four ends, with which the two diagonals weigh a common height
pub record AreWeights (wp wq wr wt p q r t : ℤ) : Type 0 where
  pub positive_p : pos 0 <ℤ wp
  pub positive_q : pos 0 <ℤ wq
  pub positive_r : pos 0 <ℤ wr
  pub positive_t : pos 0 <ℤ wt
  pub sum : wp +ℤ wr ≡ wq +ℤ wt
  pub mixture : wp *ℤ r +ℤ wr *ℤ p ≡ wq *ℤ t +ℤ wt *ℤ q

turned_weights : (wp wq wr wt p q r t : ℤ) → AreWeights wp wq wr wt p q r t → AreWeights wq wr wt wp q r t p
turned_weights wp wq wr wt p q r t h = record {
  positive_p = h.positive_q;
  positive_q = h.positive_r;
  positive_r = h.positive_t;
  positive_t = h.positive_p;
  sum = omega (arith, linear, h.sum);
  mixture = omega (arith, linear, h.mixture);
}

-- the weights balance about every height
about : (wp wq wr wt p q r t z : ℤ) → AreWeights wp wq wr wt p q r t
    → wp *ℤ (r -ℤ z) +ℤ wr *ℤ (p -ℤ z) ≡ wq *ℤ (t -ℤ z) +ℤ wt *ℤ (q -ℤ z)
about wp wq wr wt p q r t z h =
    let sums = ap (λ (w : ℤ). w *ℤ z) h.sum in
    let first = identity (wp ∷ wr ∷ p ∷ r ∷ z ∷ [])
    (# 0 ⊗ (# 3 ⊖ # 4) ⊕ # 1 ⊗ (# 2 ⊖ # 4)) ((# 0 ⊗ # 3 ⊕ # 1 ⊗ # 2) ⊖ (# 0 ⊕ # 1) ⊗ # 4) refl in
    let second = identity (wq ∷ wt ∷ q ∷ t ∷ z ∷ [])
    (# 0 ⊗ (# 3 ⊖ # 4) ⊕ # 1 ⊗ (# 2 ⊖ # 4)) ((# 0 ⊗ # 3 ⊕ # 1 ⊗ # 2) ⊖ (# 0 ⊕ # 1) ⊗ # 4) refl in
    omega (arith, linear, h.mixture)

-- q is on the line of p and r, and its height is between theirs
piece_upwards : (p q r : Point) → area p q r ≡ pos 0 → p.y <ℤ r.y → p.y ≤ℤ q.y → q.y ≤ℤ r.y → IsOnPiece q p r
piece_upwards p q r flat up low high = record {
  m = r.y -ℤ p.y;
  l = q.y -ℤ p.y;
  is_part = record {
    part = record { scale = omega (arith, linear); low = omega (arith, linear); high = omega (arith, linear) };
    column = omega (arith, linear, area_off p q r);
    row = identity (p.y ∷ q.y ∷ r.y ∷ []) ((# 2 ⊖ # 0) ⊗ # 1)
        (# 0 ⊗ ((# 2 ⊖ # 0) ⊖ (# 1 ⊖ # 0)) ⊕ # 2 ⊗ (# 1 ⊖ # 0)) refl;
  };
}

piece_downwards : (p q r : Point) → area p q r ≡ pos 0 → r.y <ℤ p.y → r.y ≤ℤ q.y → q.y ≤ℤ p.y → IsOnPiece q p r
piece_downwards p q r flat down low high =
    turned_piece q r p (piece_upwards r q p (omega (arith, linear, area-turned p q r)) down low high)

-- not all four have one height
abbrev pub AreUneven : ℤ → ℤ → ℤ → ℤ → Type 0
AreUneven p q r t = q ≡ p → r ≡ p → t ≡ p → ⊥

-- both ends of one diagonal are strictly above r, which is above p: then they weigh no height that p and r weigh
both_above : (wp wq wr wt p q r t : ℤ) → AreWeights wp wq wr wt p q r t → p <ℤ r → r <ℤ q → r <ℤ t → ⊥
both_above wp wq wr wt p q r t h up above_q above_t =
    let e = about wp wq wr wt p q r t r h in
    let none = identity (wp ∷ r ∷ []) (# 0 ⊗ (# 1 ⊖ # 1)) (lit (pos 0)) refl in
    let flip = identity (wr ∷ p ∷ r ∷ []) (# 0 ⊗ (# 1 ⊖ # 2)) (lit (pos 0) ⊖ # 0 ⊗ (# 2 ⊖ # 1)) refl in
    let down = positive_product wr (r -ℤ p) h.positive_r (omega (arith, linear)) in
    let up_t = positive_product wq (t -ℤ r) h.positive_q (omega (arith, linear)) in
    let up_q = positive_product wt (q -ℤ r) h.positive_t (omega (arith, linear)) in
    omega (arith, linear)

-- p and r have the least height, so the others have it too
all_lowest : (wp wq wr wt p q r t : ℤ) → AreWeights wp wq wr wt p q r t → p ≤ℤ q → p ≤ℤ t → p ≡ r → (q ≡ p) × (t ≡ p)
all_lowest wp wq wr wt p q r t h low_q low_t same = (
  ⊎_elim (λ (less : p <ℤ q). absurd (clash_q less)) (λ (e : p ≡ q). sym e) (below_or_same p q low_q),
  ⊎_elim (λ (less : p <ℤ t). absurd (clash_t less)) (λ (e : p ≡ t). sym e) (below_or_same p t low_t),
)
  where
    still : wq *ℤ (t -ℤ p) +ℤ wt *ℤ (q -ℤ p) ≡ pos 0
    still =
        let e = about wp wq wr wt p q r t p h in
        let none = identity (wr ∷ p ∷ []) (# 0 ⊗ (# 1 ⊖ # 1)) (lit (pos 0)) refl in
        let moved = ap (λ (z : ℤ). wp *ℤ (z -ℤ p)) same in
        let none' = identity (wp ∷ p ∷ []) (# 0 ⊗ (# 1 ⊖ # 1)) (lit (pos 0)) refl in omega (arith, linear)

    clash_q : p <ℤ q → ⊥
    clash_q less =
        let up_t = nonnegative_product wq (t -ℤ p) (omega (arith, linear, h.positive_q)) (omega (arith, linear)) in
        let up_q = positive_product wt (q -ℤ p) h.positive_t (omega (arith, linear)) in omega (arith, linear, still)

    clash_t : p <ℤ t → ⊥
    clash_t less =
        let up_t = positive_product wq (t -ℤ p) h.positive_q (omega (arith, linear)) in
        let up_q = nonnegative_product wt (q -ℤ p) (omega (arith, linear, h.positive_t)) (omega (arith, linear)) in
        omega (arith, linear, still)

-- the four ends on one line, with p the lowest
lowest_end : (p q r t : Point) (wp wq wr wt : ℤ) → AreWeights wp wq wr wt p.y q.y r.y t.y → AreUneven p.y q.y r.y t.y
    → area p q r ≡ pos 0 → area r t p ≡ pos 0 → p.y ≤ℤ q.y → p.y ≤ℤ r.y → p.y ≤ℤ t.y → HasEnd p q r t
lowest_end p q r t wp wq wr wt h uneven flat_q flat_t low_q low_r low_t =
    ⊎_elim
    (λ (up : p.y <ℤ r.y). ⊎_elim
    (λ (above_q : r.y <ℤ q.y). ⊎_elim
    (λ (above_t : r.y <ℤ t.y). absurd (both_above wp wq wr wt p.y q.y r.y t.y h up above_q above_t))
    (λ (under : t.y ≤ℤ r.y). fourth (piece_downwards r t p flat_t up low_t under))
    (below_or_not r.y t.y))
    (λ (under : q.y ≤ℤ r.y). second (piece_upwards p q r flat_q up low_q under))
    (below_or_not r.y q.y))
    (λ (same : p.y ≡ r.y).
    let lowest = all_lowest wp wq wr wt p.y q.y r.y t.y h low_q low_t same in
    absurd (uneven lowest.0 (sym same) lowest.1))
    (below_or_same p.y r.y low_r)

-- all four ends on one line, not all at one height, and weighing a common height: so an end is on the other diagonal
pub flat_end : (p q r t : Point) (wp wq wr wt : ℤ) → AreWeights wp wq wr wt p.y q.y r.y t.y → AreUneven p.y q.y r.y t.y
    → area t p q ≡ pos 0 → area p q r ≡ pos 0 → area q r t ≡ pos 0 → area r t p ≡ pos 0 → HasEnd p q r t
flat_end p q r t wp wq wr wt h uneven flat_p flat_q flat_r flat_t =
    ⊎_elim
    (λ (pq : p.y <ℤ q.y). ⊎_elim
    (λ (pr : p.y <ℤ r.y). ⊎_elim
    (λ (pt : p.y <ℤ t.y). by_p (omega (arith, linear)) (omega (arith, linear)) (omega (arith, linear)))
    (λ (tp : t.y ≤ℤ p.y). by_t (omega (arith, linear)) (omega (arith, linear)) (omega (arith, linear)))
    (below_or_not p.y t.y))
    (λ (rp : r.y ≤ℤ p.y). ⊎_elim
    (λ (rt : r.y <ℤ t.y). by_r (omega (arith, linear)) (omega (arith, linear)) (omega (arith, linear)))
    (λ (tr : t.y ≤ℤ r.y). by_t (omega (arith, linear)) (omega (arith, linear)) (omega (arith, linear)))
    (below_or_not r.y t.y))
    (below_or_not p.y r.y))
    (λ (qp : q.y ≤ℤ p.y). ⊎_elim
    (λ (qr : q.y <ℤ r.y). ⊎_elim
    (λ (qt : q.y <ℤ t.y). by_q (omega (arith, linear)) (omega (arith, linear)) (omega (arith, linear)))
    (λ (tq : t.y ≤ℤ q.y). by_t (omega (arith, linear)) (omega (arith, linear)) (omega (arith, linear)))
    (below_or_not q.y t.y))
    (λ (rq : r.y ≤ℤ q.y). ⊎_elim
    (λ (rt : r.y <ℤ t.y). by_r (omega (arith, linear)) (omega (arith, linear)) (omega (arith, linear)))
    (λ (tr : t.y ≤ℤ r.y). by_t (omega (arith, linear)) (omega (arith, linear)) (omega (arith, linear)))
    (below_or_not r.y t.y))
    (below_or_not q.y r.y))
    (below_or_not p.y q.y)
  where
    h' : AreWeights wq wr wt wp q.y r.y t.y p.y
    h' = turned_weights wp wq wr wt p.y q.y r.y t.y h

    h'' : AreWeights wr wt wp wq r.y t.y p.y q.y
    h'' = turned_weights wq wr wt wp q.y r.y t.y p.y h'

    h''' : AreWeights wt wp wq wr t.y p.y q.y r.y
    h''' = turned_weights wr wt wp wq r.y t.y p.y q.y h''

    by_p : p.y ≤ℤ q.y → p.y ≤ℤ r.y → p.y ≤ℤ t.y → HasEnd p q r t
    by_p = lowest_end p q r t wp wq wr wt h uneven flat_q flat_t

    by_q : q.y ≤ℤ r.y → q.y ≤ℤ t.y → q.y ≤ℤ p.y → HasEnd p q r t
    by_q a b c = turned_end p q r t (lowest_end q r t p wq wr wt wp h'
        (λ er et ep. uneven (sym ep) (er ∙ sym ep) (et ∙ sym ep)) flat_r flat_p a b c)

    by_r : r.y ≤ℤ t.y → r.y ≤ℤ p.y → r.y ≤ℤ q.y → HasEnd p q r t
    by_r a b c = turned_end p q r t (turned_end q r t p (lowest_end r t p q wr wt wp wq h''
        (λ et ep eq. uneven (eq ∙ sym ep) (sym ep) (et ∙ sym ep)) flat_t flat_q a b c))

    by_t : t.y ≤ℤ p.y → t.y ≤ℤ q.y → t.y ≤ℤ r.y → HasEnd p q r t
    by_t a b c = turned_end p q r t (turned_end q r t p (turned_end r t p q (lowest_end t p q r wt wp wq wr h'''
        (λ ep eq er. uneven (eq ∙ sym ep) (er ∙ sym ep) (sym ep)) flat_p flat_r a b c)))

-- ---- with x and y exchanged, and the quadrilateral walked the other way
flipped_piece : (p q r : Point) → IsOnPiece (flipped p) (flipped q) (flipped r) → IsOnPiece p q r
flipped_piece p q r h = record {
  m = h.m;
  l = h.l;
  is_part = record { part = h.is_part.part; column = h.is_part.row; row = h.is_part.column };
}

pub flipped_end : (p q r t : Point) → HasEnd (flipped p) (flipped t) (flipped r) (flipped q) → HasEnd p q r t
flipped_end p q r t (first h) = first (turned_piece p q t (flipped_piece p q t h))
flipped_end p q r t (second h) = fourth (turned_piece t p r (flipped_piece t p r h))
flipped_end p q r t (third h) = third (turned_piece r t q (flipped_piece r t q h))
flipped_end p q r t (fourth h) = second (turned_piece q r p (flipped_piece q r p h))

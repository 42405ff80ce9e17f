-- On which side of a point the edges of a row are: from left to right the distance_from doesn't change from right to left, and it
-- is none exactly for those that end at the point, or begin there.
use Rattle.std.proofs.Common.{◌≡◌, ◌≢◌, ◌⊎◌, inl, inr, ⊎_elim, ℕ, ◌<◌, Bool, true, false, [], ◌∷◌, length}
use Rattle.std.proofs.Common.{ℤ, pos, ◌+ℤ◌, ◌-ℤ◌, ◌*ℤ◌, ◌≤ℤ◌, ◌<ℤ◌, refl, sym, ap, subst, ◌∙◌, arith, nat_eq}
use Rattle.std.proofs.lemmas.Bool.Decides.{Decides-eqb}
use Rattle.lay_point.proofs.Polynomials.{#, lit, ◌⊕◌, ◌⊖◌, ◌⊗◌, identity}
use Rattle.lay_point.proofs.Signs.{below_or_same, cancel_zero, linear}
use Rattle.lay_point.specs.declared.point.Point.{Point}
use Rattle.lay_point.specs.Parity.{distance_right}
use Rattle.lay_point.proofs.EdgeOrder.{same_point}
use Rattle.lay_point.proofs.Members.{contains}
use Rattle.lay_point.proofs.ListLaws.{has_get}
use Rattle.snap_edge_laws.specs.Meeting.{MeetAtEnds}
use Rattle.face_side_laws.proofs.Rows.{IsBesideRow, IsLeft, Spans, not_left_in_row, right_in_row}
use Rattle.face_side_laws.proofs.Sides.{not_on}
use Rattle.face_rows.proofs.UpwardLemmas.{up_meet}
use Rattle.face_rows.proofs.RowLemmas.{other_edge, spans_of}
use Rattle.face_rows.specs.Lines.{edge_at, nowhere}
use Rattle.snap_chains.specs.Rounded.{Owned}
use Rattle.face_rows.specs.Rows.{CrossesRow, IsLeftOf, upward}
use Rattle.face_rows.specs.Sound.{AreSound}
use Rattle.face_sweep.specs.Points.{HasLow, HasHigh, IsEndPoint, distance_from}

-- ---- one edge and its ends
distance_low : (a b : Point) → distance_right (pos 1) a.x a.y a b ≡ pos 0
distance_low a b = identity (a.x ∷ a.y ∷ b.x ∷ b.y ∷ [])
    ((lit (pos 1) ⊗ # 0 ⊖ # 0) ⊗ (# 3 ⊖ # 1) ⊕ (# 1 ⊖ lit (pos 1) ⊗ # 1) ⊗ (# 2 ⊖ # 0)) (lit (pos 0)) refl

distance_high : (a b : Point) → distance_right (pos 1) b.x b.y a b ≡ pos 0
distance_high a b = identity (a.x ∷ a.y ∷ b.x ∷ b.y ∷ [])
    ((lit (pos 1) ⊗ # 0 ⊖ # 2) ⊗ (# 3 ⊖ # 1) ⊕ (# 3 ⊖ lit (pos 1) ⊗ # 1) ⊗ (# 2 ⊖ # 0)) (lit (pos 0)) refl

-- at the height of an end the distance_from is that end's
pub at_low : (x : ℤ) (a b : Point) → distance_right (pos 1) x a.y a b ≡ (b.y -ℤ a.y) *ℤ (a.x -ℤ x)
at_low x a b = identity (x ∷ a.x ∷ a.y ∷ b.x ∷ b.y ∷ [])
    ((lit (pos 1) ⊗ # 1 ⊖ # 0) ⊗ (# 4 ⊖ # 2) ⊕ (# 2 ⊖ lit (pos 1) ⊗ # 2) ⊗ (# 3 ⊖ # 1)) ((# 4 ⊖ # 2) ⊗ (# 1 ⊖ # 0)) refl

pub at_high : (x : ℤ) (a b : Point) → distance_right (pos 1) x b.y a b ≡ (b.y -ℤ a.y) *ℤ (b.x -ℤ x)
at_high x a b = identity (x ∷ a.x ∷ a.y ∷ b.x ∷ b.y ∷ [])
    ((lit (pos 1) ⊗ # 1 ⊖ # 0) ⊗ (# 4 ⊖ # 2) ⊕ (# 4 ⊖ lit (pos 1) ⊗ # 2) ⊗ (# 3 ⊖ # 1)) ((# 4 ⊖ # 2) ⊗ (# 3 ⊖ # 0)) refl

low_there : (p a b : Point) → a.y <ℤ b.y → p.y ≡ a.y → distance_right (pos 1) p.x p.y a b ≡ pos 0 → a ≡ p
low_there p a b rises same none =
    let e = cancel_zero (b.y -ℤ a.y) (a.x -ℤ p.x) (omega (arith, linear))
    (sym (at_low p.x a b) ∙ ap (λ y. distance_right (pos 1) p.x y a b) (sym same) ∙ none) in
    same_point a p (omega (arith, linear)) (sym same)

high_there : (p a b : Point) → a.y <ℤ b.y → p.y ≡ b.y → distance_right (pos 1) p.x p.y a b ≡ pos 0 → b ≡ p
high_there p a b rises same none =
    let e = cancel_zero (b.y -ℤ a.y) (b.x -ℤ p.x) (omega (arith, linear))
    (sym (at_high p.x a b) ∙ ap (λ y. distance_right (pos 1) p.x y a b) (sym same) ∙ none) in
    same_point b p (omega (arith, linear)) (sym same)

-- ---- an end of another edge isn't inside
one_and_none : (u w : ℤ) → pos 1 *ℤ u +ℤ pos 0 *ℤ w ≡ u
one_and_none u w = identity (u ∷ w ∷ []) (lit (pos 1) ⊗ # 0 ⊕ lit (pos 0) ⊗ # 1) (# 0) refl

none_and_one : (u w : ℤ) → pos 0 *ℤ u +ℤ pos 1 *ℤ w ≡ w
none_and_one u w = identity (u ∷ w ∷ []) (lit (pos 0) ⊗ # 0 ⊕ lit (pos 1) ⊗ # 1) (# 1) refl

one_times : (u : ℤ) → pos 1 *ℤ u ≡ u
one_times u = identity (u ∷ []) (lit (pos 1) ⊗ # 0) (# 0) refl

not_low : (a b c d : Point) → MeetAtEnds (a, b) (c, d) → a.y <ℤ c.y → c.y <ℤ b.y → distance_right (pos 1) c.x c.y a b ≡ pos 0 → ⊥
not_low a b c d meet low high none =
    not_on a b c d (pos 1) (pos 0) meet (omega (arith, linear))
    (record {
      first = omega (arith, linear);
      second = omega (arith, linear);
      scale = omega (arith, linear);
      above = omega (arith, linear, one_and_none c.y d.y, one_times a.y);
      below = omega (arith, linear, one_and_none c.y d.y, one_times b.y);
    })
    ((λ i. distance_right (pos 1) (one_and_none c.x d.x i) (one_and_none c.y d.y i) a b) ∙ none)

not_high : (a b c d : Point) → MeetAtEnds (a, b) (c, d) → a.y <ℤ d.y → d.y <ℤ b.y → distance_right (pos 1) d.x d.y a b ≡ pos 0 → ⊥
not_high a b c d meet low high none =
    not_on a b c d (pos 0) (pos 1) meet (omega (arith, linear))
    (record {
      first = omega (arith, linear);
      second = omega (arith, linear);
      scale = omega (arith, linear);
      above = omega (arith, linear, none_and_one c.y d.y, one_times a.y);
      below = omega (arith, linear, none_and_one c.y d.y, one_times b.y);
    })
    ((λ i. distance_right (pos 1) (none_and_one c.x d.x i) (none_and_one c.y d.y i) a b) ∙ none)

-- ---- edges by number
module _ (r : Owned) (sound : AreSound r) where
  pub meets : (m n : ℕ) → m ≢ n → m < length r.0 → n < length r.0 → MeetAtEnds (upward (edge_at r m)) (upward (edge_at r n))
  meets m n apart inside_m inside_n =
      let e = edge_at r m in
      let f = edge_at r n in
      up_meet e f (sound.clean e f (contains r.0 e (has_get r.0 m nowhere inside_m)) (contains r.0 f (has_get r.0 n nowhere inside_n))
      (other_edge r.0 m n nowhere sound.rising apart inside_m inside_n))

  -- no vertex is inside an edge
  not_inside : (p : Point) → IsEndPoint r p → (n : ℕ) → n < length r.0 → (upward (edge_at r n)).0.y <ℤ p.y
      → p.y <ℤ (upward (edge_at r n)).1.y → distance_from r p n ≢ pos 0
  not_inside p v n given low high none = by_number (nat_eq n v.number) refl
    where
      a : Point
      a = (upward (edge_at r n)).0

      b : Point
      b = (upward (edge_at r n)).1

      c : Point
      c = (upward (edge_at r v.number)).0

      d : Point
      d = (upward (edge_at r v.number)).1

      by_end : HasLow r p v.number ⊎ HasHigh r p v.number → n ≢ v.number → ⊥
      by_end (inl at) apart = not_low a b c d (meets n v.number apart given v.given)
          (subst (λ (q : Point). a.y <ℤ q.y) (sym at) low) (subst (λ (q : Point). q.y <ℤ b.y) (sym at) high)
          (ap (λ (q : Point). distance_right (pos 1) q.x q.y a b) at ∙ none)
      by_end (inr at) apart = not_high a b c d (meets n v.number apart given v.given)
          (subst (λ (q : Point). a.y <ℤ q.y) (sym at) low) (subst (λ (q : Point). q.y <ℤ b.y) (sym at) high)
          (ap (λ (q : Point). distance_right (pos 1) q.x q.y a b) at ∙ none)

      itself : HasLow r p v.number ⊎ HasHigh r p v.number → n ≡ v.number → ⊥
      itself (inl at) same =
          let e = ap (λ (q : Point). q.y) at in
          let f : a.y ≡ c.y = ap (λ k. (upward (edge_at r k)).0.y) same in omega (arith, linear)
      itself (inr at) same =
          let e = ap (λ (q : Point). q.y) at in
          let f : b.y ≡ d.y = ap (λ k. (upward (edge_at r k)).1.y) same in omega (arith, linear)

      by_number : (t : Bool) → nat_eq n v.number ≡ t → ⊥
      by_number true t = itself v.at ((Decides-eqb n v.number).0 t)
      by_number false t = by_end v.at (λ same. let t' = (Decides-eqb n v.number).1 same in absurd cc)

  pub span : (row : ℤ) (n : ℕ) → CrossesRow r.0 row n → Spans row (upward (edge_at r n))
  span row n h = spans_of row (edge_at r n) (h.1 nowhere)

  -- of the row below those at the point end there, of its own row those at the point begin there
  pub none_ends : (p : Point) → IsEndPoint r p → (n : ℕ) → CrossesRow r.0 (p.y -ℤ pos 1) n → distance_from r p n ≡ pos 0 → HasHigh r p n
  none_ends p v n h none =
      let s = span (p.y -ℤ pos 1) n h in
      let a = (upward (edge_at r n)).0 in
      let b = (upward (edge_at r n)).1 in
      ⊎_elim (λ (less : p.y <ℤ b.y). absurd (not_inside p v n h.0 (omega (arith, linear, s.low)) less none))
      (λ (same : p.y ≡ b.y). high_there p a b (omega (arith, linear, s.low, s.high)) same none)
      (below_or_same p.y b.y (omega (arith, linear, s.high)))

  pub none_begins : (p : Point) → IsEndPoint r p → (n : ℕ) → CrossesRow r.0 p.y n → distance_from r p n ≡ pos 0 → HasLow r p n
  none_begins p v n h none =
      let s = span p.y n h in
      let a = (upward (edge_at r n)).0 in
      let b = (upward (edge_at r n)).1 in
      ⊎_elim (λ (less : a.y <ℤ p.y). absurd (not_inside p v n h.0 less (omega (arith, linear, s.high)) none))
      (λ (same : a.y ≡ p.y). low_there p a b (omega (arith, linear, s.low, s.high)) (sym same) none)
      (below_or_same a.y p.y s.low)

  pub ends_none : (p : Point) (n : ℕ) → HasHigh r p n → distance_from r p n ≡ pos 0
  ends_none p n at =
      subst (λ (q : Point). distance_right (pos 1) q.x q.y (upward (edge_at r n)).0 (upward (edge_at r n)).1 ≡ pos 0) at
      (distance_high (upward (edge_at r n)).0 (upward (edge_at r n)).1)

  pub begins_none : (p : Point) (n : ℕ) → HasLow r p n → distance_from r p n ≡ pos 0
  begins_none p n at =
      subst (λ (q : Point). distance_right (pos 1) q.x q.y (upward (edge_at r n)).0 (upward (edge_at r n)).1 ≡ pos 0) at
      (distance_low (upward (edge_at r n)).0 (upward (edge_at r n)).1)

  -- ---- from left to right
  apart_in : (row : ℤ) (m n : ℕ) → IsLeftOf r.0 row m n → m ≢ n
  apart_in row m n left same =
      let less = subst (λ k. IsLeftOf r.0 row k n) same left nowhere in omega (arith, linear)

  -- in a row that has the point's height, or whose end is there
  pub record AreInRowOrder (p : Point) (m n : ℕ) : Type 0 where
    pub from : pos 0 ≤ℤ distance_from r p m → pos 0 ≤ℤ distance_from r p n
    pub behind : pos 0 <ℤ distance_from r p m → pos 0 <ℤ distance_from r p n

  pub in_order : (p : Point) (row : ℤ) → IsBesideRow row (pos 1) p.y → (m n : ℕ) → CrossesRow r.0 row m → CrossesRow r.0 row n
      → IsLeftOf r.0 row m n → AreInRowOrder p m n
  in_order p row beside m n hm hn left =
      let e = upward (edge_at r m) in
      let f = upward (edge_at r n) in
      let meet = meets m n (apart_in row m n left) hm.0 hn.0 in
      let less : IsLeft row e f = record { less = left nowhere } in
      record {
        from = not_left_in_row row e f (pos 1) p.x p.y beside (span row m hm) (span row n hn) meet less;
        behind = right_in_row row e f (pos 1) p.x p.y beside (span row m hm) (span row n hn) meet less;
      }

  pub beside_below : (p : Point) → IsBesideRow (p.y -ℤ pos 1) (pos 1) p.y
  beside_below p = record {
    scale = omega (arith, linear);
    low = omega (arith, linear, one_times (p.y -ℤ pos 1));
    high = omega (arith, linear, one_times ((p.y -ℤ pos 1) +ℤ pos 1));
  }

  pub beside_own : (p : Point) → IsBesideRow p.y (pos 1) p.y
  beside_own p = record {
    scale = omega (arith, linear);
    low = omega (arith, linear, one_times p.y);
    high = omega (arith, linear, one_times (p.y +ℤ pos 1));
  }

-- The stops of a sweep, in its order.
use Rattle.std.proofs.Common.{◌≡◌, inl, inr, ⊎_elim, ℕ, ◌+◌, ◌<◌, ◌≤◌, true, List, [], length, get_or, Contains, pos}
use Rattle.std.proofs.Common.{◌-ℤ◌, ◌≤ℤ◌, ◌<ℤ◌, refl, sym, ap, subst, ◌∙◌, arith}
use Rattle.std.proofs.Math.ListN.{length-map}
use Rattle.std.proofs.lemmas.Bool.{cases_lt}
use Rattle.std.proofs.lemmas.List.{get_or-map}
use Rattle.lay_point.proofs.Signs.{linear}
use Rattle.lay_point.specs.declared.point.Point.{Point}
use Rattle.lay_point.proofs.Rising.{IsStrictOrder}
use Rattle.lay_point.proofs.ListLaws.{before_by_number}
use Rattle.snap_chains.specs.Rounded.{Owned}
use Rattle.face_rows.specs.declared.band.Band.{Band}
use Rattle.face_rows.specs.Bands.{begins_in}
use Rattle.face_rows.specs.Lines.{edge_at, nowhere}
use Rattle.face_rows.specs.Rows.{AreRowEdges, CrossesRow, upward}
use Rattle.face_rows.specs.Sound.{AreSound}
use Rattle.face_rows.proofs.BandLemmas.{bounds}
use Rattle.face_rows.proofs.RowLemmas.{spans_of}
use Rattle.face_sweep.specs.declared.stops.Stop.{Stop}
use Rattle.face_sweep.specs.declared.stops.Stops.{Stops}
use Rattle.face_sweep.specs.Points.{HasLow, IsAfter, IsEndPoint, IsNextPoint, IsPassed, IsStatus}
use Rattle.face_sweep.specs.Stops.{AreStops, stop_points}
use Rattle.face_sweep.proofs.NextLemmas.{follows, row_begins}

after_strict : IsStrictOrder IsAfter
after_strict = record { irreflexive = irreflexive; transitive = transitive }
  where
    irreflexive : (p : Point) → IsAfter p p → ⊥
    irreflexive p (inl (same, less)) = omega (arith, linear)
    irreflexive p (inr less) = omega (arith, linear)

    transitive : (p q v : Point) → IsAfter p q → IsAfter q v → IsAfter p v
    transitive p q v (inl (e, l)) (inl (f, g)) = inl (e ∙ f, omega (arith, linear, l, g))
    transitive p q v (inl (e, l)) (inr g) = inr (omega (arith, linear, e, g))
    transitive p q v (inr l) (inl (f, g)) = inr (omega (arith, linear, f, l))
    transitive p q v (inr l) (inr g) = inr (omega (arith, linear, l, g))

not_below : (p q : Point) → IsAfter p q → p.y ≤ℤ q.y
not_below p q (inl (same, less)) = omega (arith, linear, same)
not_below p q (inr less) = omega (arith, linear, less)

not_right : (p q : Point) → IsAfter p q → q.y ≡ p.y → p.x <ℤ q.x → ⊥
not_right p q (inl (same, less)) e right = omega (arith, linear, less, right)
not_right p q (inr less) e right = omega (arith, linear, less, e)

module _ (r : Owned) (stops : Stops) (h : AreStops r stops) (d : Stop) where
  abbrev point_of : ℕ → Point
  point_of k = (get_or stops.list.items k d).point

  here : (k : ℕ) (e : Point) → k < length stops.list.items → get_or (stop_points stops) k e ≡ point_of k
  here k e less = get_or-map (λ (stop : Stop). stop.point) stops.list.items k d e less

  count : length (stop_points stops) ≡ length stops.list.items
  count = length-map stops.list.items (λ (stop : Stop). stop.point)

  pub is_end : (k : ℕ) → k < length stops.list.items → IsEndPoint r (point_of k)
  is_end k less = h.points.some (point_of k) (k, omega (arith, count, less), here k (point_of k) less)

  pub stop_of : (v : Point) → IsEndPoint r v → (k : ℕ) × (k < length stops.list.items) × (point_of k ≡ v)
  stop_of v is =
      let m = h.points.all v is in
      let less : m.0 < length stops.list.items = omega (arith, m.1, count) in
      (m.0, less, sym (here m.0 v less) ∙ m.2)

  pub in_order : (i k : ℕ) → i < k → k < length stops.list.items → IsAfter (point_of i) (point_of k)
  in_order i k before less =
      let origin : Point = record { x = pos 0; y = pos 0 } in
      let b = before_by_number IsAfter after_strict (stop_points stops) i k origin h.points.rising before (omega (arith, count, less)) in
      coe 0 1 (z. IsAfter (here i origin (omega arith) z) (here k origin less z)) b

  pub not_lower : (i k : ℕ) → i ≤ k → k < length stops.list.items → (point_of i).y ≤ℤ (point_of k).y
  not_lower i k le less = ⊎_elim
      (λ (before : i < k). not_below (point_of i) (point_of k) (in_order i k before less))
      (λ (ge : k ≤ i).
      let same : i ≡ k = omega arith in
      subst (λ j. (point_of i).y ≤ℤ (point_of j).y) same (omega (arith, linear)))
      (cases_lt i k)

  -- ---- from a stop to the next
  next_point : (k : ℕ) → k + 1 < length stops.list.items → IsNextPoint r (point_of k) (point_of (k + 1))
  next_point k less = record {
    after = in_order k (k + 1) (omega arith) less;
    none = λ v is from to. let m = stop_of v is in none m.0 m.1
        (subst (λ z. IsAfter (point_of k) z) (sym m.2) from) (subst (λ z. IsAfter z (point_of (k + 1))) (sym m.2) to);
  }
    where
      none : (j : ℕ) → j < length stops.list.items → IsAfter (point_of k) (point_of j) → IsAfter (point_of j) (point_of (k + 1)) → ⊥
      none j inside from to = ⊎_elim
          (λ (early : j < k + 1). ⊎_elim
          (λ (before : j < k). after_strict.irreflexive (point_of j)
          (after_strict.transitive (point_of j) (point_of k) (point_of j) (in_order j k before (omega arith)) from))
          (λ (ge : k ≤ j).
          let same : j ≡ k = omega arith in
          after_strict.irreflexive (point_of k) (subst (λ i. IsAfter (point_of k) (point_of i)) same from))
          (cases_lt j k))
          (λ (late : k + 1 ≤ j). ⊎_elim
          (λ (behind : k + 1 < j). after_strict.irreflexive (point_of j)
          (after_strict.transitive (point_of j) (point_of (k + 1)) (point_of j) to (in_order (k + 1) j behind inside)))
          (λ (ge : j ≤ k + 1).
          let same : j ≡ k + 1 = omega arith in
          after_strict.irreflexive (point_of (k + 1)) (subst (λ i. IsAfter (point_of i) (point_of (k + 1))) same to))
          (cases_lt (k + 1) j))
          (cases_lt j (k + 1))

  pub next_status : (k : ℕ) (numbers : List ℕ) → AreSound r → k + 1 < length stops.list.items → IsPassed r (point_of k) numbers
      → IsStatus r (point_of (k + 1)) numbers
  next_status k numbers sound less s = follows r sound (point_of k) (point_of (k + 1)) numbers s (next_point k less)

  -- ---- the first stop of a row
  pub first_status : (i : ℕ) (numbers : List ℕ) → AreSound r → i < length stops.list.items
      → ((k : ℕ) → k < i → (point_of k).y <ℤ (point_of i).y) → AreRowEdges r.0 ((point_of i).y -ℤ pos 1) numbers
      → IsStatus r (point_of i) numbers
  first_status i numbers sound less first edges =
      row_begins r sound (point_of i) numbers edges (λ v is same right. let m = stop_of v is in
      none m.0 m.1 (ap (λ (z : Point). z.y) m.2 ∙ same) (subst (λ (z : Point). (point_of i).x <ℤ z.x) (sym m.2) right))
    where
      none : (k : ℕ) → k < length stops.list.items → (point_of k).y ≡ (point_of i).y → (point_of i).x <ℤ (point_of k).x → ⊥
      none k inside same right = ⊎_elim
          (λ (before : k < i). let low = first k before in omega (arith, linear, low, same))
          (λ (ge : i ≤ k). ⊎_elim
          (λ (behind : i < k). not_right (point_of i) (point_of k) (in_order i k behind inside) same right)
          (λ (le : k ≤ i).
          let at : k ≡ i = omega arith in
          let there : (point_of i).x <ℤ (point_of i).x = subst (λ j. (point_of i).x <ℤ (point_of j).x) at right in
          omega (arith, linear, there))
          (cases_lt i k))
          (cases_lt k i)

  -- below the first stop of all there is no edge
  pub none_below : 0 < length stops.list.items → AreRowEdges r.0 ((point_of 0).y -ℤ pos 1) []
  none_below some = record { exact = λ n. (λ found. absurd (no_member n found), λ cross. absurd (none n cross)); rising = tt }
    where
      no_member : (n : ℕ) → Contains [] n → ⊥
      no_member n (k, less, at) = omega (arith, less)

      none : (n : ℕ) → CrossesRow r.0 ((point_of 0).y -ℤ pos 1) n → ⊥
      none n cross =
          let s = spans_of ((point_of 0).y -ℤ pos 1) (edge_at r n) (cross.1 nowhere) in
          let m = stop_of (upward (edge_at r n)).0 (record { number = n; given = cross.0; at = inl refl }) in
          let low = not_lower 0 m.0 (omega arith) m.1 in
          let same = ap (λ (z : Point). z.y) m.2 in
          omega (arith, linear, s.low, low, same)

  -- ---- the stops of a band
  pub all_of_band : (P : ℕ → Type 0) (band : Band) (first last : ℕ) → ((k : ℕ) → k < first → (point_of k).y <ℤ band.low)
      → (last < length stops.list.items → band.high ≤ℤ (point_of last).y)
      → ((k n : ℕ) → first ≤ k → k < last → k < length stops.list.items → n < length r.0 → HasLow r (point_of k) n → P n)
      → (n : ℕ) → n < length r.0 → begins_in band (edge_at r n) ≡ true → P n
  all_of_band P band first last early late so_far n given begins =
      let b = bounds band (edge_at r n) begins in
      let m = stop_of (upward (edge_at r n)).0 (record { number = n; given = given; at = inl refl }) in
      let same = ap (λ (z : Point). z.y) m.2 in
      ⊎_elim
      (λ (before : m.0 < first). let low = early m.0 before in absurd (omega (arith, linear, low, same, b.0)))
      (λ (from : first ≤ m.0). ⊎_elim
      (λ (to : m.0 < last). so_far m.0 n from to m.1 given (sym m.2))
      (λ (ge : last ≤ m.0).
      let inside = m.1 in
      let high = late (omega arith) in
      let up = not_lower last m.0 ge m.1 in
      absurd (omega (arith, linear, high, up, same, b.1)))
      (cases_lt m.0 last))
      (cases_lt m.0 first)

use Rattle.std.proofs.Common.{◌≡◌, ◌∙◌, ◌<◌, ◌≤◌, ◌^◌, ◌↔◌, ℕ, List, Contains, sym, ap, subst, length, arith, ⊎_elim}
use Rattle.std.specs.Prelude.{slice_get, slice_index_or}
use Rattle.std.proofs.Common.{Some}
use Rattle.std.proofs.lemmas.Bool.{cases_lt, false≢true}
use Rattle.lay_point.specs.declared.point.Point.{Point}
use Rattle.lay_point.specs.Points.{IsBefore}
use Rattle.lay_point.specs.Rising.{IsRising}
use Rattle.snap_slabs.specs.Runs.{IsRowBefore, centres_at}
use Rattle.snap_slabs.proofs.KeyOrder.{rising_points, row_members}
use Rattle.snap_slabs.proofs.numbers.Numbers.new.Goals as goal

pub rows_of-requires-clause-rising : goal.rows_of-requires-clause-rising
rows_of-requires-clause-rising g c κs within =
    subst (IsRising IsBefore) (sym c.centres-centres.ensures.value) (rising_points c.args.hot.now c.centres-centres.ensures.rising)

pub places_of-requires-clause-inside : goal.places_of-requires-clause-inside
places_of-requires-clause-inside g c = λ i m.
    let lt = (c.in_ok-rows.ensures.members i).0 (subst (λ l. Contains l i) c.as_slice.ensures.value m) in
    lt

pub invariant_of-result : goal.invariant_of-result
invariant_of-result g c =
    let hot = c.args.hot.now in
    let rows = c.in_ok-rows.rows.items in
    let all : (i : ℕ) → Contains rows i ↔ i < length hot =
    subst (λ (l : List Point). (i : ℕ) → Contains rows i ↔ i < length l) c.centres-centres.ensures.value c.in_ok-rows.ensures.members in
    record {
      rising = rising_points hot c.centres-centres.ensures.rising;
      by_row = subst (λ l. IsRising IsRowBefore (centres_at l rows)) c.centres-centres.ensures.value c.in_ok-rows.ensures.by_row;
      members = row_members hot rows all;
      inside = λ k m. (all k).0 m;
      few = ⊎_elim (λ (less : length hot < 2 ^ 32). less)
          (λ (ge : 2 ^ 32 ≤ length hot). absurd (false≢true (sym c.if-is_many.false
          ∙ c.is_many.ensures.1 (omega (arith, ge, ap length c.centres-centres.ensures.value)))))
          (cases_lt (length hot) (2 ^ 32));
      as_many = c.in_ok-places.ensures.as_many ∙ ap length c.centres-centres.ensures.value;
      placed = λ i lt. subst (λ l. slice_get l (slice_index_or c.in_ok-places.places.items i 0) ≡ Some i) c.as_slice.ensures.value
          (c.in_ok-places.ensures.placed i (subst (λ l. Contains l i) (sym c.as_slice.ensures.value) ((all i).1 lt)));
    }

-- Bands in which edges begin.
use Rattle.std.proofs.Common.{◌≡◌, ℕ, ◌+◌, ◌<◌, ◌≤◌, true, List, length, get_or, ◌≤ℤ◌, ◌<ℤ◌, subst}
use Rattle.std.proofs.Common.{ap, ◌∙◌, ⊎_elim, arith}
use Rattle.std.specs.Prelude.{int_le, int_lt}
use Rattle.std.proofs.lemmas.Bool.{and_from, and_parts, cases_lt}
use Rattle.std.proofs.lemmas.List.{get_or_default}
use Rattle.lay_point.proofs.Signs.{linear}
use Rattle.lay_point.proofs.Tests.{le_true, lt_true, true_le, true_lt}
use Rattle.lay_point.specs.declared.point.Point.{Point}
use Rattle.face_rows.specs.declared.band.Band.{Band}
use Rattle.face_rows.specs.Bands.{begins_in}
use Rattle.face_rows.specs.Rows.{upward}

pub begins : (band : Band) (e : Point × Point) → band.low ≤ℤ (upward e).0.y → (upward e).0.y <ℤ band.high → begins_in band e ≡ true
begins band e low high =
    and_from (int_le band.low (upward e).0.y) (int_lt (upward e).0.y band.high) (true_le band.low (upward e).0.y low)
    (true_lt (upward e).0.y band.high high)

pub bounds : (band : Band) (e : Point × Point) → begins_in band e ≡ true → (band.low ≤ℤ (upward e).0.y) × ((upward e).0.y <ℤ band.high)
bounds band e h =
    let both = and_parts (int_le band.low (upward e).0.y) (int_lt (upward e).0.y band.high) h in
    (le_true band.low (upward e).0.y both.0, lt_true (upward e).0.y band.high both.1)

-- in a band that is no narrower begins what begins in the old one, and one edge more
pub begin_more : (old new : Band) (edges : List (Point × Point)) (i : ℕ) (e : Point × Point) → i < length edges → e ≡ get_or edges i e
    → new.low ≤ℤ old.low → old.high ≤ℤ new.high → new.low ≤ℤ (upward e).0.y → (upward e).0.y <ℤ new.high
    → ((k : ℕ) (d : Point × Point) → k < i → begins_in old (get_or edges k d) ≡ true)
    → (k : ℕ) (d : Point × Point) → k < i + 1 → begins_in new (get_or edges k d) ≡ true
begin_more old new edges i e less is low high from to so_far k d lt = ⊎_elim
    (λ (before : k < i).
    let f = get_or edges k d in
    let was = and_parts (int_le old.low (upward f).0.y) (int_lt (upward f).0.y old.high) (so_far k d before) in
    let above = le_true old.low (upward f).0.y was.0 in
    let below = lt_true (upward f).0.y old.high was.1 in
    begins new f (omega (arith, linear, above, low)) (omega (arith, linear, below, high)))
    (λ (ge : i ≤ k).
    let same : i ≡ k = omega arith in
    subst (λ f. begins_in new f ≡ true) (is ∙ get_or_default edges i e d less ∙ ap (λ m. get_or edges m d) same) (begins new e from to))
    (cases_lt k i)

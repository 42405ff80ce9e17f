-- The computed crossing is the pixel of the common point, and the computed hot centres are the hot ones.
use Rattle.std.proofs.Common.{◌≡◌, inl, inr, ◌↔◌, Bool, true, false, cond, ◌&&◌, Some, None, List, ℤ, pos, ◌≤ℤ◌, ◌<ℤ◌}
use Rattle.std.proofs.Common.{refl, arith}
use Rattle.std.specs.Prelude.{flat_map, int_le, int_lt}
use Rattle.std.proofs.lemmas.Int.{ints}
use Rattle.std.proofs.lemmas.Bool.{and_from, and_parts, both_ways}
use Rattle.lay_point.proofs.Signs.{linear}
use Rattle.lay_point.proofs.Tests.{le_true, lt_true, true_le}
use Rattle.lay_point.specs.declared.point.Point.{Point}
use Rattle.lay_point.specs.Points.{IsBefore}
use Rattle.snap_pixels.specs.Segments.{Crosses, IsFraction, along, cross}
use Rattle.snap_pixels.proofs.CrossingLemmas.{IsFound, Crosses-some, Crosses-none, Crosses-parallel, Crosses-same_turned, turned_left}
use Rattle.snap_pixels.proofs.RoundLemmas.{IsRoundedTo-quotient}
use Rattle.lay_point.proofs.Members.{Has}
use Rattle.snap_laws.specs.Crossings.{crossing_of, hot_centres, is_fraction, left_crossing, marks_of, nearest}
use Rattle.snap_laws.specs.Sorting.{point_order}
use Rattle.snap_laws.proofs.Sides.{IsMarked}
use Rattle.snap_laws.proofs.Sorting.{
  filter_map_has,
  flat_map_has,
  has_filter_map,
  has_flat_map,
  has_sorted,
  points_ranked,
  sorted_has,
}

-- ---- tests
neither_lt : (a b : ℤ) → int_lt a b ≡ false → int_lt b a ≡ false → b ≡ a
neither_lt a b e f = grind (arith, ints)

fraction_by_test : (t k : ℤ) → pos 0 <ℤ k → is_fraction t k ≡ true → IsFraction t k
fraction_by_test t k positive e =
    let both = and_parts (int_le (pos 0) t) (int_le t k) e in
    record { scale = omega (arith, linear); low = le_true (pos 0) t both.0; high = le_true t k both.1 }

test_by_fraction : (t k : ℤ) → IsFraction t k → is_fraction t k ≡ true
test_by_fraction t k f = and_from (int_le (pos 0) t) (int_le t k) (true_le (pos 0) t f.low) (true_le t k f.high)

-- ---- crossings
module _ (a b c d : Point) (left : pos 0 <ℤ cross a b c d) where
  abbrev k : ℤ
  k = cross a b c d

  abbrev t : ℤ
  t = cross a c c d

  abbrev u : ℤ
  u = cross a c a b

  abbrev centre : Point
  centre = record { x = nearest (along k t a.x b.x) k; y = nearest (along k t a.y b.y) k }

  one : pos 1 ≤ℤ k
  one = omega (arith, linear)

  left_by_tests : (f g : Bool) → is_fraction t k ≡ f → is_fraction u k ≡ g
      → (p : Point) → Crosses a b c d p ↔ (cond (f && g) (Some centre) None ≡ Some p)
  left_by_tests true true ef eg = Crosses-some a b c d left centre (record {
    first = fraction_by_test t k left ef;
    second = fraction_by_test u k left eg;
    column = IsRoundedTo-quotient (along k t a.x b.x) k one;
    row = IsRoundedTo-quotient (along k t a.y b.y) k one;
  })
  left_by_tests true false ef eg = Crosses-none a b c d left
      (λ p (f : IsFound a b c d left p). both_ways (is_fraction u k) eg (test_by_fraction u k f.second))
  left_by_tests false g ef eg = Crosses-none a b c d left
      (λ p (f : IsFound a b c d left p). both_ways (is_fraction t k) ef (test_by_fraction t k f.first))

  left_is : (p : Point) → Crosses a b c d p ↔ (left_crossing a b c d ≡ Some p)
  left_is = left_by_tests (is_fraction t k) (is_fraction u k) refl refl

pub crossing_is : (a b c d : Point) → (p : Point) → Crosses a b c d p ↔ (crossing_of a b c d ≡ Some p)
unfolding crossing_of
crossing_is a b c d = by_signs (int_lt (pos 0) (cross a b c d)) (int_lt (cross a b c d) (pos 0)) refl refl
  where
    by_signs : (l r : Bool) → int_lt (pos 0) (cross a b c d) ≡ l → int_lt (cross a b c d) (pos 0) ≡ r
        → (p : Point) → Crosses a b c d p ↔ (cond l (left_crossing a b c d) (cond r (left_crossing a b d c) None) ≡ Some p)
    by_signs true r el er = left_is a b c d (lt_true (pos 0) (cross a b c d) el)
    by_signs false true el er =
        Crosses-same_turned a b c d a b c d (left_crossing a b d c) refl refl refl refl
        (left_is a b d c (turned_left a b c d (lt_true (cross a b c d) (pos 0) er)))
    by_signs false false el er = Crosses-parallel a b c d (neither_lt (pos 0) (cross a b c d) el er)

-- ---- hot centres
pub marked_centre : (sides : List (Point × Point)) (c : Point) → IsMarked sides c → Has (hot_centres sides) c
unfolding hot_centres
marked_centre sides c (inl (e, m, inl same)) =
    sorted_has point_order IsBefore points_ranked (flat_map (marks_of sides) sides) c
    (flat_map_has (marks_of sides) sides e c m (inl same))
marked_centre sides c (inl (e, m, inr same)) =
    sorted_has point_order IsBefore points_ranked (flat_map (marks_of sides) sides) c
    (flat_map_has (marks_of sides) sides e c m (inr (inl same)))
marked_centre sides c (inr (e, f, m, n, x)) =
    sorted_has point_order IsBefore points_ranked (flat_map (marks_of sides) sides) c
    (flat_map_has (marks_of sides) sides e c m
    (inr (inr (filter_map_has (λ s. crossing_of e.0 e.1 s.0 s.1) sides f c n ((crossing_is e.0 e.1 f.0 f.1 c).0 x)))))

pub centre_marked : (sides : List (Point × Point)) (c : Point) → Has (hot_centres sides) c → IsMarked sides c
unfolding hot_centres
centre_marked sides c m =
    let marks = flat_map (marks_of sides) sides in
    let mark = has_flat_map (marks_of sides) sides c (has_sorted point_order IsBefore points_ranked marks c m) in
    by_mark mark.0 mark.1 mark.2
  where
    by_mark : (e : Point × Point) → Has sides e → Has (marks_of sides e) c → IsMarked sides c
    by_mark e m (inl same) = inl (e, m, inl same)
    by_mark e m (inr (inl same)) = inl (e, m, inr same)
    by_mark e m (inr (inr n)) =
        let found = has_filter_map (λ s. crossing_of e.0 e.1 s.0 s.1) sides c n in
        inr (e, found.0, m, found.1, (crossing_is e.0 e.1 found.0.0 found.0.1 c).1 found.2)

-- Whether a segment meets a pixel. Each side of the pixel bounds the fractions t / k of the way along the segment at which a point is
-- inside, and the segment meets the pixel where a fraction from 0 to 1 is within all four bounds.
use Rattle.std.specs.Prelude.{ℤ, pos, negsuc, ◌+ℤ◌, ◌-ℤ◌, ◌*ℤ◌, int_le, int_lt, Bool, true, false, not, ◌&&◌, if◌then◌else◌, List, [], ◌∷◌}
use Rattle.std.specs.declared.cmp.Ordering.{Ordering}
use Rattle.std.specs.Ordering.{int_cmp}
use Rattle.lay_point.specs.declared.point.Point.{Point}
use Rattle.snap_laws.specs.Sorting.{by_order}

-- the fractions t / k at which slope * t + offset * k is positive, and unless the bound is strict those at which it is 0: from some
-- fraction on where the slope is positive, and up to some fraction where it is negative
pub record Bound : Type 0 where
  pub slope : ℤ
  pub offset : ℤ
  pub is_strict : Bool

-- the order of the fractions at which the two bounds lie
abbrev pub bound_order : Bound → Bound → Ordering
bound_order s t = int_cmp (s.slope *ℤ t.offset) (t.slope *ℤ s.offset)

-- of two bounds at the same fraction, one that leaves the fraction out, where there is one
abbrev pub narrower : Bound → Bound → Bound
narrower s t = if s.is_strict then s else t

-- of two lower bounds the greater
abbrev pub later : Bound → Bound → Bound
later s t = by_order (bound_order s t) t (narrower s t) s

-- of two upper bounds the lesser
abbrev pub earlier : Bound → Bound → Bound
earlier s t = by_order (bound_order s t) s (narrower s t) t

-- some fraction is between the lower bound and the upper
abbrev pub leaves_some : Bound → Bound → Bool
leaves_some low high = by_order (bound_order low high) false (not low.is_strict && not high.is_strict) true

-- a bound without a slope leaves out no fraction
abbrev pub leaves_all : Bound → Bool
leaves_all s = if s.is_strict then int_lt (pos 0) s.offset else int_le (pos 0) s.offset

-- some fraction is between the lower bound and the upper, and within all others
unfoldable pub leaves_some_in : Bound → Bound → List Bound → Bool
leaves_some_in low high [] = leaves_some low high
leaves_some_in low high (s ∷ ss) =
    by_order (int_cmp (pos 0) s.slope)
    (leaves_some_in (later low s) high ss)
    (leaves_all s && leaves_some_in low high ss)
    (leaves_some_in low (earlier high s) ss)

-- the fractions that aren't below 0, and those that aren't above 1
abbrev pub unit_start : Bound
unit_start = record { slope = pos 1; offset = pos 0; is_strict = false }

abbrev pub unit_finish : Bound
unit_finish = record { slope = negsuc 0; offset = pos 1; is_strict = false }

-- where the way from a to b is in the unit interval round c: its lower side counts, the upper doesn't
abbrev pub lower : ℤ → ℤ → ℤ → Bound
lower a b c = record { slope = pos 2 *ℤ (b -ℤ a); offset = pos 2 *ℤ (a -ℤ c) +ℤ pos 1; is_strict = false }

abbrev pub upper : ℤ → ℤ → ℤ → Bound
upper a b c = record { slope = pos 2 *ℤ (a -ℤ b); offset = pos 2 *ℤ (c -ℤ a) +ℤ pos 1; is_strict = true }

-- some point of the segment from a to b is in the pixel of c
unfoldable pub meets_of : Point → Point → Point → Bool
meets_of a b c =
    leaves_some_in unit_start unit_finish (lower a.x b.x c.x ∷ upper a.x b.x c.x ∷ lower a.y b.y c.y ∷ upper a.y b.y c.y ∷ [])

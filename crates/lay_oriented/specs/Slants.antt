-- Slants: edges that aren't level, each from its lower end to its upper one, with its direction.
use Rattle.std.specs.Prelude.{ℤ, pos, neg_ℤ, int_le, int_lt, Bool, true, false, not, ◌&&◌, List, [], ◌∷◌, Option, None, Some, if◌then◌else◌}
use Rattle.std.specs.Bool.{beq}
use Rattle.lay_point.specs.declared.point.Point.{Point}
use Rattle.lay_point.specs.Parity.{is_crossed_rising}
use Rattle.snap_pixels.specs.Segments.{cross}
use Rattle.lay_oriented.specs.declared.slant.Slant.{Slant}
use Rattle.lay_oriented.specs.Winding.{sum_of}

-- the slant of an edge from its first end to its second, if it isn't level
abbrev pub slant_of : Point × Point → Option Slant
slant_of e =
    if int_lt e.0.y e.1.y then Some (record { low = e.0; high = e.1; up = true })
    else if int_lt e.1.y e.0.y then Some (record { low = e.1; high = e.0; up = false })
    else None

abbrev pub added : Option Slant → List Slant → List Slant
added None slants = slants
added (Some s) slants = s ∷ slants

abbrev pub slants_of : List (Point × Point) → List Slant
slants_of [] = []
slants_of (e ∷ es) = added (slant_of e) (slants_of es)

abbrev pub signed : Bool → ℤ
signed up = if up then pos 1 else neg_ℤ (pos 1)

-- what a slant counts about a place
abbrev pub slant_count : ℤ → ℤ → ℤ → Slant → ℤ
slant_count k x y s = if is_crossed_rising k x y s.low s.high then signed s.up else pos 0

abbrev pub counts : ℤ → ℤ → ℤ → List Slant → ℤ
counts k x y slants = sum_of (slant_count k x y) slants

-- ---- side by side
-- how far e is to the right of f where the later of the two begins, and where the earlier of them ends, each times the rise of
-- the other
abbrev pub gap_at_bottom : Slant → Slant → ℤ
gap_at_bottom e f = if int_le f.low.y e.low.y then cross f.low e.low f.low f.high else cross f.low e.low e.low e.high

abbrev pub gap_at_top : Slant → Slant → ℤ
gap_at_top e f = if int_le e.high.y f.high.y then cross f.high e.high f.low f.high else cross f.high e.high e.low e.high

-- e isn't left of f
abbrev pub is_not_left : Slant → Slant → Bool
is_not_left e f = int_le (pos 0) (gap_at_bottom e f) && int_le (pos 0) (gap_at_top e f)

-- the first of them, if there is one, isn't right of e
abbrev pub leads : Slant → List Slant → Bool
leads e [] = true
leads e (f ∷ fs) = is_not_left e f

-- ---- a band: the heights from low on, below high
abbrev pub spans : ℤ → ℤ → Slant → Bool
spans low high s = int_le s.low.y low && int_le high s.high.y

-- the first of them, if there is one, doesn't begin below this height
abbrev pub begin_from : ℤ → List Slant → Bool
begin_from high [] = true
begin_from high (s ∷ ss) = int_le high s.low.y

-- by the heights at which they begin
abbrev pub are_by_height : List Slant → Bool
are_by_height [] = true
are_by_height (s ∷ ss) = begin_from s.low.y ss && are_by_height ss

-- from right to left, all span the band, and their directions take turns, this one first
abbrev pub take_turns : ℤ → ℤ → Bool → List Slant → Bool
take_turns low high up [] = true
take_turns low high up (e ∷ es) = spans low high e && beq e.up up && leads e es && take_turns low high (not up) es

-- those that don't end at this height or below it
abbrev pub ending_above : ℤ → List Slant → List Slant
ending_above height [] = []
ending_above height (s ∷ ss) = if int_lt height s.high.y then s ∷ ending_above height ss else ending_above height ss

-- of these the first ones span a band and take turns there, and the others begin above it
abbrev pub is_sound_band : List Slant → List Slant → ℤ → ℤ → Bool
is_sound_band active left low high = int_le low high && take_turns low high true active && begin_from high left

-- they begin at this height or above it, in order
abbrev pub are_begun_from : ℤ → List Slant → Bool
are_begun_from height slants = are_by_height slants && begin_from height slants

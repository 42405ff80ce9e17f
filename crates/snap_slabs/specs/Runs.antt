-- Runs: chains of sides along an axis, as numbers of hot centres.
use Rattle.std.specs.Prelude.{
  ◌≡◌,
  ◌⊎◌,
  ℕ,
  ◌<◌,
  ◌≤◌,
  ◌-◌,
  ◌+◌,
  ◌*◌,
  ◌%◌,
  ◌^◌,
  pos,
  ◌<ℤ◌,
  ◌+ℤ◌,
  List,
  map,
  length,
  slice_get,
  slice_index_or,
  Some,
  ◌↔◌,
  reverse,
  Contains,
}
use Rattle.lay_point.specs.declared.point.Point.{Point}
use Rattle.snap_pixels.specs.declared.segment.Segment.{Segment}
use Rattle.snap_pixels.specs.Coordinates.{from_least}
use Rattle.lay_point.specs.Points.{IsBefore}
use Rattle.snap_edge_laws.specs.Chains.{IsChain}
use Rattle.lay_point.specs.Rising.{IsRising}

abbrev pub no_centre : Point
no_centre = record { x = pos 0; y = pos 0 }

-- the centre of this number
abbrev pub centre_at : List Point → ℕ → Point
centre_at hot i = slice_index_or hot i no_centre

abbrev pub centres_at : List Point → List ℕ → List Point
centres_at hot numbers = map (centre_at hot) numbers

-- the key of the centre of this number, by which centres are in the order of rows
abbrev pub row_key : List Point → ℕ → ℕ
row_key hot i = from_least (centre_at hot i).y * 4294967296 + (4294967295 - i)

-- the rows of all centres are rows that a key can tell
abbrev pub HaveRows : List Point → Type 0
HaveRows hot = (i : ℕ) → i < length hot → pos (from_least (centre_at hot i).y) ≡ (centre_at hot i).y +ℤ pos 2147483648

abbrev pub number_of : ℕ → ℕ
number_of k = 4294967295 - k % 4294967296

-- by row upward, in a row from right to left
abbrev pub IsRowBefore : Point → Point → Type 0
IsRowBefore p q = (p.y <ℤ q.y) ⊎ ((p.y ≡ q.y) × (q.x <ℤ p.x))

-- the segment goes from the centre of the one number to that of the other
abbrev pub IsSide : List Point → Segment → ℕ → ℕ → Type 0
IsSide hot s i j = (slice_get hot i ≡ Some s.a) × (slice_get hot j ≡ Some s.b)

-- the centres of these numbers are the segment's chain, forth or back
abbrev pub IsChainRun : List Point → Segment → List ℕ → Type 0
IsChainRun hot s numbers =
    IsChain (Contains hot) s (centres_at hot numbers) ⊎ IsChain (Contains hot) s (reverse (centres_at hot numbers))

-- the centres rise, the other list has their numbers by rows, and the last has where each number is in that list
pub record AreByRows (hot : List Point) (rows places : List ℕ) : Type 0 where
  pub rising : IsRising IsBefore hot
  pub by_row : IsRising IsRowBefore (centres_at hot rows)
  pub members : (c : Point) → Contains (centres_at hot rows) c ↔ Contains hot c
  pub inside : (k : ℕ) → Contains rows k → k < length hot
  pub few : length hot < 2 ^ 32
  pub as_many : length places ≡ length hot
  pub placed : (i : ℕ) → i < length hot → slice_get rows (slice_index_or places i 0) ≡ Some i

-- the centres by rows, and where each is among them, by its number
pub record AreRanked (hot points : List Point) (ranks : List ℕ) : Type 0 where
  pub by_row : IsRising IsRowBefore points
  pub as_many : length ranks ≡ length hot
  pub ranked : (i : ℕ) → i < length hot → slice_get points (slice_index_or ranks i 0) ≡ Some (centre_at hot i)

-- the first and the last of two numbers
pub record AreEnds (i j first last : ℕ) : Type 0 where
  pub first_low : first ≤ i
  pub first_high : first ≤ j
  pub last_low : i ≤ last
  pub last_high : j ≤ last
  pub first_is : (first ≡ i) ⊎ (first ≡ j)
  pub last_is : (last ≡ i) ⊎ (last ≡ j)

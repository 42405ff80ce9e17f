-- The first two edges of a list that have more in common than an end.
-- Source: this project's own.
-- Checked on: (0, 0) to (2, 2) and (0, 2) to (2, 0) aren't clean, and the pair is 0 and 1; the
-- squares 0 0 20 20 and 10 10 30 30 round to 12 clean edges.
use Rattle.std.specs.Prelude.{◌≡◌, ◌⊎◌, ℕ, ◌<◌, List, length, slice_index_or}
use Rattle.lay_point.specs.declared.point.Point.{Point}
use Rattle.snap_edge_laws.specs.Meeting.{MeetAtEnds}
use Rattle.snap_chains.specs.declared.clean_edges.CleanFault.{CleanFault}
use Rattle.snap_chains.specs.declared.clean_edges.CleanFault.TheVariants.{NoMemory, NotClean}

-- the edges of these numbers meet at their ends only
abbrev pub TwoMeetAtEnds : List (Point × Point) → ℕ → ℕ → Type 0
TwoMeetAtEnds edges i j = (d : Point × Point) → MeetAtEnds (slice_index_or edges i d) (slice_index_or edges j d)

-- the edges of these numbers don't, but all pairs before do, by the first number and then by the second
pub record IsFirstPair (edges : List (Point × Point)) (i j : ℕ) : Type 0 where
  pub ordered : i < j
  pub inside : j < length edges
  pub fails : ¬ (TwoMeetAtEnds edges i j)
  pub earlier : (k l : ℕ) → k < l → l < length edges → (k < i) ⊎ ((k ≡ i) × (l < j)) → TwoMeetAtEnds edges k l

abbrev pub NamesFirst : List (Point × Point) → CleanFault → Type 0
NamesFirst edges NoMemory = Unit {0}
NamesFirst edges (NotClean i j) = IsFirstPair edges i j

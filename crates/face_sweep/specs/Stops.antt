-- The stops of the sweep: all points at which edges begin or end, in its order, with the edges that begin at each.
use Rattle.std.specs.Prelude.{◌≡◌, ◌≢◌, ◌⊎◌, ℕ, ◌<◌, ◌≤◌, ℤ, ◌<ℤ◌, ◌≤ℤ◌}
use Rattle.std.specs.Prelude.{true, false, List, ◌++◌}
use Rattle.std.specs.Prelude.{All, Contains, length, map, slice_index_or, slice_range}
use Rattle.std.specs.List.{AllPairs}
use Rattle.lay_point.specs.declared.point.Point.{Point}
use Rattle.lay_point.specs.Rising.{IsRising}
use Rattle.snap_chains.specs.Rounded.{Owned}
use Rattle.face_rows.specs.Lines.{nowhere}
use Rattle.face_rows.specs.Rows.{IsLeftOf, upward}
use Rattle.face_sweep.specs.Points.{AreBegunAt, IsAfter, IsEndPoint, IsLevelFrom}
use Rattle.face_sweep.specs.Ends.{IsBeginOf, IsNoLater, IsSooner, begin_numbers, begin_place, is_level, point_at}
use Rattle.face_sweep.specs.declared.ends.Begin.{Begin}
use Rattle.face_sweep.specs.declared.ends.Place.{Place}
use Rattle.face_sweep.specs.declared.stops.Stop.{Stop}
use Rattle.face_sweep.specs.declared.stops.Stops.{Stops}

-- all points at which edges begin or end, and no others, in the order of the sweep
pub record AreEndPoints (r : Owned) (points : List Point) : Type 0 where
  pub rising : IsRising IsAfter points
  pub all : (p : Point) → IsEndPoint r p → Contains points p
  pub some : (p : Point) → Contains points p → IsEndPoint r p

-- these are the edges that begin at the point: from left to right those that rise, and then one that is level, if there is one
pub record BeginAt (r : Owned) (p : Point) (numbers : List ℕ) : Type 0 where
  pub begun : List ℕ
  pub level : List ℕ
  pub joined : numbers ≡ begun ++ level
  pub rising : AreBegunAt r p begun
  pub levels : (n : ℕ) → Contains level n → IsLevelFrom r p n
  pub all_levels : (n : ℕ) → IsLevelFrom r p n → Contains level n

abbrev pub stop_points : Stops → List Point
stop_points stops = map (λ stop. stop.point) stops.list.items

-- the edges that begin at the k-th stop
abbrev pub begun_at : Stops → ℕ → Stop → List ℕ
begun_at stops k d = slice_range stops.begun.items (slice_index_or stops.list.items k d).from (slice_index_or stops.list.items k d).to

pub record AreStops (r : Owned) (stops : Stops) : Type 0 where
  pub points : AreEndPoints r (stop_points stops)
  pub order : (k : ℕ) (d : Stop) → k < length stops.list.items
      → (slice_index_or stops.list.items k d).from ≤ (slice_index_or stops.list.items k d).to
  pub bound : (k : ℕ) (d : Stop) → k < length stops.list.items
      → (slice_index_or stops.list.items k d).to ≤ length stops.begun.items
  pub begun : (k : ℕ) (d : Stop) → k < length stops.list.items
      → BeginAt r (slice_index_or stops.list.items k d).point (begun_at stops k d)

-- ---- from place to place
-- the place isn't behind that at the index, if there is one
abbrev pub IsHeadUpTo : List Place → ℕ → Place → Type 0
IsHeadUpTo places i p = (d : Place) → i < length places → IsNoLater p (slice_index_or places i d)

abbrev pub IsHead : List Place → ℕ → Place → Type 0
IsHead places i p = (i < length places) × ((d : Place) → slice_index_or places i d ≡ p)

pub record IsNextPlace (lows : List Place) (low : ℕ) (tops : List Place) (top : ℕ) (p : Place) : Type 0 where
  pub one : IsHead lows low p ⊎ IsHead tops top p
  pub no_low : IsHeadUpTo lows low p
  pub no_top : IsHeadUpTo tops top p

-- those from one index up to the other are the place, and those behind them come later
pub record IsPlaceRun (places : List Place) (from to : ℕ) (p : Place) : Type 0 where
  pub order : from ≤ to
  pub bound : to ≤ length places
  pub same : (k : ℕ) (d : Place) → from ≤ k → k < to → slice_index_or places k d ≡ p
  pub behind : (k : ℕ) (d : Place) → to ≤ k → k < length places → IsSooner p (slice_index_or places k d)

-- ---- the edges that begin at one point
pub record IsBegunGroup (points : List Point) (edges : List (Point × Point)) (p : Point) (group : List Begin) : Type 0 where
  pub own : All (IsBeginOf points edges) group
  pub at : All (λ b. point_at points (begin_place b) ≡ p) group
  pub all : (n : ℕ) → n < length edges → (upward (slice_index_or edges n nowhere)).0 ≡ p → Contains (begin_numbers group) n
  pub levels : (i j : ℕ) (d : Begin) → i ≤ j → j < length group → is_level (slice_index_or group i d) ≡ true
      → is_level (slice_index_or group j d) ≡ true
  pub apart : AllPairs (λ m n. m ≢ n) (begin_numbers group)

-- edges that begin in the row and aren't level, each once
pub record AreRisers (points : List Point) (edges : List (Point × Point)) (row : ℤ) (group : List Begin) : Type 0 where
  pub own : All (IsBeginOf points edges) group
  pub rising : All (λ b. is_level b ≡ false) group
  pub at : All (λ b. (point_at points (begin_place b)).y ≡ row) group
  pub apart : AllPairs (λ m n. m ≢ n) (begin_numbers group)

-- the edges from the index on are level, and those before it aren't
pub record IsFirstLevel (group : List Begin) (index : ℕ) : Type 0 where
  pub bound : index ≤ length group
  pub before : (k : ℕ) (d : Begin) → k < index → is_level (slice_index_or group k d) ≡ false
  pub here : (d : Begin) → index < length group → is_level (slice_index_or group index d) ≡ true

-- the numbers of the group's edges are appended, from left to right
pub record IsWithRisers (edges : List (Point × Point)) (row : ℤ) (group : List Begin) (old new : List ℕ) : Type 0 where
  pub added : List ℕ
  pub is : new ≡ old ++ added
  pub rising : IsRising (IsLeftOf edges row) added
  pub among : (n : ℕ) → Contains added n → Contains (begin_numbers group) n
  pub all : (n : ℕ) → Contains (begin_numbers group) n → Contains added n

-- the numbers of the edges that begin at the point are appended
pub record IsExtended (r : Owned) (p : Point) (old new : List ℕ) : Type 0 where
  pub added : List ℕ
  pub is : new ≡ old ++ added
  pub begun : BeginAt r p added

-- ---- the stops by their numbers
abbrev pub stop_list : Stops → List Stop
stop_list stops = stops.list.items

-- the numbers of all edges that begin, stop by stop
abbrev pub begun_list : Stops → List ℕ
begun_list stops = stops.begun.items

-- the stops before the index are below the row, and the others aren't
pub record IsFirstFrom (stops : Stops) (row : ℤ) (index : ℕ) : Type 0 where
  pub bound : index ≤ length (stop_list stops)
  pub before : (k : ℕ) (d : Stop) → k < index → (slice_index_or (stop_list stops) k d).point.y <ℤ row
  pub behind : (k : ℕ) (d : Stop) → index ≤ k → k < length (stop_list stops) → row ≤ℤ (slice_index_or (stop_list stops) k d).point.y

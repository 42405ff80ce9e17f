-- A sweep from point to point, upward, and in a row from right to left. At a point the row's list has the edges of the row
-- below it that are left of the point or end there, and then the edges of its own row that are right of it.
use Rattle.std.specs.Prelude.{◌≡◌, ◌⊎◌, ℕ, suc, ◌<◌, ◌≤◌, ℤ, pos, ◌-ℤ◌, ◌*ℤ◌, ◌≤ℤ◌, ◌<ℤ◌, List, ◌++◌, length, Contains}
use Rattle.std.specs.Prelude.{drop, slice_index, take}
use Rattle.lay_point.specs.declared.point.Point.{Point}
use Rattle.lay_point.specs.Parity.{distance_right}
use Rattle.lay_point.specs.Rising.{IsRising}
use Rattle.face_rows.specs.Lines.{edge_at}
use Rattle.snap_chains.specs.Rounded.{Owned}
use Rattle.face_rows.specs.Rows.{AreRowEdges, AreSomeRowEdges, CrossesRow, IsLeftOf, upward}
use Rattle.face_sweep.specs.Sides.{AreBehind, holds_beside, is_odd_in}
use Rattle.face_rows.specs.Sound.{AreSound}
use Rattle.snap_chains.specs.declared.owner.Owner.{Owner}

-- how far the edge of this number is right of the point
abbrev pub distance_from : Owned → Point → ℕ → ℤ
distance_from r p n = distance_right (pos 1) p.x p.y (upward (edge_at r n)).0 (upward (edge_at r n)).1

abbrev pub HasHigh : Owned → Point → ℕ → Type 0
HasHigh r p n = (upward (edge_at r n)).1 ≡ p

abbrev pub HasLow : Owned → Point → ℕ → Type 0
HasLow r p n = (upward (edge_at r n)).0 ≡ p

-- some edge begins or ends at the point
pub record IsEndPoint (r : Owned) (p : Point) : Type 0 where
  pub number : ℕ
  pub given : number < length r.0
  pub at : HasLow r p number ⊎ HasHigh r p number

-- the edges of the row below that are left of the point or end there, and those of its own row that are right of it
pub record IsStatus (r : Owned) (p : Point) (numbers : List ℕ) : Type 0 where
  pub below : List ℕ
  pub above : List ℕ
  pub joined : numbers ≡ below ++ above
  pub row_below : AreSomeRowEdges r.0 (p.y -ℤ pos 1) below
  pub row_above : AreSomeRowEdges r.0 p.y above
  pub left : (n : ℕ) → Contains below n → distance_from r p n ≤ℤ pos 0
  pub right : (n : ℕ) → Contains above n → pos 0 <ℤ distance_from r p n
  pub all_left : (n : ℕ) → CrossesRow r.0 (p.y -ℤ pos 1) n → distance_from r p n ≤ℤ pos 0 → Contains below n
  pub all_right : (n : ℕ) → CrossesRow r.0 p.y n → pos 0 <ℤ distance_from r p n → Contains above n

-- the edges that begin at the point, and aren't level, from left to right
pub record AreBegunAt (r : Owned) (p : Point) (begun : List ℕ) : Type 0 where
  pub rising : IsRising (IsLeftOf r.0 p.y) begun
  pub row : (n : ℕ) → Contains begun n → CrossesRow r.0 p.y n
  pub at : (n : ℕ) → Contains begun n → HasLow r p n
  pub all : (n : ℕ) → CrossesRow r.0 p.y n → HasLow r p n → Contains begun n

-- once the point is passed: those of the row below that are left of it, and those of its own row that begin there or are
-- right of it
pub record IsPassed (r : Owned) (p : Point) (numbers : List ℕ) : Type 0 where
  pub below : List ℕ
  pub above : List ℕ
  pub joined : numbers ≡ below ++ above
  pub row_below : AreSomeRowEdges r.0 (p.y -ℤ pos 1) below
  pub row_above : AreSomeRowEdges r.0 p.y above
  pub left : (n : ℕ) → Contains below n → distance_from r p n <ℤ pos 0
  pub right : (n : ℕ) → Contains above n → pos 0 ≤ℤ distance_from r p n
  pub all_left : (n : ℕ) → CrossesRow r.0 (p.y -ℤ pos 1) n → distance_from r p n <ℤ pos 0 → Contains below n
  pub all_right : (n : ℕ) → CrossesRow r.0 p.y n → pos 0 ≤ℤ distance_from r p n → Contains above n

-- at the point: the edges before `from` are left of it, those before `to` end there, and the others are right of it
pub record IsEndedGroup (r : Owned) (p : Point) (numbers : List ℕ) (from to : ℕ) : Type 0 where
  pub order : from ≤ to
  pub bound : to ≤ length numbers
  pub left : (k : ℕ) → k < from → distance_from r p (slice_index numbers k) <ℤ pos 0
  pub ends : (k : ℕ) → from ≤ k → k < to → HasHigh r p (slice_index numbers k)
  pub right : (k : ℕ) → to ≤ k → k < length numbers → pos 0 <ℤ distance_from r p (slice_index numbers k)

-- one search: where the edges that aren't left of the point begin, in whatever order the numbers are
pub record IsPlaceAmong (r : Owned) (p : Point) (numbers : List ℕ) (place : ℕ) : Type 0 where
  pub bound : place ≤ length numbers
  pub before : (k : ℕ) → suc k ≡ place → distance_from r p (slice_index numbers k) <ℤ pos 0
  pub behind : place < length numbers → pos 0 ≤ℤ distance_from r p (slice_index numbers place)

-- in a status one search tells all: the edges before the place are left of the point, and from there on first those that end
-- there are, and then those that are right of it
pub record TellsAll (r : Owned) (p : Point) (numbers : List ℕ) (place : ℕ) : Type 0 where
  pub left : (k : ℕ) → k < place → distance_from r p (slice_index numbers k) <ℤ pos 0
  pub from : (k : ℕ) → place ≤ k → k < length numbers
      → HasHigh r p (slice_index numbers k) ⊎ (pos 0 <ℤ distance_from r p (slice_index numbers k))
  pub neighbours : (i k : ℕ) → i ≤ k → k < length numbers → pos 0 <ℤ distance_from r p (slice_index numbers i)
      → pos 0 <ℤ distance_from r p (slice_index numbers k)

abbrev pub PlacesTell : Type 0
PlacesTell = (r : Owned) (p : Point) (numbers : List ℕ) (place : ℕ) → AreSound r → IsEndPoint r p → IsStatus r p numbers
    → IsPlaceAmong r p numbers place → TellsAll r p numbers place

-- the edges that end at the point are taken out, and those that begin there are put in their place
abbrev pub PointsPass : Type 0
PointsPass = (r : Owned) (p : Point) (numbers begun : List ℕ) (from to : ℕ) → AreSound r → IsEndPoint r p → IsStatus r p numbers
    → AreBegunAt r p begun → IsEndedGroup r p numbers from to → IsPassed r p (take from numbers ++ begun ++ drop to numbers)

-- later in the sweep: to the left in the same row, or in a later row
abbrev pub IsAfter : Point → Point → Type 0
IsAfter p q = ((p.y ≡ q.y) × (q.x <ℤ p.x)) ⊎ (p.y <ℤ q.y)

-- q is the next point of the sweep
pub record IsNextPoint (r : Owned) (p q : Point) : Type 0 where
  pub after : IsAfter p q
  pub none : (v : Point) → IsEndPoint r v → IsAfter p v → IsAfter v q → ⊥

-- with nothing done the list is that of the next point; and behind the last point of a row it has the row's edges
abbrev pub PointsFollow : Type 0
PointsFollow = (r : Owned) (p q : Point) (numbers : List ℕ) → AreSound r → IsPassed r p numbers → IsNextPoint r p q → IsStatus r q numbers

abbrev pub RowsEnd : Type 0
RowsEnd = (r : Owned) (p : Point) (numbers : List ℕ) → AreSound r → IsPassed r p numbers
    → ((v : Point) → IsEndPoint r v → v.y ≡ p.y → v.x <ℤ p.x → ⊥) → AreRowEdges r.0 p.y numbers

-- once the point is passed, right of each edge of its own row holds what those behind it in the list tell
abbrev pub PassedBehind : Type 0
PassedBehind = (r : Owned) (p : Point) (numbers : List ℕ) → AreSound r → (s : IsPassed r p numbers) → AreBehind r s.above

-- a level edge that begins at the point
pub record IsLevelFrom (r : Owned) (p : Point) (n : ℕ) : Type 0 where
  pub given : n < length r.0
  pub begins : HasLow r p n
  pub level : (upward (edge_at r n)).1.y ≡ p.y

-- above it holds what the edges right of the point tell
abbrev pub LevelBehind : Type 0
LevelBehind = (r : Owned) (p : Point) (numbers : List ℕ) (n : ℕ) → AreSound r → IsLevelFrom r p n → (s : IsStatus r p numbers) → (o : Owner)
    → is_odd_in r s.above o ≡ holds_beside r n o

-- of two edges that begin at the point, and aren't level, the first is left of the second in the row where its upper end is
-- left of the line through the second
abbrev pub IsTurnedLeft : Owned → Point → ℕ → ℕ → Type 0
IsTurnedLeft r p m n =
    (((upward (edge_at r m)).1.x -ℤ p.x) *ℤ ((upward (edge_at r n)).1.y -ℤ p.y))
    <ℤ (((upward (edge_at r m)).1.y -ℤ p.y) *ℤ ((upward (edge_at r n)).1.x -ℤ p.x))

abbrev pub TurnsOrder : Type 0
TurnsOrder = (r : Owned) (p : Point) (m n : ℕ) → AreSound r → CrossesRow r.0 p.y m → CrossesRow r.0 p.y n → HasLow r p m → HasLow r p n
    → IsTurnedLeft r p m n → IsLeftOf r.0 p.y m n

-- a row's edges are the list of the first point of the next row
abbrev pub RowsBegin : Type 0
RowsBegin = (r : Owned) (q : Point) (numbers : List ℕ) → AreSound r → AreRowEdges r.0 (q.y -ℤ pos 1) numbers
    → ((v : Point) → IsEndPoint r v → v.y ≡ q.y → q.x <ℤ v.x → ⊥) → IsStatus r q numbers

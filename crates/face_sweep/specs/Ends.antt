-- Where edges begin and where they end, as places among points in the order of the sweep.
use Rattle.std.specs.Prelude.{◌≡◌, ◌≢◌, ◌⊎◌, ℕ, ◌+◌, ◌*◌, ◌/◌, ◌%◌, ◌<◌, ◌≤◌, int_le, nat_le}
use Rattle.std.specs.Prelude.{Bool, true, cond, List, All, Contains, length, map, slice_index_or}
use Rattle.std.specs.List.{AllPairs, zip}
use Rattle.std.specs.Ordering.{nat_cmp, on}
use Rattle.std.specs.declared.cmp.Ordering.{Ordering}
use Rattle.lay_point.specs.declared.point.Point.{Point}
use Rattle.lay_point.specs.Rising.{IsRising}
use Rattle.snap_chains.specs.declared.row_order.Span.{Span}
use Rattle.face_rows.specs.Lines.{nowhere}
use Rattle.face_rows.specs.Picked.{picked}
use Rattle.face_rows.specs.Rows.{upward}
use Rattle.face_sweep.specs.Points.{IsAfter}
use Rattle.face_sweep.specs.declared.ends.Begin.{Begin}
use Rattle.face_sweep.specs.declared.ends.Ends.{Ends}
use Rattle.face_sweep.specs.declared.ends.Place.{Place}

-- ---- places: indices of points in the order of the sweep
abbrev pub point_at : List Point → Place → Point
point_at points q = slice_index_or points q.key nowhere.0

-- the sweep comes to a before b
abbrev pub IsSooner : Place → Place → Type 0
IsSooner a b = a.key < b.key

abbrev pub IsNoLater : Place → Place → Type 0
IsNoLater a b = (a ≡ b) ⊎ IsSooner a b

abbrev pub ArePlacesInOrder : List Place → Type 0
ArePlacesInOrder places = (i j : ℕ) (d : Place) → i ≤ j → j < length places
    → IsNoLater (slice_index_or places i d) (slice_index_or places j d)

-- where the edge begins, and where it ends
abbrev pub upward_span : Point × Point → Span → ℕ × ℕ
upward_span e s = cond (int_le e.0.y e.1.y) (s.low, s.high) (s.high, s.low)

-- ---- where edges begin, and where they end
-- what the key of a level edge has more than its number
abbrev pub level_part : Bool → ℕ
level_part level = cond level 2147483648 0

abbrev pub begin_of : ℕ → (Point × Point) × Span → Begin
begin_of n p = record { key = (upward_span p.0 p.1).0 * 4294967296 + level_part (int_le (upward p.0).1.y (upward p.0).0.y) + n }

abbrev pub begin_place : Begin → Place
begin_place b = record { key = b.key / 4294967296 }

abbrev pub begin_number : Begin → ℕ
begin_number b = b.key % 2147483648

abbrev pub is_level : Begin → Bool
is_level b = nat_le 2147483648 (b.key % 4294967296)

-- what `cmp` computes
abbrev pub begin_cmp : Begin → Begin → Ordering
begin_cmp = on (λ b. b.key) nat_cmp

abbrev pub edge_begins : List (Point × Point) → List Span → List Begin
edge_begins edges spans = picked (λ p. true) begin_of 0 (zip edges spans)

abbrev pub begin_numbers : List Begin → List ℕ
begin_numbers = map begin_number

abbrev pub begin_places : List Begin → List Place
begin_places = map begin_place

-- it is where the edge of its number begins
pub record IsBeginOf (points : List Point) (edges : List (Point × Point)) (b : Begin) : Type 0 where
  pub given : begin_number b < length edges
  pub inside : (begin_place b).key < length points
  pub point : point_at points (begin_place b) ≡ (upward (slice_index_or edges (begin_number b) nowhere)).0
  pub level : is_level b ≡ int_le (upward (slice_index_or edges (begin_number b) nowhere)).1.y
      (upward (slice_index_or edges (begin_number b) nowhere)).0.y

-- where all edges begin, in order; at one place the level edges come last
pub record AreBegins (points : List Point) (edges : List (Point × Point)) (begins : List Begin) : Type 0 where
  pub own : All (IsBeginOf points edges) begins
  pub all : (n : ℕ) → n < length edges → Contains (begin_numbers begins) n
  pub order : ArePlacesInOrder (begin_places begins)
  pub levels : (i j : ℕ) (d : Begin) → i ≤ j → j < length begins
      → begin_place (slice_index_or begins i d) ≡ begin_place (slice_index_or begins j d)
      → is_level (slice_index_or begins i d) ≡ true → is_level (slice_index_or begins j d) ≡ true
  pub apart : AllPairs (λ m n. m ≢ n) (begin_numbers begins)

pub record IsTopOf (points : List Point) (edges : List (Point × Point)) (q : Place) : Type 0 where
  pub number : ℕ
  pub given : number < length edges
  pub inside : q.key < length points
  pub point : point_at points q ≡ (upward (slice_index_or edges number nowhere)).1

-- where all edges end, in order
pub record AreTops (points : List Point) (edges : List (Point × Point)) (tops : List Place) : Type 0 where
  pub own : All (IsTopOf points edges) tops
  pub all : (n : ℕ) → n < length edges → (q : Place) × Contains tops q × (point_at points q ≡ (upward (slice_index_or edges n nowhere)).1)
  pub order : ArePlacesInOrder tops

-- an edge ends at the place
pub record EndsAt (edges : List (Point × Point)) (spans : List Span) (place : ℕ) : Type 0 where
  pub number : ℕ
  pub given : number < length edges
  pub at : (s : Span) → (upward_span (slice_index_or edges number nowhere) (slice_index_or spans number s)).1 ≡ place

-- for each place whether an edge ends there
pub record AreTopFlags (edges : List (Point × Point)) (spans : List Span) (flags : List Bool) : Type 0 where
  pub some : (k : ℕ) (d : Bool) → k < length flags → slice_index_or flags k d ≡ true → EndsAt edges spans k
  pub all : (n : ℕ) (s : Span) (d : Bool) → n < length edges
      → slice_index_or flags (upward_span (slice_index_or edges n nowhere) (slice_index_or spans n s)).1 d ≡ true

-- the places that are flagged, and no others, in order
pub record AreFlagged (flags : List Bool) (places : List Place) : Type 0 where
  pub own : All (λ q. (q.key < length flags) × ((d : Bool) → slice_index_or flags q.key d ≡ true)) places
  pub all : (k : ℕ) (d : Bool) → k < length flags → slice_index_or flags k d ≡ true → Contains places (record { key = k })
  pub order : ArePlacesInOrder places

-- where edges begin and end, among points in the order of the sweep
pub record AreSortedEnds (points : List Point) (edges : List (Point × Point)) (ends : Ends) : Type 0 where
  pub rising : IsRising IsAfter points
  pub begins : AreBegins points edges ends.begins.items
  pub tops : AreTops points edges ends.tops.items

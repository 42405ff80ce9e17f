-- How lists of boxes are joined: those that are joined, directly or through others, are in one tree.
use Rattle.std.specs.Prelude.{
  ◌≡◌,
  ◌⊎◌,
  ℕ,
  ◌<◌,
  ◌≤◌,
  Bool,
  true,
  not,
  ◌||◌,
  ◌&&◌,
  ◌≤ℤ◌,
  int_le,
  int_lt,
  pos,
  List,
  [],
  ◌∷◌,
  length,
  Contains,
}
use Rattle.std.specs.Prelude.{slice_index, slice_index_or}
use Rattle.lay_point.specs.declared.rect.Rect.{Rect}
use Rattle.face_ring_laws.specs.Parts.{AreJoined}
use Rattle.face_rings.specs.declared.cut.Cut.{Cut}
use Rattle.face_rings.specs.declared.stretch.Stretch.{Stretch}
use Rattle.face_rings.specs.Forest.{IsForest, root_of}

-- those that are in one tree are together wherever all joined ones are
abbrev pub AreOnlyJoined : List Rect → List ℕ → Type 0
AreOnlyJoined boxes parents = (other : ℕ → ℕ) → ((i j : ℕ) → AreJoined boxes i j → other i ≡ other j)
    → (i j : ℕ) → i < length boxes → j < length boxes → root_of parents i ≡ root_of parents j → other i ≡ other j

-- from the old trees to the new: some that are joined came into one tree, and nothing else changed
pub record Grows (boxes : List Rect) (old new : List ℕ) : Type 0 where
  pub each : length new ≡ length old
  pub forest : IsForest new
  pub only : AreOnlyJoined boxes old → AreOnlyJoined boxes new
  pub kept : (i j : ℕ) → i < length old → j < length old → root_of old i ≡ root_of old j → root_of new i ≡ root_of new j

-- the same, and those of the numbers that are joined are in one tree
pub record Joins (boxes : List Rect) (numbers old new : List ℕ) : Type 0 where
  pub grows : Grows boxes old new
  pub joined : (i j : ℕ) → Contains numbers i → Contains numbers j → AreJoined boxes i j → root_of new i ≡ root_of new j

-- ---- lists in the order of lower sides
-- the box of a number
abbrev pub numbered_box : List Rect → ℕ → Rect
numbered_box boxes k = slice_index_or boxes k (record { low = record { x = pos 0; y = pos 0 }; high = record { x = pos 0; y = pos 0 } })

-- the lower side isn't above the higher one
abbrev pub HasHeight : Rect → Type 0
HasHeight b = b.low.y ≤ℤ b.high.y

-- the boxes of the numbers come by their lower sides
abbrev pub AreByBottom : List Rect → List ℕ → Type 0
AreByBottom boxes numbers = (i j : ℕ) → i ≤ j → j < length numbers
    → (numbered_box boxes (slice_index numbers i)).low.y ≤ℤ (numbered_box boxes (slice_index numbers j)).low.y

-- ---- boxes that have a column in common with each of a list
-- none of the boxes ends before the stretch, and none starts behind it
abbrev pub IsStretchOf : List Rect → List ℕ → Stretch → Type 0
IsStretchOf boxes numbers s = (k : ℕ) → Contains numbers k
    → (s.first_end ≤ℤ (numbered_box boxes k).high.x) × ((numbered_box boxes k).low.x ≤ℤ s.last_start)

-- whether the box reaches over the stretch
abbrev pub covers : Stretch → Rect → Bool
covers s b = int_le b.low.x s.first_end && int_le s.last_start b.high.x

-- where a later one of the numbers covers the stretch, it is in one tree with those before it that it is joined to
abbrev pub AreJoinedDown : List Rect → Stretch → List ℕ → List ℕ → Type 0
AreJoinedDown boxes s numbers parents = (i j : ℕ) → i < j → j < length numbers → covers s (numbered_box boxes (slice_index numbers j))
    ≡ true
    → AreJoined boxes (slice_index numbers i) (slice_index numbers j)
    → root_of parents (slice_index numbers i) ≡ root_of parents (slice_index numbers j)

-- where an earlier one covers it, it is in one tree with those behind it that it is joined to
abbrev pub AreJoinedUp : List Rect → Stretch → List ℕ → List ℕ → Type 0
AreJoinedUp boxes s numbers parents = (i j : ℕ) → i < j → j < length numbers → covers s (numbered_box boxes (slice_index numbers i)) ≡ true
    → AreJoined boxes (slice_index numbers i) (slice_index numbers j)
    → root_of parents (slice_index numbers i) ≡ root_of parents (slice_index numbers j)

-- each of the numbers that covers the stretch is in one tree with those that it is joined to
abbrev pub AreCoversJoined : List Rect → Stretch → List ℕ → List ℕ → Type 0
AreCoversJoined boxes s numbers parents = (i j : ℕ) → Contains numbers i → Contains numbers j → covers s (numbered_box boxes i) ≡ true
    → AreJoined boxes i j → root_of parents i ≡ root_of parents j

-- of one and the open ones the highest alone stays open
pub record IsHighestOf (boxes : List Rect) (one : ℕ) (opened top : List ℕ) : Type 0 where
  pub number : ℕ
  pub alone : top ≡ number ∷ []
  pub among : (number ≡ one) ⊎ Contains opened number
  pub above : (numbered_box boxes one).high.y ≤ℤ (numbered_box boxes number).high.y
  pub highest : (k : ℕ) → Contains opened k → (numbered_box boxes k).high.y ≤ℤ (numbered_box boxes number).high.y

-- ---- the two sides of a column
-- whether a corner of the box is on the column or to its left, where the box doesn't cover the stretch
abbrev pub box_reaches_low : Cut → Rect → Bool
box_reaches_low cut b = not (covers cut.stretch b) && (int_le b.low.x cut.column || int_le b.high.x cut.column)

-- whether a corner of the box is to the right of the column, where the box doesn't cover the stretch
abbrev pub box_reaches_high : Cut → Rect → Bool
box_reaches_high cut b = not (covers cut.stretch b) && (int_lt cut.column b.low.x || int_lt cut.column b.high.x)

-- some of the numbers, in their order, and of those whose boxes pass the test all
pub record IsPartOf (test : Rect → Bool) (boxes : List Rect) (numbers part : List ℕ) : Type 0 where
  pub among : (k : ℕ) → Contains part k → Contains numbers k
  pub all : (k : ℕ) (d : Rect) → Contains numbers k → test (slice_index_or boxes k d) ≡ true → Contains part k
  pub by_bottom : AreByBottom boxes part

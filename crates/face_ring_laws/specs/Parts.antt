-- The parts of rings: rings whose bounding boxes have a point in common are in one part, and parts are no larger than
-- that asks.
-- Source: this project's own rule, so that a shape is written for each separate part of a layer.
-- Checked on: with ring 0 joined to 1 and 4, and 2 to 3, the parts are 0 1 4 and 2 3.
use Rattle.std.specs.Prelude.{◌≡◌, ℕ, ◌<◌, ◌==◌, ℤ, pos, ◌*ℤ◌, ◌≤ℤ◌, int_le, Bool, true, ◌&&◌}
use Rattle.std.specs.Prelude.{List, [], ◌∷◌, length, map, slice_index, slice_index_or, if◌then◌else◌}
use Rattle.std.specs.List.{list_any}
use Rattle.lay_point.specs.declared.point.Point.{Point}
use Rattle.lay_point.specs.declared.rect.Rect.{Rect}
use Rattle.lay_point.specs.Parity.{odd}
use Rattle.lay_point.specs.Rects.{grown, touch}
use Rattle.lay_point.specs.RingEdges.{edges_of}

abbrev pub grown_by : Rect → List Point → Rect
grown_by b [] = b
grown_by b (p ∷ ps) = grown_by (grown b p) ps

-- the bounding box; a ring has points
abbrev pub bounding_box : List Point → Rect
bounding_box [] = record { low = record { x = pos 0; y = pos 0 }; high = record { x = pos 0; y = pos 0 } }
bounding_box (p ∷ ps) = grown_by (record { low = p; high = p }) ps

-- the place (x, y) at scale k is in the box, sides included
abbrev pub is_in_box : ℤ → ℤ → ℤ → Rect → Bool
is_in_box k x y b = int_le (k *ℤ b.low.x) x && int_le x (k *ℤ b.high.x) && int_le (k *ℤ b.low.y) y && int_le y (k *ℤ b.high.y)

-- the boxes of these numbers touch
abbrev pub AreJoined : List Rect → ℕ → ℕ → Type 0
AreJoined boxes i j = (i < length boxes) × (j < length boxes)
    × ((d : Rect) → touch (slice_index_or boxes i d) (slice_index_or boxes j d) ≡ true)

-- those of the elements whose label is p, in order
abbrev pub with_label : {A : Type 0} → ℕ → List ℕ → List A → List A
with_label p [] xs = []
with_label p (l ∷ ls) [] = []
with_label p (l ∷ ls) (x ∷ xs) = if l == p then x ∷ with_label p ls xs else with_label p ls xs

-- ---- the partition of the rings

-- the number of a ring's part
abbrev pub part_of : List ℕ → ℕ → ℕ
part_of labels i = slice_index labels i

-- rings that are joined are in one part
abbrev pub KeepsJoined : List (List Point) → (ℕ → ℕ) → Type 0
KeepsJoined rings part = (i j : ℕ) → AreJoined (map bounding_box rings) i j → part i ≡ part j

-- no division of the rings that keeps joined ones together parts two that this one has together
abbrev pub IsFinestOf : List (List Point) → (ℕ → ℕ) → Type 0
IsFinestOf rings part = (other : ℕ → ℕ) → KeepsJoined rings other
    → (i j : ℕ) → i < length rings → j < length rings → part i ≡ part j → other i ≡ other j

-- one of the first n rings is in part p
abbrev pub HasRingOf : List ℕ → ℕ → ℕ → Type 0
HasRingOf labels n p = (j : ℕ) × (j < n) × (part_of labels j ≡ p)

-- these are the parts of the rings, where the labels tell for each ring in which part it is
pub record ArePartsBy (labels : List ℕ) (rings : List (List Point)) (parts : List (List (List Point))) : Type 0 where
  -- it is a partition: each ring is in one part, and no part is empty
  pub each : length labels ≡ length rings
  pub within : (i : ℕ) → i < length rings → part_of labels i < length parts
  pub used : (p : ℕ) → p < length parts → HasRingOf labels (length rings) p
  -- it is the finest that keeps joined rings together
  pub joined : KeepsJoined rings (part_of labels)
  pub finest : IsFinestOf rings (part_of labels)
  -- parts come in the order of their first rings, and a part has its rings in their order
  pub ordered : (i p : ℕ) → i < length rings → p < part_of labels i → HasRingOf labels i p
  pub rings_of_part : (p : ℕ) (d : List (List Point)) → p < length parts → slice_index_or parts p d ≡ with_label p labels rings

abbrev pub AreParts : List (List Point) → List (List (List Point)) → Type 0
AreParts rings parts = (labels : List ℕ) × ArePartsBy labels rings parts

-- some part is odd about a place exactly where all rings together are
abbrev pub PartsTellPlaces : List (List Point) → Type 0
PartsTellPlaces rings = (parts : List (List (List Point))) → AreParts rings parts → (k x y : ℤ) → pos 1 ≤ℤ k →
    list_any (λ part. odd (edges_of part) k x y) parts ≡ odd (edges_of rings) k x y

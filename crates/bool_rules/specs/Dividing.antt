-- The parts of rings, computed. Of rings that are joined, directly or through others, the first is the head of each.
-- Source: this project's own rule, so that a shape is written for each separate part of a layer.
-- Checked on: the box from (0, 0) to (40, 40) without that from (10, 10) to (30, 30) is one shape
-- of two rings; boxes that are apart are two shapes; boxes that share a corner are one.
use Rattle.std.specs.Prelude.{ℕ, suc, ◌==◌, Bool, false, ◌&&◌, ◌||◌, List, [], ◌∷◌, count_by, length, map, slice_index, if◌then◌else◌}
use Rattle.std.specs.List.{range_with_len}
use Rattle.lay_point.specs.declared.point.Point.{Point}
use Rattle.lay_point.specs.declared.rect.Rect.{Rect}
use Rattle.lay_point.specs.Rects.{touch}
use Rattle.face_ring_laws.specs.Parts.{bounding_box, with_label}

-- the box touches one of these that has this head
abbrev pub touches_head : Rect → ℕ → List Rect → List ℕ → Bool
touches_head b head [] heads = false
touches_head b head (c ∷ cs) [] = false
touches_head b head (c ∷ cs) (h ∷ heads) = (h == head && touch b c) || touches_head b head cs heads

-- the heads of a box and those behind it, by the heads that these have without it: it is the head of all that it is joined to
abbrev pub heads_with : Rect → List Rect → List ℕ → List ℕ
heads_with b bs heads = 0 ∷ map (λ head. if touches_head b head bs heads then 0 else suc head) heads

-- for each box the number of its head
abbrev pub heads_of : List Rect → List ℕ
heads_of [] = []
heads_of (b ∷ bs) = heads_with b bs (heads_of bs)

-- how many before this one are heads
abbrev pub heads_before : List ℕ → ℕ → ℕ
heads_before heads n = count_by (λ k. slice_index heads k == k) (range_with_len 0 n)

-- for each ring the number of its part; parts come in the order of their heads
abbrev pub part_labels : List ℕ → List ℕ
part_labels heads = map (heads_before heads) heads

-- for each head the rings that have it, in order
abbrev pub parts_by : List ℕ → List (List Point) → List (List (List Point))
parts_by heads rings = map (λ p. with_label p (part_labels heads) rings) (range_with_len 0 (heads_before heads (length heads)))

-- the parts of the rings
unfoldable pub parts_of : List (List Point) → List (List (List Point))
parts_of rings = parts_by (heads_of (map bounding_box rings)) rings

-- The lower sides of boxes in order.
use Rattle.std.specs.Prelude.{◌≡◌, ◌↔◌, ◌<◌, List, length, Contains}
use Rattle.std.specs.declared.cmp.Ordering.{Ordering}
use Rattle.std.specs.List.Sorted.{IsSorted}
use Rattle.std.specs.Ordering.{int_cmp, nat_cmp, on, then_cmp}
use Rattle.lay_point.specs.declared.rect.Rect.{Rect}
use Rattle.face_rings.specs.declared.bottoms.Bottom.{Bottom}
use Rattle.face_rings.specs.Joining.{numbered_box}

-- what `cmp` of lower sides computes: by y, then by number
abbrev pub bottom_cmp : Bottom → Bottom → Ordering
bottom_cmp = then_cmp (on (λ b. b.y) int_cmp) (on (λ b. b.number) nat_cmp)

-- the lower side of the box of its number
abbrev pub IsBottomOf : List Rect → Bottom → Type 0
IsBottomOf boxes b = (b.number < length boxes) × (b.y ≡ (numbered_box boxes b.number).low.y)

-- the lower sides of all boxes, in order
pub record AreBottomsOf (boxes : List Rect) (bottoms : List Bottom) : Type 0 where
  pub sorted : IsSorted bottom_cmp bottoms
  pub exact : (b : Bottom) → Contains bottoms b ↔ IsBottomOf boxes b

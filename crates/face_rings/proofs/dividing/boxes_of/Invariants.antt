use Rattle.std.proofs.Common.{◌≡◌, map, take}
use Rattle.face_ring_laws.specs.Parts.{bounding_box}
use Rattle.face_rings.proofs.dividing.boxes_of.Given as goal

-- the boxes of the rings so far
abbrev pub invariant-loop-ring : goal.invariant-loop-ring
invariant-loop-ring l = l.boxes.items ≡ map bounding_box (take l.ring-index l.rings)

use Rattle.std.proofs.Common.{◌≡◌, drop}
use Rattle.face_ring_laws.specs.Parts.{bounding_box, grown_by}
use Rattle.face_rings.proofs.dividing.bounds_of.Given as goal

-- the box so far, grown by the points that are left, is the box of all points
abbrev pub invariant-loop-point : goal.invariant-loop-point
invariant-loop-point l = grown_by l.bounds (drop l.point-index l.point-items) ≡ bounding_box l.ring

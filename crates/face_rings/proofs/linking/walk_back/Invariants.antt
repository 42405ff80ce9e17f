use Rattle.std.proofs.Common.{length}
use Rattle.face_rings.specs.Incidence.{IsFirstAt, IsIncidence, KeepsMarks, left_of}
use Rattle.face_ring_laws.proofs.StepLemmas.{IsOnWay}
use Rattle.face_rings.proofs.linking.walk_back.Given as goal

abbrev pub invariant-loop-start : goal.invariant-loop-start
invariant-loop-start l = IsIncidence l.edges l.unused × KeepsMarks l.fn.unused.used.items l.unused.used.items
    × IsOnWay l.start l.fn.stop.at l.stop.at l.fn.points.items l.points.items
    (left_of l.edges l.fn.unused.used.items) (left_of l.edges l.unused.used.items)
    × IsFirstAt l.unused.ends.items l.stop.at l.stop.first

abbrev pub decreases-loop-start : goal.decreases-loop-start
decreases-loop-start l = length (left_of l.edges l.unused.used.items)

use Rattle.std.proofs.Common.{◌+◌, ◌-◌, length}
use Rattle.face_sweep.specs.Ends.{begin_places}
use Rattle.face_sweep.proofs.StopLemmas.{AreStopsTo}
use Rattle.face_sweep.proofs.stops.stops_at.Given as goal

-- the stops so far
abbrev pub invariant-loop-place : goal.invariant-loop-place
invariant-loop-place l = AreStopsTo l.points l.edges (begin_places l.begins) l.tops l.low l.top l.list.items l.begun.items

abbrev pub decreases-loop-place : goal.decreases-loop-place
decreases-loop-place l = (length (begin_places l.begins) - l.low) + (length l.tops - l.top)

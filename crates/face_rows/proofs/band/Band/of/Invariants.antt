use Rattle.std.proofs.Common.{◌≡◌, ◌<◌, true, ℕ, get_or}
use Rattle.lay_point.specs.declared.point.Point.{Point}
use Rattle.face_rows.specs.Bands.{begins_in}
use Rattle.face_rows.proofs.band.Band.of.Given as goal

-- the edges so far begin in it
abbrev pub invariant-loop-edge : goal.invariant-loop-edge
invariant-loop-edge l = (k : ℕ) (d : Point × Point) → k < l.edge-index → begins_in l.band (get_or l.edges k d) ≡ true

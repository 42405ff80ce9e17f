-- The law is a theorem about all quadrilaterals.
use Rattle.snap_edge_laws.proofs.Sideways.{convex_before}
use Rattle.snap_edge_laws.proofs.piece_laws.pieces_touch_before_they_cross.Goals as goal

pub returns : goal.returns
returns c = convex_before

-- The law is a theorem about all lists of segments.
use Rattle.snap_edge_laws.proofs.Theorem.{meet_only_at_ends}
use Rattle.snap_edge_laws.proofs.laws.edges_meet_only_at_ends.Goals as goal

pub returns : goal.returns
returns c = meet_only_at_ends c.args._segments.now

-- The law is a theorem about all lists of segments.
use Rattle.snap_edge_laws.proofs.Chains.{rounded_edges_are_clean as clean}
use Rattle.snap_edge_laws.proofs.chain_laws.rounded_edges_are_clean.Goals as goal

pub returns : goal.returns
returns c = clean c.args._segments.now

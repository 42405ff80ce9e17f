-- Each law is a theorem about all lists of segments.
use Rattle.snap_edge_laws.proofs.Rounded.{rounded_paths_have_edges, rounded_paths_join_ends, rounded_rings_are_even}
use Rattle.snap_edge_laws.proofs.chain_laws.rounded_paths_have_laws.Goals as goal

pub returns-clause-ends : goal.returns-clause-ends
returns-clause-ends c = rounded_paths_join_ends c.args._segments.now

pub returns-clause-edges : goal.returns-clause-edges
returns-clause-edges c = rounded_paths_have_edges c.args._segments.now

pub returns-clause-even : goal.returns-clause-even
returns-clause-even c = rounded_rings_are_even c.args._segments.now

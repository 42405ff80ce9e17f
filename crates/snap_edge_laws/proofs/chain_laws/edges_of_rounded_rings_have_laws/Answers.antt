-- Each law is a theorem about all lists of segments.
use Rattle.snap_edge_laws.proofs.Edges.{edges_are_clean, owned_edges_are_even}
use Rattle.snap_edge_laws.proofs.chain_laws.edges_of_rounded_rings_have_laws.Goals as goal

pub returns-clause-clean : goal.returns-clause-clean
returns-clause-clean c = edges_are_clean c.args._segments.now

pub returns-clause-even : goal.returns-clause-even
returns-clause-even c = owned_edges_are_even c.args._segments.now

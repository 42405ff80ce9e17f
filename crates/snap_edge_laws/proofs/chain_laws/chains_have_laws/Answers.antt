-- Each law is a theorem about all lists of segments.
use Rattle.snap_edge_laws.proofs.Chains.{chains_are_unique, chains_join_ends, neighbours_are_edges}
use Rattle.snap_edge_laws.proofs.chain_laws.chains_have_laws.Goals as goal

pub returns-clause-unique : goal.returns-clause-unique
returns-clause-unique c = chains_are_unique c.args._segments.now

pub returns-clause-neighbours : goal.returns-clause-neighbours
returns-clause-neighbours c = neighbours_are_edges c.args._segments.now

pub returns-clause-ends : goal.returns-clause-ends
returns-clause-ends c = chains_join_ends c.args._segments.now

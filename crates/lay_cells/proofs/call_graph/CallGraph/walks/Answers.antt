use Rattle.lay_cells.proofs.AcyclicLemmas.{all_walks}
use Rattle.lay_cells.proofs.call_graph.CallGraph.walks.Goals as goal

pub returns-in_err-tally-clause-all : goal.returns-in_err-tally-clause-all
returns-in_err-tally-clause-all c = all_walks c.args.self.now.calls c.args.cell c.requires.acyclic

pub returns-clause-all : goal.returns-clause-all
returns-clause-all c = all_walks c.args.self.now.calls c.args.cell c.requires.acyclic

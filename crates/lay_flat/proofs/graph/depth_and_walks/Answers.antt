use Rattle.std.proofs.Common.{◌∙◌, ap}
use Rattle.lay_cells.specs.Tallies.{counted}
use Rattle.lay_flat.proofs.LayoutWalks.{count_is, depth_is, graph_acyclic}
use Rattle.lay_items.proofs.Reaching.{cell_in}
use Rattle.lay_flat.proofs.graph.depth_and_walks.Goals as goal

pub depth-requires-clause-cell : goal.depth-requires-clause-cell
depth-requires-clause-cell c = cell_in c.args.lists.now c.args.cell c.in_ok-graph.graph.symbols c.in_ok-graph.ensures.graph.reached

pub depth-requires-clause-acyclic : goal.depth-requires-clause-acyclic
depth-requires-clause-acyclic c =
    graph_acyclic c.args.lists.now c.in_ok-graph.ensures.sound.acyclic c.args.cell c.in_ok-graph.graph c.in_ok-graph.ensures.graph

pub walks-requires-clause-cell : goal.walks-requires-clause-cell
walks-requires-clause-cell c = cell_in c.args.lists.now c.args.cell c.in_ok-graph.graph.symbols c.in_ok-graph.ensures.graph.reached

pub walks-requires-clause-acyclic : goal.walks-requires-clause-acyclic
walks-requires-clause-acyclic c =
    graph_acyclic c.args.lists.now c.in_ok-graph.ensures.sound.acyclic c.args.cell c.in_ok-graph.graph c.in_ok-graph.ensures.graph

pub returns-clause-depth : goal.returns-clause-depth
returns-clause-depth c =
    c.in_ok-depth.ensures
    ∙ depth_is c.args.lists.now c.in_ok-graph.ensures.sound.acyclic c.args.cell c.in_ok-graph.graph c.in_ok-graph.ensures.graph

pub returns-clause-walks : goal.returns-clause-walks
returns-clause-walks c =
    c.in_ok-walks.ensures.count ∙ ap counted (count_is c.args.lists.now c.in_ok-graph.ensures.sound.acyclic c.args.cell
    c.in_ok-graph.graph c.in_ok-graph.ensures.graph)

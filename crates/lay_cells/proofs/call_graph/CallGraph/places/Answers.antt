use Rattle.std.proofs.Common.{ℕ, List, sym, subst}
use Rattle.lay_cells.specs.Graph.{rows_of}
use Rattle.lay_cells.specs.Places.{AreOrdered}
use Rattle.lay_cells.proofs.PlaceLemmas.{ordered_without_places}
use Rattle.lay_cells.proofs.WalkLemmas.{targets_within}
use Rattle.lay_cells.proofs.call_graph.CallGraph.places.Goals as goal

pub callers_first-requires : goal.callers_first-requires
callers_first-requires c =
    targets_within c.self.inside.symbols c.self.inside.calls.items (rows_of c.self.inside.targets.items) c.self.invariant

pub returns : goal.returns
returns c =
    subst (λ (xs : List ℕ). AreOrdered c.args.self.now xs) (sym c.new.ensures.items)
    (ordered_without_places c.args.self.now.symbols c.args.self.now.calls)

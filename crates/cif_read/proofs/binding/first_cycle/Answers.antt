use Rattle.std.proofs.Common.{◌≡◌, ◌∙◌, map, arith, ap}
use Rattle.std.proofs.lemmas.List.{take_all}
use Rattle.lay_cells.specs.Walks.{Calls}
use Rattle.cif_read.specs.Binding.{edge_of}
use Rattle.cif_read.proofs.binding.first_cycle.Goals as goal

pub returns-clause-acyclic : goal.returns-clause-acyclic
returns-clause-acyclic c =
    let same : c.loop-call.graph.calls ≡ map edge_of c.args.calls.now =
    ap (λ (g : Calls). g.calls) c.loop-call.invariant ∙ ap (map edge_of) (take_all c.loop-call.call-index c.args.calls.now (omega arith)) in
    rw (← same) c.first_cycle.ensures.acyclic

use Rattle.std.proofs.Common.{◌≡◌, ◌∷◌, ◌++◌, [], arith, rules, subst, sym, IsTrue}
use Rattle.lay_cells.specs.declared.cell_id.CellId.TheVariants.{Symbol}
use Rattle.lay_cells.specs.Graph.{rows_of}
use Rattle.lay_cells.specs.Symbols.{has_cell}
use Rattle.lay_cells.specs.Walks.{Calls}
use Rattle.lay_cells.proofs.GraphLemmas.{one_more_call, position_of-within}
use Rattle.lay_cells.proofs.call_graph.CallGraph.add.Goals as goal

pub add_to_row-requires : goal.add_to_row-requires
add_to_row-requires c =
    omega (arith, position_of-within c.self.inside.symbols c.args.caller, c.self.invariant.whole, c.position_of-from.ensures)

-- the row of the caller gets the target, and the calls get the call
pub invariant_of-self-2 : goal.invariant_of-self-2
invariant_of-self-2 c =
    let caller : IsTrue (has_cell c.self.inside.symbols c.args.caller) =
    subst (λ (v : Calls). IsTrue (has_cell v.symbols c.args.caller)) (sym c.self.view_is) c.requires.caller in
    let target : IsTrue (has_cell c.self.inside.symbols (Symbol c.args.target)) =
    subst (λ (v : Calls). IsTrue (has_cell v.symbols (Symbol c.args.target))) (sym c.self.view_is) c.requires.target in
    let pushed : c.push.new.self.items ≡ c.self.inside.calls.items ++ (c.args.caller, c.args.target) ∷ [] = search rules in
    rw (pushed, c.in_ok-add_to_row.ensures.ok) (one_more_call c.self.inside.symbols c.self.inside.calls.items
    (rows_of c.self.inside.targets.items) c.self.invariant c.args.caller c.args.target c.position_of-from.result
    c.position_of-to.result c.position_of-from.ensures c.position_of-to.ensures caller target)

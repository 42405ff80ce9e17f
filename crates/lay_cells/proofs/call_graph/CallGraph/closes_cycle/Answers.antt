use Rattle.std.proofs.Common.{◌≡◌, true, Contains, IsTrue, rules, sym, subst}
use Rattle.lay_cells.specs.Places.{goes_later}
use Rattle.lay_cells.specs.Symbols.{has_cell, has_symbol}
use Rattle.lay_cells.specs.Walks.{Calls}
use Rattle.lay_cells.proofs.PlaceLemmas.{later_closes_none}
use Rattle.lay_cells.proofs.call_graph.CallGraph.closes_cycle.Goals as goal

-- no walk leads back from a later place
pub returns-then-goes_later-clause-complete : goal.returns-then-goes_later-clause-complete
returns-then-goes_later-clause-complete c = λ walk.
    let up : goes_later c.self.inside.symbols c.args.places.now.items c.args.call ≡ true = search rules in
    absurd (later_closes_none c.args.self.now c.args.places.now.items c.requires.ordered c.args.call
    (subst (λ (v : Calls). goes_later v.symbols c.args.places.now.items c.args.call ≡ true) c.self.view_is up) walk)

-- a call is between cells
pub leads-requires-clause-from : goal.leads-requires-clause-from
leads-requires-clause-from c =
    let there : Contains c.self.inside.calls.items c.args.call =
    subst (λ (v : Calls). Contains v.calls c.args.call) (sym c.self.view_is) c.requires.call in
    subst (λ (v : Calls). IsTrue (has_symbol v.symbols c.args.call.1)) c.self.view_is
    (c.self.invariant.targets c.args.call.0 c.args.call.1 there)

pub leads-requires-clause-to : goal.leads-requires-clause-to
leads-requires-clause-to c =
    let there : Contains c.self.inside.calls.items c.args.call =
    subst (λ (v : Calls). Contains v.calls c.args.call) (sym c.self.view_is) c.requires.call in
    subst (λ (v : Calls). IsTrue (has_cell v.symbols c.args.call.0)) c.self.view_is
    (c.self.invariant.callers c.args.call.0 c.args.call.1 there)

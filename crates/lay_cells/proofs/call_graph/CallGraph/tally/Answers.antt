use Rattle.std.proofs.Common.{◌∙◌, ℕ, length, List, map, ap, arith, subst, sym, IsTrue}
use Rattle.std.proofs.lemmas.Result.{IfOk-weaker}
use Rattle.lay_cells.specs.Graph.{rows_of}
use Rattle.lay_cells.specs.Places.{ArePositions}
use Rattle.lay_cells.specs.Symbols.{has_cell}
use Rattle.lay_cells.specs.Tallies.{IsTally, counted}
use Rattle.lay_cells.specs.WalkLists.{longest, walks_from}
use Rattle.lay_cells.specs.Walks.{Calls, IsAcyclic}
use Rattle.lay_cells.proofs.GraphLemmas.{position_of-within}
use Rattle.lay_cells.proofs.TallyLemmas.{height-few, tally_from}
use Rattle.lay_cells.proofs.WalkLemmas.{targets_within}
use Rattle.lay_cells.proofs.call_graph.CallGraph.tally.Goals as goal

pub callees_first-requires : goal.callees_first-requires
callees_first-requires c =
    targets_within c.self.inside.symbols c.self.inside.calls.items (rows_of c.self.inside.targets.items) c.self.invariant

pub tallied-requires-clause-start : goal.tallied-requires-clause-start
tallied-requires-clause-start c =
    omega (arith, position_of-within c.self.inside.symbols c.args.cell, c.self.invariant.whole, c.position_of-start.ensures)

pub tallied-requires-clause-within : goal.tallied-requires-clause-within
tallied-requires-clause-within c =
    targets_within c.self.inside.symbols c.self.inside.calls.items (rows_of c.self.inside.targets.items) c.self.invariant

pub tallied-requires-clause-order : goal.tallied-requires-clause-order
tallied-requires-clause-order c =
    subst (λ (es : List (ℕ × ℕ)). ArePositions (map (λ (e : ℕ × ℕ). e.1) es) (length c.self.inside.targets.items))
    (sym c.deref.ensures.value) c.in_ok-order.ensures

-- no walk has more calls than there are
pub tallied-requires-clause-bounded : goal.tallied-requires-clause-bounded
tallied-requires-clause-bounded c = λ n p.
    let acyclic : IsAcyclic c.self.inside.calls.items = subst (λ (v : Calls). IsAcyclic v.calls) (sym c.self.view_is) c.requires.acyclic in
    let few = height-few c.self.inside.symbols c.self.inside.calls.items (rows_of c.self.inside.targets.items) c.self.invariant
    acyclic n p in
    omega (arith, few, c.len-2.ensures)

pub returns-clause-depth : goal.returns-clause-depth
returns-clause-depth c =
    let cell : IsTrue (has_cell c.self.inside.symbols c.args.cell) =
    subst (λ (v : Calls). IsTrue (has_cell v.symbols c.args.cell)) (sym c.self.view_is) c.requires.cell in
    let acyclic : IsAcyclic c.self.inside.calls.items = subst (λ (v : Calls). IsAcyclic v.calls) (sym c.self.view_is) c.requires.acyclic in
    IfOk-weaker c.tallied.result _ _ (λ tally is.
    (tally_from c.self.inside.symbols c.self.inside.calls.items (rows_of c.self.inside.targets.items) c.self.invariant acyclic
    c.args.cell cell tally (subst (λ (p : ℕ). IsTally (rows_of c.self.inside.targets.items) p tally) c.position_of-start.ensures is)).0
    ∙ ap (λ (v : Calls). longest (walks_from v.calls c.args.cell)) c.self.view_is) c.tallied.ensures

pub returns-clause-walks : goal.returns-clause-walks
returns-clause-walks c =
    let cell : IsTrue (has_cell c.self.inside.symbols c.args.cell) =
    subst (λ (v : Calls). IsTrue (has_cell v.symbols c.args.cell)) (sym c.self.view_is) c.requires.cell in
    let acyclic : IsAcyclic c.self.inside.calls.items = subst (λ (v : Calls). IsAcyclic v.calls) (sym c.self.view_is) c.requires.acyclic in
    IfOk-weaker c.tallied.result _ _ (λ tally is.
    (tally_from c.self.inside.symbols c.self.inside.calls.items (rows_of c.self.inside.targets.items) c.self.invariant acyclic
    c.args.cell cell tally (subst (λ (p : ℕ). IsTally (rows_of c.self.inside.targets.items) p tally) c.position_of-start.ensures is)).1
    ∙ ap (λ (v : Calls). counted (length (walks_from v.calls c.args.cell))) c.self.view_is) c.tallied.ensures

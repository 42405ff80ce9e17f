use Rattle.std.proofs.Common.{◌<◌, length, arith, rules, subst, sym, ◌∙◌, IsTrue, false}
use Rattle.std.proofs.lemmas.List.{get_or_default}
use Rattle.lay_cells.specs.Graph.{rows_of}
use Rattle.lay_cells.specs.Symbols.{has_cell}
use Rattle.lay_cells.specs.Walks.{Calls, Walks}
use Rattle.lay_cells.proofs.GraphLemmas.{position_of-within}
use Rattle.lay_cells.proofs.WalkLemmas.{mark_from_walk, targets_within, walk_from_mark}
use Rattle.lay_cells.proofs.call_graph.CallGraph.leads.Goals as goal

pub reached-requires-clause-start : goal.reached-requires-clause-start
reached-requires-clause-start c =
    omega (arith, position_of-within c.self.inside.symbols c.args.from, c.self.invariant.whole, c.position_of-start.ensures)

pub reached-requires-clause-within : goal.reached-requires-clause-within
reached-requires-clause-within c =
    targets_within c.self.inside.symbols c.self.inside.calls.items (rows_of c.self.inside.targets.items) c.self.invariant

pub index-requires : goal.index-requires
index-requires c =
    let inside : c.position_of-end.result < length c.in_ok-marks.marks.items =
    omega (
      arith,
      position_of-within c.self.inside.symbols c.args.to,
      c.self.invariant.whole,
      c.position_of-end.ensures,
      c.in_ok-marks.ensures.whole,
    ) in
    search (rules, inside)

-- what is marked is on a path, and a path is a walk
pub returns-clause-sound : goal.returns-clause-sound
returns-clause-sound c = λ found.
    let inside : c.position_of-end.result < length c.in_ok-marks.marks.items =
    omega (
      arith,
      position_of-within c.self.inside.symbols c.args.to,
      c.self.invariant.whole,
      c.position_of-end.ensures,
      c.in_ok-marks.ensures.whole,
    ) in
    let from : IsTrue (has_cell c.self.inside.symbols c.args.from) =
    subst (λ (v : Calls). IsTrue (has_cell v.symbols c.args.from)) (sym c.self.view_is) c.requires.from in
    let to : IsTrue (has_cell c.self.inside.symbols c.args.to) =
    subst (λ (v : Calls). IsTrue (has_cell v.symbols c.args.to)) (sym c.self.view_is) c.requires.to in
    subst (λ (v : Calls). Walks v.calls c.args.from c.args.to) c.self.view_is
    (walk_from_mark c.self.inside.symbols c.self.inside.calls.items (rows_of c.self.inside.targets.items) c.self.invariant
    c.args.from c.args.to c.position_of-start.result c.position_of-end.result c.in_ok-marks.marks.items
    c.position_of-start.ensures c.position_of-end.ensures c.in_ok-marks.ensures from to
    (get_or_default c.in_ok-marks.marks.items c.position_of-end.result false c.index.result.now inside ∙ sym c.index.ensures ∙ found))

-- a walk is a path, and what is on a path is marked
pub returns-clause-complete : goal.returns-clause-complete
returns-clause-complete c = λ walk.
    let inside : c.position_of-end.result < length c.in_ok-marks.marks.items =
    omega (
      arith,
      position_of-within c.self.inside.symbols c.args.to,
      c.self.invariant.whole,
      c.position_of-end.ensures,
      c.in_ok-marks.ensures.whole,
    ) in
    c.index.ensures ∙ get_or_default c.in_ok-marks.marks.items c.position_of-end.result c.index.result.now false inside
    ∙ mark_from_walk c.self.inside.symbols c.self.inside.calls.items (rows_of c.self.inside.targets.items) c.self.invariant
    c.args.from c.args.to c.position_of-start.result c.position_of-end.result c.in_ok-marks.marks.items
    c.position_of-start.ensures c.position_of-end.ensures c.in_ok-marks.ensures
    (subst (λ (v : Calls). Walks v.calls c.args.from c.args.to) (sym c.self.view_is) walk)

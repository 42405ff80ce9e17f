use Rattle.std.proofs.Common.{◌≡◌, ◌<◌, length, sym, subst, rules}
use Rattle.lay_point.specs.Rects.{grown}
use Rattle.face_sweep.specs.Reaches.{IsEdgeIn, IsEnclosed}
use Rattle.face_sweep.proofs.ReachLemmas.{grown_set, in_both, enclosed_both, reached_set}
use Rattle.face_sweep.proofs.boxes.widen.Goals as goal

pub returns-then-index-len-clause-grown : goal.returns-then-index-len-clause-grown
returns-then-index-len-clause-grown c =
    let xs = c.args.extents.now.items in
    let less : c.args.shape < length xs = search rules in
    let new = c.grown-then-index-len.result in
    let is : new ≡ grown (grown c.index.result.now c.args.edge.0) c.args.edge.1 = search rules in
    grown_set xs c.args.shape new c.index.result.now less
    (subst (λ z. IsEnclosed z new) c.index.ensures
    (subst (IsEnclosed c.index.result.now) (sym is) (enclosed_both c.index.result.now c.args.edge)))

pub returns-then-index-len-clause-reached : goal.returns-then-index-len-clause-reached
returns-then-index-len-clause-reached c = λ extent h.
    let xs = c.args.extents.now.items in
    let less : c.args.shape < length xs = search rules in
    let new = c.grown-then-index-len.result in
    let is : new ≡ grown (grown c.index.result.now c.args.edge.0) c.args.edge.1 = search rules in
    reached_set xs c.args.shape new c.args.edge extent less
    (subst (λ z. IsEdgeIn z c.args.edge) (sym is) (in_both c.index.result.now c.args.edge)) h

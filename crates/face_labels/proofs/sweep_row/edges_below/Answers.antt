-- Below the first stop of all there is no edge.
use Rattle.std.proofs.Common.{◌-ℤ◌, ◌<◌, [], pos, get_or, length, sym, subst}
use Rattle.face_rows.specs.Rows.{AreRowEdges}
use Rattle.face_sweep.proofs.SweepLemmas.{none_below}
use Rattle.face_labels.proofs.sweep_row.edges_below.Goals as goal

pub returns-then-index-eq0 : goal.returns-then-index-eq0
returns-then-index-eq0 c = λ d.
    let r = c.args.edges.now in
    let list = c.args.stops.now.list.items in
    let none = c.if-index-eq0.true in
    subst (λ ns. AreRowEdges r.0 ((get_or list c.args.index d).point.y -ℤ pos 1) ns) (sym c.new.ensures.items)
    (subst (λ k. AreRowEdges r.0 ((get_or list k d).point.y -ℤ pos 1) []) (sym none)
    (none_below r c.args.stops.now c.requires.stops d (subst (λ k. k < length list) none c.requires.index)))

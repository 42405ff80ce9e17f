use Rattle.std.proofs.Common.{◌∙◌, ap, subst}
use Rattle.std.specs.List.Sorted.{IsPermutation}
use Rattle.face_sweep.specs.Ends.{edge_begins}
use Rattle.face_sweep.proofs.EndLemmas.{are_begins}
use Rattle.face_sweep.proofs.ends.begins_in_order.Goals as goal

pub returns-clause-begins : goal.returns-clause-begins
returns-clause-begins g c =
    let edges = c.args.edges.now in
    let sorted = c.sorted_in_threads.result.items in
    are_begins edges c.args.order.now c.requires sorted c.in_ok-begins.ensures.few
    (subst (λ bs. IsPermutation bs sorted) (c.in_ok-begins.ensures.begins ∙ ap (edge_begins edges) c.spans.ensures)
    c.sorted_in_threads.ensures.permutation)
    c.sorted_in_threads.ensures.sorted
